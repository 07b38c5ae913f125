-- Writing an image in the fixed form of any form of record (document 01, Image files, the writer).
use Rattle.std.specs.Prelude.{ℕ, zero, suc, ◌+◌, ◌*◌, ◌/◌, Bool, true, false, List, [], ◌∷◌, ◌++◌, ◌≡◌, length, take, drop}
use Rattle.lines.specs.Lines.{line_feed}
use Rattle.cells.specs.Cells.{blank_of}
use Rattle.forms.specs.Form.{Form, row_size}

-- A line with its line feed (Image files, each with a line feed).
abbrev pub closed : List ℕ → List ℕ
closed l = l ++ (line_feed ∷ [])

-- A row all FFh is left out, any other has its line (Image files, the writer).
abbrev pub row_by : Form → Bool → ℕ → List ℕ → List ℕ
row_by form true address row = []
row_by form false address row = closed (form.row address row)

-- So many rows from an address on, ascending, then the end line (Image files, the writer).
abbrev pub rows_text : Form → ℕ → ℕ → List ℕ → List ℕ
rows_text form zero address bs = closed form.end
rows_text form (suc n) address bs =
    row_by form (blank_of (take row_size bs)) address (take row_size bs) ++ rows_text form n (address + row_size) (drop row_size bs)

-- How many whole rows an array has (Image files, the writer).
abbrev pub rows_in : List ℕ → ℕ
rows_in array = length array / row_size

-- The fixed form of an array (Image files, the writer).
unfoldable pub image_text : Form → List ℕ → List ℕ
image_text form array = rows_text form (rows_in array) 0 array

-- Whether a row is written: 1 if it is, 0 if it is all FFh (Image files, the writer).
abbrev pub written_rows : Bool → ℕ
written_rows true = 0
written_rows false = 1

-- How many of so many rows are written (Image files, the writer).
abbrev pub rows_written : ℕ → List ℕ → ℕ
rows_written zero bs = 0
rows_written (suc n) bs = written_rows (blank_of (take row_size bs)) + rows_written n (drop row_size bs)

-- Characters of so many rows' lines and of the end line (Image files, the writer; Refusal numbers, 19).
unfoldable pub lines_length : Form → ℕ → ℕ
lines_length form n = form.row_length * n + form.end_length

-- The length of an array's fixed form: only rows that are not all FFh count (Image files, it answers the length).
abbrev pub length_of : Form → List ℕ → ℕ
length_of form array = lines_length form (rows_written (rows_in array) array)

-- The longest fixed form of an array of that length (Refusal numbers, 19).
abbrev pub most_length : Form → ℕ → ℕ
most_length form size = lines_length form (size / row_size)

-- The lengths that a form names are those of its lines (Refusal numbers, 19).
pub record Measured (form : Form) : Type 0 where
  pub row : (address : ℕ) (row : List ℕ) → length row ≡ row_size → length (closed (form.row address row)) ≡ form.row_length
  pub end : length (closed form.end) ≡ form.end_length
