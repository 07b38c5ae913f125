-- What the functions of the writer promise, in any form of record.
use Rattle.std.specs.Prelude.{ℕ, ◌+◌, ◌≤◌, List, ◌≡◌, length}
use Rattle.std.proofs.lemmas.List.Edits.{sets}
use Rattle.cells.specs.Cells.{blank_of}
use Rattle.forms.specs.Form.{Form}
use Rattle.forms.specs.Writing.{row_by, image_text, length_of}

-- A row over a buffer: its line, unless it is all FFh, and where the next line starts.
pub record PutsRow (form : Form) (address : ℕ) (row out : List ℕ) (at r : ℕ) (out' : List ℕ) : Type 0 where
  pub said : out' ≡ sets out at (row_by form (blank_of row) address row)
  pub next : r ≡ at + length (row_by form (blank_of row) address row)
  pub most : r ≤ at + form.row_length

-- An array over a buffer: its fixed form, and the length of that.
pub record PutsRows (form : Form) (array out : List ℕ) (r : ℕ) (out' : List ℕ) : Type 0 where
  pub said : out' ≡ sets out 0 (image_text form array)
  pub next : r ≡ length_of form array
