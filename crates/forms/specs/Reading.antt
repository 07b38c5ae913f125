-- Reading an image of any form of record, line after line (document 01, Image files; Refusal numbers, 11 to 18).
use Rattle.std.specs.Prelude.{ℕ, ◌+◌, Bool, true, false, ◌||◌, List, [], ◌∷◌, ◌++◌, Result, Ok, Err, eqb, leb, length, take, drop, replicate}
use Rattle.ground.specs.Verdict.{number_of}
use Rattle.ground.specs.declared.Reason.{Reason}
use Rattle.lines.specs.Lines.{lines_of, trimmed}
use Rattle.cells.specs.Cells.{not_given, fresh_of, give_of, settled_of}
use Rattle.forms.specs.Form.{Form}
use Rattle.forms.specs.declared.Says.{Says}
use Rattle.forms.specs.declared.Says.TheVariants.{Gives, Ends}

-- The longest text (Refusal numbers, 11).
abbrev pub most_text : ℕ
most_text = 65536

-- What a line says: it gives data, it ends the image, or it is faulty with a number (Refusal numbers, 12 to 16).
pub data Heard : Type 0 where
  gives : Heard
  ends : Heard
  faulty : ℕ → Heard

-- What each case of the code's answer to a line says in the paper's numbers (Refusal numbers, 12 to 16).
abbrev pub says_meant : Result Says Reason → Heard
says_meant (Ok Gives) = gives
says_meant (Ok Ends) = ends
says_meant (Err reason) = faulty (number_of reason)

-- Refusals 12 to 16 in numeric order; a line without fault ends the image or gives its data (Refusal numbers, 12 to 16).
abbrev pub says_by : Bool → Bool → Bool → Bool → Bool → Bool → Heard
says_by false summed known within new last = faulty 12
says_by true false known within new last = faulty 13
says_by true true false within new last = faulty 14
says_by true true true false new last = faulty 15
says_by true true true true false last = faulty 16
says_by true true true true true true = ends
says_by true true true true true false = gives

-- Whether so many bytes from an address on lie in an array of a size; none do at any address (Refusal numbers, 15).
abbrev pub fits_in : ℕ → ℕ → ℕ → Bool
fits_in size address count = eqb count 0 || leb (address + count) size

-- The cells with bytes given from an address on (Image files, address, data).
abbrev pub placed_of : ℕ → List ℕ → List ℕ → List ℕ
placed_of address bs cells = take address cells ++ give_of (drop address cells) bs

-- What a line says to cells, by whether it is the first (Refusal numbers, 12 to 16).
unfoldable pub says_of : Form → Bool → List ℕ → List ℕ → Heard
says_of form first cells l =
    says_by
    (form.formed l)
    (form.summed l)
    (form.typed first l)
    (fits_in (length cells) (form.address l) (length (form.content l)))
    (fresh_of (drop (form.address l) cells) (form.content l))
    (form.last l)

-- The cells with a line's data given (Image files, address, data).
unfoldable pub given_of : Form → List ℕ → List ℕ → List ℕ
given_of form cells l = placed_of (form.address l) (form.content l) cells

-- What a text gives: an array, or a refusal number with its place (Image files; Refusal numbers, 11 to 18).
pub data Reading : Type 0 where
  taken : List ℕ → Reading
  bad : ℕ → ℕ → Reading

-- A faulty line is refused at its place, any byte after the end line is 18 at the first; data go on (Refusal numbers, 12 to 18).
abbrev pub line_by : Heard → ℕ → ℕ → List ℕ → List (List ℕ) → Reading → Reading
line_by (faulty k) place next cells ls rest = bad k place
line_by ends place next cells [] rest = taken (settled_of cells)
line_by ends place next cells (l ∷ ls) rest = bad 18 next
line_by gives place next cells ls rest = rest

-- The lines from a place on, given the whole text's length and the cells so far; no line left is no end record (Refusal numbers, 17).
abbrev pub lines_read : Form → ℕ → ℕ → List ℕ → List (List ℕ) → Reading
lines_read form total place cells [] = bad 17 total
lines_read form total place cells (l ∷ ls) =
    line_by
    (says_of form (eqb place 0) cells (trimmed l))
    place
    (place + length l + 1)
    cells
    ls
    (lines_read form total (place + length l + 1) (given_of form cells (trimmed l)) ls)

-- A text that is too long, and one that is not (Refusal numbers, 11).
abbrev pub text_by : Bool → Reading → Reading
text_by false r = bad 11 0
text_by true r = r

-- What a text gives for an array of a size, where no address is given at first (Refusal numbers, 11 to 18).
unfoldable pub reading_of : Form → ℕ → List ℕ → Reading
reading_of form size text = text_by (leb (length text) most_text) (lines_read form (length text) 0 (replicate size not_given) (lines_of text))
