-- What the functions of one line promise, whatever its form.
use Rattle.std.specs.Prelude.{ℕ, Bool, true, false, List, ◌≡◌, Result, length, drop}
use Rattle.ground.specs.declared.Reason.{Reason}
use Rattle.cells.specs.Cells.{fresh_of}
use Rattle.forms.specs.Form.{Form}
use Rattle.forms.specs.Reading.{Heard, gives, ends, faulty, says_meant, says_by, fits_in, placed_of, says_of, given_of}
use Rattle.forms.specs.declared.Says.{Says}

-- The cells after a line: only data that are given change them. After a fault they are of no more use, and nothing is said of them.
abbrev pub cells_by : Heard → List ℕ → List ℕ → List ℕ → List ℕ
cells_by gives cells given cells' = given
cells_by ends cells given cells' = cells
cells_by (faulty k) cells given cells' = cells'

-- Data at an address: refusals 15 and 16, or the cells with the data given.
pub record Places (address : ℕ) (bs cells : List ℕ) (r : Result Says Reason) (cells' : List ℕ) : Type 0 where
  pub said : says_meant r ≡ says_by true true true (fits_in (length cells) address (length bs)) (fresh_of (drop address cells) bs) false
  pub kept : cells' ≡ cells_by (says_meant r) cells (placed_of address bs cells) cells'

-- A line: what it says, and the cells after it.
pub record HearsLine (form : Form) (first : Bool) (line cells : List ℕ) (r : Result Says Reason) (cells' : List ℕ) : Type 0 where
  pub said : says_meant r ≡ says_of form first cells line
  pub kept : cells' ≡ cells_by (says_meant r) cells (given_of form cells line) cells'
