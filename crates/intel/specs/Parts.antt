-- What the inner functions promise each other.
use Rattle.std.specs.Prelude.{ℕ, ◌/◌, Bool, true, List, Result, ◌≡◌, eqb, length, take, drop}
use Rattle.ground.specs.declared.Reason.{Reason}
use Rattle.hexfile.specs.Pairs.{sums_to_zero}
use Rattle.cells.specs.Cells.{fresh_of}
use Rattle.forms.specs.Reading.{Heard, says_meant, says_by, fits_in, placed_of}
use Rattle.forms.specs.Parts.{cells_by}
use Rattle.forms.specs.declared.Says.{Says}
use Rattle.intel.specs.Intel.{end_type, bytes_in, record_address, type_of, data_of, well_formed, typed}

-- Whether a line is well formed, and if it is, its bytes at the start of the room.
pub record Forms (line : List ℕ) (r : Bool) (room' : List ℕ) : Type 0 where
  pub said : r ≡ well_formed line
  pub bytes : r ≡ true → take (length line / 2) room' ≡ bytes_in line

-- What a record's bytes say to cells, given whether its line is well formed.
unfoldable pub record_says : List ℕ → Bool → List ℕ → Heard
record_says cells formed bs =
    says_by
    formed
    (sums_to_zero bs)
    (typed bs)
    (fits_in (length cells) (record_address bs) (length (data_of bs)))
    (fresh_of (drop (record_address bs) cells) (data_of bs))
    (eqb (type_of bs) end_type)

-- The bytes of a well-formed line whose checksum is right: what they say, and the cells after them.
pub record Judges (bs cells : List ℕ) (r : Result Says Reason) (cells' : List ℕ) : Type 0 where
  pub said : says_meant r ≡ record_says cells true bs
  pub kept : cells' ≡ cells_by (says_meant r) cells (placed_of (record_address bs) (data_of bs) cells) cells'
