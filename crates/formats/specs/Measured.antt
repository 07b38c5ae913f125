-- How long the lines of Intel's form are: what its impl proves to whoever is generic over the form. Assumes nothing.
use Prim.Native.Nat.{ℕ, ◌+◌, ◌*◌}
use mathlib.Core.List.{List, []}
use mathlib.Core.Path.{◌≡◌, ◌∙◌}
use native.Mathlib.Omega.{arith}
use lib.ListN.{length, length-append}
use Rattle.hexfile.proofs.PairLaws.{length-text_of}
use Rattle.forms.specs.Writing.{closed, Measured}
use Rattle.intel.specs.Intel.{data_type, end_type, record_line, intel}

-- A record's line has 12 characters beside those of its data, its line feed included.
pub length-record : (address type : ℕ) (bs : List ℕ) → length (closed (record_line address type bs)) ≡ 12 + 2 * length bs
unfolding record_line
length-record address type bs = simp (length-append, length-text_of) (omega arith)

-- So the lines of Intel's form are as long as it says.
pub intel-measured : Measured intel
intel-measured =
    record { row = λ address row h. length-record address data_type row ∙ rw h; end = length-record 0 end_type [] }
