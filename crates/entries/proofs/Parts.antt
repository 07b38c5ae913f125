-- An entry's number tells its parts apart: nothing of them is lost. Assumes nothing.
use Prim.Native.Nat.{ℕ, ◌+◌, ◌*◌, ◌/◌, ◌%◌, ◌<◌}
use mathlib.Core.Path.{◌≡◌}
use native.Mathlib.Omega.{arith}
use Rattle.ground.specs.Numbers.{byte_values}
use Rattle.std.specs.Prelude.{Some}
use Rattle.withheld.specs.declared.Why.TheVariants.{PageLocked}
use Rattle.withheld.proofs.Pages.{Narrow}
use Rattle.entries.specs.Entries.{reason_note, pages_told, packed_of, tag_unit, note_unit, pages_unit, place_unit, places_told}

-- The parts of a number as they are read from it.
pub record Parts (number place pages note tag value : ℕ) : Type 0 where
  pub placed : number / place_unit ≡ place
  pub paged : number / pages_unit % (byte_values * byte_values) ≡ pages
  pub noted : number / note_unit % byte_values ≡ note
  pub tagged : number / tag_unit % byte_values ≡ tag
  pub valued : number % byte_values ≡ value

-- Parts that keep to their bits are read as they were packed.
pub parts-back : (place pages note tag value : ℕ) → place < places_told → pages < byte_values * byte_values → note < byte_values → tag < byte_values
    → value < byte_values → Parts (packed_of place pages note tag value) place pages note tag value
parts-back place pages note tag value a b c d e =
    record { placed = omega arith; paged = omega arith; noted = omega arith; tagged = omega arith; valued = omega arith }

-- A lock as it is read from note and pages.
pub record Lock (note pages code first last : ℕ) : Type 0 where
  pub coded : note ≡ 8 + code
  pub begins : pages % byte_values ≡ first
  pub ends : pages / byte_values ≡ last

-- The lock that a part of any kind tells (withheld/proofs/Pages, narrow-told) is read as it was told.
pub lock-back : (code first last : ℕ) → Narrow code first last
    → Lock (reason_note (Some (PageLocked code first last))) (pages_told (Some (PageLocked code first last))) code first last
lock-back code first last n = record { coded = omega arith; begins = omega arith; ends = omega arith }
