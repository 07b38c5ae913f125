-- Intel's round trip out of the round trip of every sound form. Assumes the claims that it names.
use Prim.Native.Nat.{ℕ, ◌*◌, ◌≤◌}
use native.Mathlib.Omega.{arith}
use Rattle.ground.specs.Numbers.{large_size}
use Rattle.forms.specs.Form.{row_size}
use Rattle.forms.specs.Reading.{most_text}
use Rattle.forms.specs.Writing.{lines_length}
use Rattle.intel.specs.Intel.{intel}
use Rattle.image.proofs.Sizes.{kind-most, kind-rows}
use Rattle.round_trip.specs.Sound.{Sound}
use Rattle.round_trip.specs.RoundTrip.{RoundTrip}
use Rattle.image_claims.specs.Trip.{part_rows}
use Rattle.image_claims.specs.Images.{RoundTrips, IntelTrips}

-- The longest text of an array no larger than the larger part's can be read.
part-fits : (n : ℕ) → n * row_size ≤ large_size → lines_length intel n ≤ most_text
unfolding lines_length
part-fits n h = omega arith

-- Intel's round trip, at any number of rows that a part can have.
pub intel-from : RoundTrips → Sound intel → IntelTrips
intel-from t s = record { sound = s; trip = λ n h. t.trip intel n s (part-fits n (omega arith)) }

-- So it holds of the array of each part.
pub part-trip : IntelTrips → (part : ℕ) → RoundTrip intel (part_rows part)
part-trip trips part = trips.trip (part_rows part) (omega (arith, kind-rows part, kind-most part))
