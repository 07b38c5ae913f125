-- The claims on images, each of exactly the type that specs/ names. No axiom is used.
use Prim.Native.Nat.{◌*◌, ◌/◌}
use mathlib.Core.Path.{◌≡◌, refl, ◌∙◌}
use native.Mathlib.Omega.{arith}
use Rattle.forms.specs.Writing.{lines_length}
use Rattle.forms.proofs.Lengths.{length-image, length_most}
use Rattle.intel.specs.Intel.{intel}
use Rattle.formats.specs.Measured.{length-record, intel-measured}
use Rattle.round_trip.proofs.RoundTrip.{round_trip}
use Rattle.intel_trip.proofs.IntelSound.{intel-sound}
use Rattle.image_cases.proofs.ImageCases.{p10}
use Rattle.image_claims.specs.Images.{RoundTrips, IntelTrips, Lengths, WriteThenRead, DoorTrip, Tidies, TidyTwice, RoomEnough}
use Rattle.image_claims.specs.AtPaper.{AtPaper}
use Rattle.image_claims.proofs.Trips.{intel-from}
use Rattle.image_claims.proofs.Door.{door-from}
use Rattle.image_claims.proofs.Operations.{write-from}
use Rattle.image_claims.proofs.Tidied.{tidies-from, twice-from}
use Rattle.image_claims.proofs.AtPaper.{room-from, paper-from}

-- The round trip in every sound form of record.
pub round-trips : RoundTrips
round-trips = record { trip = λ form n sound h. round_trip form sound n h }

-- That of Intel's form.
pub intel-trips : IntelTrips
intel-trips = intel-from round-trips intel-sound

-- The lengths.
pub lengths : Lengths
unfolding lines_length
lengths =
    record {
      answered = length-image intel intel-measured;
      row = λ address row h. length-record address 0 row ∙ rw h;
      end = length-record 0 1 _;
      most = λ array. omega (arith, length-image intel intel-measured array, length_most intel array);
      rows = λ n. let e : n * 16 / 16 ≡ n = omega arith in rw e;
      small = refl;
      large = refl;
    }

-- Written and read back, by the operations.
pub write-then-read : WriteThenRead
write-then-read = write-from intel-trips lengths

-- Through the door.
pub door-trip : DoorTrip
door-trip = door-from write-then-read

-- The program's habits.
pub tidies : Tidies
tidies = tidies-from intel-trips

-- Its work done twice.
pub tidy-twice : TidyTwice
tidy-twice = twice-from tidies

-- The room that is enough.
pub room-enough : RoomEnough
room-enough = room-from lengths

-- All of it at the paper's image.
pub at-paper : AtPaper
at-paper = paper-from p10 intel-trips door-trip tidies tidy-twice room-enough
