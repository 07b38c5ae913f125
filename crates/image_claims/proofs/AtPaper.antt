-- The claims on images at the paper's image, and the room that is enough. Each rests on the claims that it names.
use Prim.Native.Nat.{ℕ, ◌+◌, ◌*◌, ◌≤◌, ◌<◌}
use mathlib.Core.Path.{◌≡◌, refl, ap, sym, ◌∙◌}
use native.Mathlib.Omega.{arith}
use lib.ListN.{length}
use borrow.Author.Tests.{eq-eqb, le-leb, lt-ltb}
use Rattle.ground.specs.Kind.{kind_of}
use Rattle.ground.specs.Verdict.{accepted}
use Rattle.forms.specs.Form.{row_size}
use Rattle.forms.specs.Writing.{image_text, length_of, most_length}
use Rattle.intel.specs.Intel.{intel}
use Rattle.image.specs.Promises.{write_verdict}
use Rattle.image.proofs.Sizes.{kind-most, kind-rows}
use Rattle.round_trip.specs.Words.{Rows}
use Rattle.round_trip.specs.RoundTrip.{Takes, Fixed, Writers}
use Rattle.image_cases.specs.ImageCases.{paper_array, paper_text, ShownFor, P10}
use Rattle.image_claims.specs.Trip.{part_rows}
use Rattle.image_claims.specs.Images.{IntelTrips, Lengths, DoorTrip, Tidies, TidyTwice, RoomEnough}
use Rattle.image_claims.specs.AtPaper.{PaperFor, AtPaper}
use Rattle.image_claims.proofs.Trips.{part-trip}

-- A buffer of 44 bytes for each row and 12 is enough.
pub room-from : Lengths → RoomEnough
unfolding write_verdict
room-from lengths =
    record {
      room = λ part array out k a h.
          let m : most_length intel (kind_of part).size ≡ 44 * part_rows part + 12 =
          ap (most_length intel) (sym (kind-rows part)) ∙ lengths.rows (part_rows part) in
          let e : length (image_text intel array) ≡ length_of intel array = lengths.answered array in
          let n : most_length intel (kind_of part).size ≤ length out = omega (arith, kind-most part) in
          let u : length (image_text intel array) ≤ most_length intel (kind_of part).size = rw a at (lengths.most array) in
          let s = eq-eqb (length array) (kind_of part).size a in
          (rw (lt-ltb 0 (kind_of part).size k, s, le-leb (most_length intel (kind_of part).size) (length out) n, e), omega arith);
    }

-- Its text is as long as shown.
paper-long : length paper_text ≡ 56
paper-long = refl

-- The claims at the paper's image, for a part of a size, of so many rows and such a room.
paper-at : (part size rows room : ℕ) → ShownFor part size room → (kind_of part).size ≡ size → 0 < (kind_of part).size → part_rows part ≡ rows
    → Rows rows (paper_array size) → 44 * rows + 12 ≡ room → 56 ≤ room
    → IntelTrips → DoorTrip → Tidies → TidyTwice → RoomEnough → PaperFor part size rows room
paper-at part size rows room p s k n bytes m few trips door tidies twice enough =
    let e : part_rows part * row_size ≡ size = kind-rows part ∙ s in
    let writers : Writers intel rows paper_text = record { array = paper_array size; rows = bytes; written = p.written } in
    let fixed : Fixed intel rows paper_text = ((rw n at (part-trip trips part)).exactly paper_text).0 writers in
    let takes : Takes intel (part_rows part) paper_text (paper_array size) = rw e p.read in
    let long : length (paper_array size) ≡ (kind_of part).size = bytes.size ∙ rw (← n) (kind-rows part) in
    record {
      door = λ out numbers out' numbers' old numbers₂ array' numbers₂' r r₂ h f w o g q.
          let v = (enough.room part (paper_array size) out (omega arith) long (omega arith)).0 ∙ ap accepted (ap length p.written ∙ paper-long) in
          door.back part (paper_array size) out numbers out' numbers' old numbers₂ array' numbers₂' r r₂ 56 bytes.bytes f w v (o ∙ sym s) g q;
      fixed = fixed;
      tidied = (tidies.habits part (omega arith)).keeps paper_text (paper_array size) takes fixed.fixed;
      twice = λ out out' out₂ out₂' r r₂ x y. twice.again part paper_text (paper_array size) out out' out₂ out₂' r r₂ (omega arith) takes x y;
      fits = omega (arith, paper-long);
    }

-- At both sizes.
pub paper-from : P10 → IntelTrips → DoorTrip → Tidies → TidyTwice → RoomEnough → AtPaper
unfolding kind_of
paper-from p10 trips door tidies twice enough =
    record {
      small = paper-at 4323 4096 256 11276 p10.small refl (omega arith) refl (record { size = refl; bytes = refl }) refl (omega arith) trips door tidies twice enough;
      large = paper-at 4283 16384 1024 45068 p10.large refl (omega arith) refl (record { size = refl; bytes = refl }) refl (omega arith) trips door tidies twice enough;
    }
