-- What the program writes. Of a text that is too long it says 11 whatever follows the first 65,537 bytes, so that it need not read
-- further. A text that is accepted and in the fixed form is written as it is, and what was written for an accepted text is written
-- again. It rests on the claims that it names.
use Prim.Native.Nat.{ℕ, ◌<◌}
use mathlib.Core.List.{List}
use mathlib.Core.Path.{◌≡◌, ap, sym, subst, ◌∙◌}
use native.Mathlib.Omega.{arith}
use lib.ListN.{take}
use borrow.Author.Tests.{lt-ltb}
use Rattle.ground.specs.Kind.{kind_of}
use Rattle.forms.specs.Reading.{taken, reading_of}
use Rattle.forms.specs.Writing.{image_text}
use Rattle.intel.specs.Intel.{intel}
use Rattle.image.proofs.Sizes.{kind-rows}
use Rattle.texts.proofs.Starting.{starts-text}
use Rattle.tidying.specs.Shown.{shown_of}
use Rattle.round_trip.specs.RoundTrip.{Takes}
use Rattle.round_trip.proofs.WrittenBack.{takes-rows}
use Rattle.intel_trip.proofs.Cut.{shown-cut}
use Rattle.image_claims.specs.Trip.{part_rows, Tidied}
use Rattle.image_claims.specs.Images.{IntelTrips, Tidies, TidyTwice}
use Rattle.image_claims.proofs.Trips.{part-trip}

module _ (trips : IntelTrips) (part : ℕ) (k : 0 < (kind_of part).size) where
  -- An accepted text is shown in the fixed form of its array.
  shown-taken : (text array : List ℕ) → Takes intel (part_rows part) text array → shown_of part text ≡ image_text intel array
  unfolding shown_of
  shown-taken text array t =
      let g : reading_of intel (kind_of part).size text ≡ taken array =
      subst (λ (size : ℕ). reading_of intel size text ≡ taken array) (kind-rows part) t in
      rw (lt-ltb 0 (kind_of part).size k, g)

  -- The program's three habits.
  tidied : Tidied part
  tidied =
      record {
        cut = shown-cut part;
        keeps = λ text array t f. shown-taken text array t ∙ (part-trip trips part).writes-back text array t f;
        again = λ text array t.
            let r = takes-rows intel (part_rows part) text array t in
            let s = shown-taken text array t in
            let u = (part-trip trips part).reads-back array r in
            ap (shown_of part) s ∙ shown-taken (image_text intel array) array u ∙ sym s;
      }

-- The habits for every part.
pub tidies-from : IntelTrips → Tidies
tidies-from trips = record { habits = λ part h. tidied trips part (omega arith) }

-- The work done twice.
pub twice-from : Tidies → TidyTwice
twice-from tidies =
    record {
      again = λ part text array out out' out₂ out₂' r r₂ h t x y.
          let a = starts-text (shown_of part text) out r out' x in
          let b = starts-text (shown_of part (take r out')) out₂ r₂ out₂' y in
          b ∙ ap (shown_of part) a ∙ (tidies.habits part (omega arith)).again text array t ∙ sym a;
    }
