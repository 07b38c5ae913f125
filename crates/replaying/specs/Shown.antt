-- What the program writes for a dump and an image (request 2026-03, the report; docs/DECISIONS.md, "2026-03, the program").
use Rattle.std.specs.Prelude.{ℕ, List, []}
use Rattle.ground.specs.Verdict.{Verdict, accepted, refused, unless_refused}
use Rattle.texts.specs.Refusal.{refusal_line}
use Rattle.forms.specs.Reading.{Reading, taken, bad}
use Rattle.tidying.specs.Shown.{text_gives}
use Rattle.refusals.specs.Refusals.{power_of}
use Rattle.places.specs.Places.{places_of, open_verdict}
use Rattle.listing.specs.Listing.{places_text}

-- The image's refusal, or what follows with the array that it gives (2026-03, image file).
abbrev pub image_then : Reading → (List ℕ → Verdict) → Verdict
image_then (taken array) next = next array
image_then (bad k p) next = refused k p

-- The verdict on all that is given: part, select, stored byte, then the image, then the dump (2026-03, refused first, with their own place).
unfoldable pub start_verdict : ℕ → ℕ → ℕ → List ℕ → List ℕ → Verdict
start_verdict part select stored image dump =
    unless_refused (power_of part select stored) (image_then (text_gives part image) (λ (array : List ℕ). open_verdict part select stored dump array))

-- The array that an image gives; of a refused one nothing is asked.
abbrev pub given_by : Reading → List ℕ
given_by (taken array) = array
given_by (bad k p) = []

-- A refusal is one line, a report the places (2026-03, on a refusal only its number and line).
abbrev pub replay_by : Verdict → List ℕ → List ℕ
replay_by (accepted n) text = text
replay_by (refused k p) text = refusal_line k p

-- What is written (2026-03, the report).
unfoldable pub replay_text : ℕ → ℕ → ℕ → List ℕ → List ℕ → List ℕ
replay_text part select stored image dump =
    replay_by (start_verdict part select stored image dump) (places_text (places_of part select stored dump (given_by (text_gives part image))))
