-- What a reading comes to: the answer, and the array (document 01, Refusal numbers, 5, 11 to 18).
use Rattle.std.specs.Prelude.{ℕ, List}
use Rattle.ground.specs.Verdict.{Verdict, accepted, refused}
use Rattle.forms.specs.Reading.{Reading, taken, bad}

-- The answer to a reading: acceptance, by our choice with the text's length, or the refusal (Refusal numbers, 5, 11 to 18).
abbrev pub verdict_of : Reading → ℕ → Verdict
verdict_of (taken array) n = accepted n
verdict_of (bad k p) n = refused k p

-- The array after a reading: what the text gives; after a refusal as it was (Refusal numbers, any other refusal).
abbrev pub array_after : Reading → List ℕ → List ℕ
array_after (taken array) old = array
array_after (bad k p) old = old
