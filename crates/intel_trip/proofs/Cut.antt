-- What stands past the longest text does not matter to the program. Assumes nothing.
use Prim.Native.Nat.{ℕ, ◌+◌, ◌≤◌, ◌<◌}
use mathlib.Core.Bool.{Bool, true, false}
use mathlib.Core.List.{List}
use mathlib.Core.Path.{◌≡◌, refl, ◌∙◌}
use native.Mathlib.Omega.{arith}
use lib.Dec.{leb}
use lib.ListN.{length, take, length-take}
use lib.Seq.{take_all}
use borrow.Author.Tests.{leb-true, leb-false, lt-leb}
use Rattle.ground.specs.Kind.{kind_of}
use Rattle.forms.specs.Reading.{most_text, reading_of}
use Rattle.intel.specs.Intel.{intel}
use Rattle.tidying.specs.Shown.{shown_of}

-- A text that is not too long is all that is kept of it; of a longer one enough is kept to be too long.
cut_by : (size : ℕ) (text : List ℕ) (b : Bool) → leb (length text) most_text ≡ b
    → reading_of intel size text ≡ reading_of intel size (take (most_text + 1) text)
unfolding reading_of
cut_by size text true e =
    let h : length text ≤ most_text = leb-true (length text) most_text e in
    rw (take_all (most_text + 1) text (omega arith))
cut_by size text false e =
    let h : most_text < length text = leb-false (length text) most_text e in
    let n : length (take (most_text + 1) text) ≡ most_text + 1 = length-take (most_text + 1) text ∙ omega arith in
    rw (e, lt-leb (length (take (most_text + 1) text)) most_text (omega arith))

-- A text is shown as far as it is looked at.
pub shown-cut : (part : ℕ) (text : List ℕ) → shown_of part text ≡ shown_of part (take (most_text + 1) text)
unfolding shown_of
shown-cut part text = rw (← cut_by (kind_of part).size text (leb (length text) most_text) refl)
