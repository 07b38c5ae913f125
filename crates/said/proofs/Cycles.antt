-- A law of the write cycle. Assumes nothing.
use Prim.Native.Nat.{ℕ, ◌-◌}
use mathlib.Core.Bool.{Bool, true, false}
use mathlib.Core.Path.{◌≡◌, refl, sym, ◌∙◌}
use native.Mathlib.Omega.{arith}
use lib.Dec.{ltb}
use borrow.Author.Tests.{ltb-true, ltb-false, lt-ltb, le-ltb}

-- A write cycle goes on after a time exactly if it has more than that left.
pub goes_on : (e w : ℕ) → ltb 0 (w - e) ≡ ltb e w
goes_on e w = by (ltb e w) refl
  where
    by : (b : Bool) → ltb e w ≡ b → ltb 0 (w - e) ≡ ltb e w
    by true h = lt-ltb 0 (w - e) (omega (arith, ltb-true e w h)) ∙ sym h
    by false h = le-ltb 0 (w - e) (omega (arith, ltb-false e w h)) ∙ sym h
