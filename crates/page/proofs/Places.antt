-- Laws of the places that a counter goes through. Assumes nothing.
use Prim.Native.Nat.{ℕ, zero, suc, ◌+◌, ◌%◌, ◌<◌}
use mathlib.Core.Bool.{Bool, true, false}
use mathlib.Core.Path.{◌≡◌, refl, ◌∙◌}
use native.Mathlib.Omega.{arith}
use lib.Dec.{ltb}
use borrow.Author.Tests.{ltb-true}
use Rattle.ground.specs.Numbers.{page_size}
use Rattle.ground.specs.Cases.{or_zero}
use Rattle.page.specs.Page.{page_of, in_page, first_of, next_in_page, next_in_array}
use Rattle.ground.specs.declared.kinds.Kind.{Kind}
use Rattle.part.specs.declared.state.Place.{Place}

-- The place n steps on within a page.
abbrev pub steps_on : ℕ → Place → Place
steps_on zero p = p
steps_on (suc n) p = steps_on n (next_in_page p)

-- A step stays in its page.
pub page-stays : (p : Place) → page_of (next_in_page p) ≡ page_of p
page-stays p = omega arith

-- A step goes one on within the page, the last going to the first.
pub place-in-page : (p : Place) → in_page (next_in_page p) ≡ (in_page p + 1) % page_size
place-in-page p = omega arith

-- The place n steps on: that many on from it, counted within its page.
pub steps_on_lem : (n : ℕ) (p : Place) → (steps_on n p).0 ≡ first_of p + (in_page p + n) % page_size
steps_on_lem zero p = omega arith
steps_on_lem (suc n) p = steps_on_lem n (next_in_page p) ∙ omega arith

-- In an array of whole pages a step stays in the array.
pub array-stays : (p : Place) (size : ℕ) → size % page_size ≡ 0 → p.0 < size → (next_in_page p).0 < size
array-stays p size w h = omega arith

-- The step at a read stays in the array.
pub read_stays : (k : Kind) (p : Place) → 0 < k.size → (next_in_array k p).0 < k.size
read_stays k p h = go (ltb (p.0 + 1) k.size) refl
  where
    go : (b : Bool) → ltb (p.0 + 1) k.size ≡ b → or_zero b (p.0 + 1) < k.size
    go true e = ltb-true (p.0 + 1) k.size e
    go false e = h
