-- Laws of entries laid over a row. Assumes nothing.
use Prim.Native.Nat.{ℕ, ◌+◌}
use mathlib.Core.List.{List, ◌++◌, map, map-append}
use mathlib.Core.Path.{◌≡◌, sym, ap, ◌∙◌}
use native.Mathlib.Omega.{arith}
use lib.ListN.{length, length-append, length-map}
use lib.Seq.{sets}
use Rattle.ground.proofs.Rows.{sets-append}
use Rattle.entries.specs.Entries.{Placed, placed_at, number_of, laid_from, Says}
use Rattle.entries.specs.declared.Entry.{Entry}

-- Lists laid one after the other are their joining laid at once.
pub laid-append : (xs ys : List Placed) (row : List ℕ) (at next : ℕ) → next ≡ at + length xs
    → laid_from next ys (laid_from at xs row) ≡ laid_from at (xs ++ ys) row
laid-append xs ys row at next e =
    sets-append (map number_of xs) (map number_of ys) row at next (e ∙ ap (λ (n : ℕ). at + n) (sym (length-map xs number_of)))
    ∙ ap (λ (vs : List ℕ). sets row at vs) (sym (map-append _ xs ys))

-- What is said in two steps is said in one.
pub says_both : (m n place : ℕ) (xs ys : List Entry) (at mid r : ℕ) (row row₁ row₂ : List ℕ)
    → Says m place xs at row mid row₁ → Says n place ys mid row₁ r row₂ → Says (m + n) place (xs ++ ys) at row r row₂
says_both m n place xs ys at mid r row row₁ row₂ a b =
    let l = length-append xs ys in
    let f : mid ≡ at + length (placed_at place xs) = a.next ∙ ap (λ (k : ℕ). at + k) (sym (length-map xs _)) in
    record {
      laid = b.laid ∙ ap (λ (l : List ℕ). laid_from mid (placed_at place ys) l) a.laid ∙ laid-append (placed_at place xs) (placed_at place ys) row at mid f ∙ ap (λ (l : List Placed). laid_from at l row) (sym (map-append _ xs ys));
      next = omega (arith, l, a.next, b.next);
      few = omega (arith, l, a.few, b.few);
    }
