-- Laws of two rows compared place by place. Assumes nothing.
use Prim.Native.Nat.{ℕ, suc, ◌+◌, ◌-◌, ◌≤◌}
use mathlib.Core.Bool.{Bool, true, false, cond}
use mathlib.Core.List.{List, [], ◌∷◌}
use mathlib.Core.Path.{◌≡◌, refl, ◌∙◌}
use native.Mathlib.Omega.{arith}
use Rattle.std.specs.List.{prefix_len, zip}
use lib.Dec.{eqb}
use lib.ListN.{length, take, drop, length-drop, drop_of_length-le}
use Rattle.ground.proofs.Rows.{tail-whole}
use Rattle.texts.specs.Differences.{alike_by, alike_for}

-- No place is alike where the second row is at its end.
none_after : (xs : List ℕ) → alike_for xs [] ≡ 0
none_after [] = refl
none_after (x ∷ xs) = refl

pub first_ends : (a b : List ℕ) (i : ℕ) → length a ≤ i → i ≡ i + alike_for (drop i a) (drop i b)
first_ends a b i h = rw (drop_of_length-le a h) (omega arith)

pub second_ends : (a b : List ℕ) (i : ℕ) → length b ≤ i → i ≡ i + alike_for (drop i a) (drop i b)
second_ends a b i h = rw (drop_of_length-le b h, none_after) (omega arith)

-- The pairs of equal bytes at the front are what is alike, as far as the first row goes.
count_by : (b : Bool) (n m : ℕ) → n ≡ m → cond b (1 + n) 0 ≡ alike_by b m
count_by true n m e = omega arith
count_by false n m e = refl

pairs-alike : (xs ys : List ℕ) → prefix_len (λ pair. eqb pair.0 pair.1) (zip xs ys) ≡ alike_for xs ys
pairs-alike [] ys = refl
pairs-alike (x ∷ xs) [] = refl
pairs-alike (x ∷ xs) (y ∷ ys) = count_by (eqb x y) _ _ (pairs-alike xs ys)

within_by : (b : Bool) (n m : ℕ) → n ≤ m → alike_by b n ≤ suc m
within_by true n m h = omega arith
within_by false n m h = omega arith

alike_within : (xs ys : List ℕ) → alike_for xs ys ≤ length xs
alike_within [] ys = omega arith
alike_within (x ∷ xs) [] = omega arith
alike_within (x ∷ xs) (y ∷ ys) = within_by (eqb x y) (alike_for xs ys) (length xs) (alike_within xs ys)

-- The same of what is left of two rows from a place on.
pub alike_left : (a b : List ℕ) (from r : ℕ)
    → r ≡ prefix_len (λ pair. eqb pair.0 pair.1) (zip (take (length a - from) (drop from a)) (take (length b - from) (drop from b)))
    → (r ≡ alike_for (drop from a) (drop from b)) × (r ≤ length a - from)
alike_left a b from r e =
    let h : r ≡ alike_for (drop from a) (drop from b) =
    (rw (tail-whole from a, tail-whole from b) at e) ∙ pairs-alike (drop from a) (drop from b) in
    (h, omega (arith, alike_within (drop from a) (drop from b), length-drop from a))
