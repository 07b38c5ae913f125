-- Laws of the samples' verdict. Assumes nothing.
use Prim.Native.Nat.{ℕ, ◌+◌, ◌≤◌, max}
use mathlib.Core.List.{List, [], ◌∷◌}
use mathlib.Core.Logic.{◌⊎◌, inl, inr}
use lib.ListN.{length}
use mathlib.Core.Path.{◌≡◌, refl}
use native.Mathlib.Omega.{arith}
use borrow.Author.Tests.{le-leb}
use Rattle.std.specs.List.{fold}
use Rattle.ground.specs.Numbers.{most_elapsed, most_level}
use Rattle.ground.specs.Verdict.{Verdict}
use Rattle.limits.specs.Samples.{samples_of}

-- The largest of a number and a row is no less than the number.
least-fold : (xs : List ℕ) (a : ℕ) → a ≤ fold max a xs
least-fold [] a = omega arith
least-fold (x ∷ xs) a = let h = least-fold xs (max a x) in omega (arith, h)

-- Where a row is at its end nothing is left to judge.
pub samples-end : (es ls : List ℕ) (i : ℕ) (v : Verdict) → (length es ≡ 0) ⊎ (length ls ≡ 0) → samples_of i es ls v ≡ v
samples-end [] ls i v h = refl
samples-end (e ∷ es) [] i v h = refl
samples-end (e ∷ es) (l ∷ ls) i v h = elim h [ inl z ↦ absurd (omega (arith, z)) | inr z ↦ absurd (omega (arith, z)) ]

-- Rows of which the largest is within its bound have no faulty sample.
pub samples-clean : (es ls : List ℕ) (i a b : ℕ) (v : Verdict) → fold max a es ≤ most_elapsed → fold max b ls ≤ most_level → samples_of i es ls v ≡ v
samples-clean [] ls i a b v h k = refl
samples-clean (e ∷ es) [] i a b v h k = refl
samples-clean (e ∷ es) (l ∷ ls) i a b v h k =
    let p = least-fold es (max a e) in
    let q = least-fold ls (max b l) in
    rw (le-leb e most_elapsed (omega (arith, p, h)), le-leb l most_level (omega (arith, q, k)))
    (samples-clean es ls (i + 1) (max a e) (max b l) v h k)
