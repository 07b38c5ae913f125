-- Rooms of zeros. Assumes nothing.
use Prim.Native.Nat.{ℕ, ◌≤◌}
use mathlib.Core.Path.{◌≡◌, sym, subst}
use lib.ListN.{length, take, replicate, length-replicate}
use lib.Seq.{length-take-le}

-- The start of a row of zeros has its length.
pub lent : (most n : ℕ) → n ≤ most → length {0} {A = ℕ} (take n (replicate most 0)) ≡ n
lent most n h = length-take-le _ _ (subst (λ v. n ≤ v) (sym (length-replicate {0} {A = ℕ} most 0)) h)
