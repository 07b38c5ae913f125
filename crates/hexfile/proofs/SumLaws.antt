-- Laws of the sum of bytes that stand before noughts. Assumes nothing.
use Prim.Native.Nat.{ℕ, zero, suc, ◌+◌, ◌-◌, ◌%◌, ◌≤◌}
use mathlib.Core.List.{List, ◌++◌}
use mathlib.Core.Path.{◌≡◌, refl, ap, sym, ◌∙◌}
use native.Mathlib.Omega.{arith}
use lib.Dec.{eqb}
use lib.ListN.{length, take, drop, replicate, length-drop}
use lib.Seq.{take-add, take_at, drop_at, take-append-le, length-take-le}
use Rattle.hexfile.specs.Pairs.{sum_of}
use Rattle.hexfile.specs.Promises.{SumsUp}
use Rattle.hexfile.proofs.PairLaws.{sum-append}

-- Noughts add up to nothing.
sum-noughts : (k n : ℕ) → sum_of (take k (replicate n 0)) ≡ 0
sum-noughts zero n = refl
sum-noughts (suc k) zero = refl
sum-noughts (suc k) (suc n) = omega (arith, sum-noughts k n)

-- One turn of the adding up: eight bytes more.
pub sums-turn : (room : List ℕ) (i : ℕ) {total r : ℕ} → total ≡ sum_of (take i room) % 256
    → r ≡ (total + sum_of (take (i + 8 - i) (drop i room))) % 256 → r ≡ sum_of (take (i + 8) room) % 256
sums-turn room i e f =
    let m : i + 8 - i ≡ 8 = omega arith in
    let g = rw m at f in
    rw (take-add i 8 room, sum-append (take i room) (take 8 (drop i room))) (omega arith)

-- The first bytes of a room, and behind them eight noughts: the sum of at most so many is theirs.
sums-done : (room rest ys : List ℕ) (count i : ℕ) {total : ℕ} → count ≤ length room → count ≤ i → i ≤ count + 8
    → ys ≡ replicate 8 0 → total ≡ sum_of (take i (take count room ++ (ys ++ rest))) % 256
    → total ≡ sum_of (take count room) % 256
sums-done room rest ys count i h k p e f =
    let m : count + (i - count) ≡ i = omega arith in
    let n : length (take count room) ≡ count = length-take-le count room h in
    let l : List ℕ = take count room ++ (ys ++ rest) in
    let t : take i l ≡ take count room ++ take (i - count) (replicate 8 0) =
    ap (λ (j : ℕ). take j l) (sym m)
    ∙ rw (
      take-add count (i - count) l,
      take_at (take count room) (ys ++ rest) count n,
      drop_at (take count room) (ys ++ rest) count n,
      e,
      take-append-le (i - count) (replicate 8 0) rest (omega arith),
    ) in
    let z = sum-noughts (i - count) 8 in
    f ∙ rw (t, sum-append (take count room) (take (i - count) (replicate 8 0)), z) (omega arith)

pub sums-up : (room rest ys : List ℕ) (count i : ℕ) {total : ℕ} → count + 8 ≤ length room → count ≤ i → i ≤ count + 8
    → ys ≡ replicate (length (take (count + 8 - count) (drop count room))) 0
    → total ≡ sum_of (take i (take count room ++ (ys ++ rest))) % 256
    → SumsUp room count (eqb total 0) (take count room ++ (ys ++ rest))
sums-up room rest ys count i {total} h k p e f =
    let m : count + 8 - count ≡ 8 = omega arith in
    let l : 8 ≤ length (drop count room) = simp length-drop (omega arith) in
    let g : ys ≡ replicate 8 0 = rw (m, length-take-le 8 (drop count room) l) at e in
    record {
      said = rw (sums-done room rest ys count i (omega arith) k p g f);
      bytes = take_at (take count room) (ys ++ rest) count (length-take-le count room (omega arith));
    }
