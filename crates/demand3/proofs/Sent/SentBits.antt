-- The byte being sent, one bit further with each fall: the bit that is out, the highest of what is left, is the byte's
-- own bit of that number, counted from the highest. Assumes nothing.
use Prim.Native.Nat.{ℕ, zero, suc, ◌+◌, ◌-◌, ◌*◌, ◌/◌, ◌%◌, ◌^◌, ◌≤◌}
use mathlib.Core.Path.{◌≡◌, ap, ◌∙◌}
use native.Mathlib.Nat.{zero-add, suc-add}
use native.Mathlib.Omega.{arith}
use lib.Dec.{eqb}
use Rattle.ground.specs.Numbers.{byte_values}
use Rattle.ground.specs.Cases.{highest}
use Rattle.demand3.specs.Sending.{bit_from}

-- What is left of a byte after so many falls.
abbrev pub shifted : ℕ → ℕ → ℕ
shifted zero v = v
shifted (suc n) v = shifted n v * 2 % byte_values

-- A fall puts each bit below the highest one place up.
one_up : (k v : ℕ) → k ≤ 6 → v * 2 % byte_values / 2 ^ (suc k) % 2 ≡ v / 2 ^ k % 2
one_up zero v h = omega arith
one_up (suc zero) v h = omega arith
one_up (suc (suc zero)) v h = omega arith
one_up (suc (suc (suc zero))) v h = omega arith
one_up (suc (suc (suc (suc zero)))) v h = omega arith
one_up (suc (suc (suc (suc (suc zero))))) v h = omega arith
one_up (suc (suc (suc (suc (suc (suc zero)))))) v h = omega arith
one_up (suc (suc (suc (suc (suc (suc (suc k))))))) v h = absurd (omega arith)

-- After so many falls a bit stands that many places up.
places-up : (n k v : ℕ) → n + k ≤ 7 → shifted n v / 2 ^ (n + k) % 2 ≡ v / 2 ^ k % 2
places-up zero k v h = rw zero-add
places-up (suc n) k v h = rw suc-add (one_up (n + k) (shifted n v) (omega arith) ∙ places-up n k v (omega arith))

-- The bit that is out after n falls is the byte's bit n.
pub bit-out : (n v : ℕ) → n ≤ 7 → highest (shifted n v) ≡ bit_from n v
bit-out n v h =
    let e : n + (7 - n) ≡ 7 = omega arith in
    ap (λ (x : ℕ). eqb x 1) (rw e at (places-up n (7 - n) v (omega arith)))
