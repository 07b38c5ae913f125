-- Numbers of a loop over rows of one length. Assumes nothing.
use Prim.Native.Nat.{ℕ, ◌-◌, ◌<◌}
use native.Mathlib.Omega.{arith}

pub goes-less : (n i j : ℕ) → i < n → i < j → n - j < n - i
goes-less n i j h k = omega arith
