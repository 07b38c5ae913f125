-- Laws of joined tests that the library has not. Assumes nothing.
use Prim.Native.Nat.{ℕ}
use mathlib.Core.Bool.{Bool, true, false, not, ◌&&◌, ◌||◌, true≢false}
use mathlib.Core.Path.{◌≡◌, refl, sym}
use native.Mathlib.Omega.{arith}
use lib.Dec.{ltb}
use borrow.Author.Tests.{lt-ltb}

-- Two tests that hold together.
pub and_split : (a b : Bool) → a && b ≡ true → (a ≡ true) × (b ≡ true)
and_split true b e = (refl, e)
and_split false b e = absurd (true≢false (cc))

-- Two tests of which neither holds.
pub or_split : (a b : Bool) → a || b ≡ false → (a ≡ false) × (b ≡ false)
or_split true b e = absurd (true≢false e)
or_split false b e = (refl, e)

-- A test whose negation holds.
pub not-held : (b : Bool) → not b ≡ true → b ≡ false
not-held true e = absurd (true≢false (sym e))
not-held false e = refl

-- A test whose negation does not hold.
pub not-failed : (b : Bool) → not b ≡ false → b ≡ true
not-failed true e = refl
not-failed false e = absurd (true≢false e)

-- A number that is not 0 passes the test for more than 0.
pub not-zero : (n : ℕ) → (n ≡ 0 → ⊥) → ltb 0 n ≡ true
not-zero n h = lt-ltb 0 n (omega arith)
