-- Laws of a value laid over the bits that marks name, by the machine's operations on bits. Assumes nothing.
use Prim.Native.Nat.{ℕ, zero, suc, ◌+◌, ◌*◌, ◌/◌, ◌%◌, ◌≤◌, max}
use mathlib.Core.Bool.{Bool, true, false}
use mathlib.Core.Path.{◌≡◌, refl, ◌∙◌}
use native.Mathlib.Omega.{arith}
use lib.Bits.{bit_or, bit_xor, differ, or_step, xor_step}
use borrow.Author.Tests.{eqb-true, eqb-false}
use Rattle.ground.specs.Cases.{odd}
use Rattle.wires.specs.Wires.{bit_by, laid}
use Rattle.wires.proofs.WireLaws.{bit-small}

-- An operation that lays the value over one bit at each halving lays it over the lower four.
module _ (f : ℕ → ℕ → ℕ) (value : ℕ) (small : value ≤ 1)
    (step : (old marks : ℕ) → f old marks ≡ f (old / 2) (marks / 2) * 2 + bit_by (odd marks) value old) where
  four-laid : (old marks : ℕ) → f old marks % 16 ≡ laid value marks old
  unfolding laid
  four-laid old marks =
      let o4 : old / 2 / 2 ≡ old / 4 = omega arith in
      let o8 : old / 4 / 2 ≡ old / 8 = omega arith in
      let m4 : marks / 2 / 2 ≡ marks / 4 = omega arith in
      let m8 : marks / 4 / 2 ≡ marks / 8 = omega arith in
      let s = step old marks in
      let s2 = rw (o4, m4) at (step (old / 2) (marks / 2)) in
      let s4 = rw (o8, m8) at (step (old / 4) (marks / 4)) in
      let s8 = step (old / 8) (marks / 8) in
      let a = bit-small (odd marks) value old small in
      let b = bit-small (odd (marks / 2)) value (old / 2) small in
      let c = bit-small (odd (marks / 4)) value (old / 4) small in
      let d = bit-small (odd (marks / 8)) value (old / 8) small in
      omega arith

-- Joining the marks sets the lowest bit if it is named.
set-by : (b : Bool) (old marks : ℕ) → odd marks ≡ b → max (old % 2) (marks % 2) ≡ bit_by b 1 old
set-by true old marks e = let k = eqb-true (marks % 2) 1 e in omega arith
set-by false old marks e = let k = eqb-false (marks % 2) 1 e in omega arith

set-step : (old marks : ℕ) → bit_or old marks ≡ bit_or (old / 2) (marks / 2) * 2 + bit_by (odd marks) 1 old
set-step old marks = or_step old marks ∙ rw (set-by (odd marks) old marks refl)

-- Taking them out again clears it.
differ-none : (n : ℕ) → differ n 0 ≡ n
differ-none zero = refl
differ-none (suc n) = refl

clear-by : (b : Bool) (old marks : ℕ) → odd marks ≡ b → differ (bit_by b 1 old) (marks % 2) ≡ bit_by b 0 old
clear-by true old marks e = let k = eqb-true (marks % 2) 1 e in rw k
clear-by false old marks e =
    let n = eqb-false (marks % 2) 1 e in
    let k : marks % 2 ≡ 0 = omega arith in
    rw (k, differ-none (old % 2))

clear_step : (old marks : ℕ)
    → bit_xor (bit_or old marks) marks ≡ bit_xor (bit_or (old / 2) (marks / 2)) (marks / 2) * 2 + bit_by (odd marks) 0 old
clear_step old marks =
    let s = set-step old marks in
    let a = bit-small (odd marks) 1 old (omega arith) in
    let h : bit_or old marks / 2 ≡ bit_or (old / 2) (marks / 2) = omega arith in
    let l : bit_or old marks % 2 ≡ bit_by (odd marks) 1 old = omega arith in
    xor_step (bit_or old marks) marks ∙ rw (h, l, clear-by (odd marks) old marks refl)

-- A value of 1 is laid by joining the marks, and a value of 0 by taking them out again.
module _ (value marks old : ℕ) where
  pub laid-set : value ≡ 1 → bit_or old marks % 16 ≡ laid value marks old
  laid-set e = rw e (four-laid bit_or 1 (omega arith) set-step old marks)

  pub laid-clear : value ≤ 1 → (value ≡ 1 → ⊥) → bit_xor (bit_or old marks) marks % 16 ≡ laid value marks old
  laid-clear h n =
      let e : value ≡ 0 = omega arith in
      rw e (four-laid (λ (o m : ℕ). bit_xor (bit_or o m) m) 0 (omega arith) clear_step old marks)
