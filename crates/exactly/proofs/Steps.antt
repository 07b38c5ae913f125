-- Refusals that come one after the other, each at place 0. Assumes nothing.
use Prim.Native.Nat.{ℕ, ◌≤◌, ◌<◌}
use mathlib.Core.Bool.{Bool, true, false}
use mathlib.Core.Logic.{◌↔◌}
use mathlib.Core.Path.{◌≡◌, refl, sym, ◌∙◌}
use native.Mathlib.Omega.{arith}
use Rattle.std.specs.Prelude.{Result}
use Rattle.ground.specs.Verdict.{Verdict, accepted, refused, meant}
use Rattle.ground.specs.declared.Refusal.{Refusal}
use Rattle.ground.proofs.Verdicts.{apart}

-- A test before a verdict: failed, it is refused with a number.
abbrev pub step : Bool → ℕ → Verdict → Verdict
step true k v = v
step false k v = refused k 0

-- Numbers that a verdict refuses with are above another.
abbrev pub Above : ℕ → Verdict → Type 0
Above k v = (j q : ℕ) → v ≡ refused j q → k < j

-- And at most another.
abbrev pub Most : ℕ → Verdict → Type 0
Most m v = (j q : ℕ) → v ≡ refused j q → j ≤ m

pub above-accepted : (k n : ℕ) → Above k (accepted n)
above-accepted k n j q e = absurd (apart j q n (sym e))

pub most-accepted : (k n : ℕ) → Most k (accepted n)
most-accepted k n j q e = absurd (apart j q n (sym e))

pub above_step : (b : Bool) (k m : ℕ) (v : Verdict) → k < m → Above k v → Above k (step b m v)
above_step true k m v h a j q e = a j q e
above_step false k m v h a j q e = let f : m ≡ j = cc in omega arith

pub most_step : (b : Bool) (k m : ℕ) (v : Verdict) → m ≤ k → Most k v → Most k (step b m v)
most_step true k m v h a j q e = a j q e
most_step false k m v h a j q e = let f : m ≡ j = cc in omega arith

-- The test that a refusal comes from has failed.
pub stop : (b : Bool) (k p : ℕ) (v : Verdict) → Above k v → step b k v ≡ refused k p → (b ≡ false) × (p ≡ 0)
stop true k p v a e = let h : k < k = a k p e in absurd (omega arith)
stop false k p v a e = (refl, cc)

pub stopped : (b : Bool) (k p : ℕ) (v : Verdict) → b ≡ false → p ≡ 0 → step b k v ≡ refused k p
stopped b k p v e z = rw (e, z)

-- The tests before it have passed.
pub past : (b : Bool) (m k p : ℕ) (v : Verdict) → m < k → step b m v ≡ refused k p → (b ≡ true) × (v ≡ refused k p)
past true m k p v h e = (refl, e)
past false m k p v h e = let f : m ≡ k = cc in absurd (omega arith)

pub passed : (b : Bool) (m : ℕ) (v : Verdict) → b ≡ true → step b m v ≡ v
passed b m v e = rw e

pub through : (b : Bool) (m n : ℕ) (v : Verdict) → step b m v ≡ accepted n → (b ≡ true) × (v ≡ accepted n)
through true m n v e = (refl, e)
through false m n v e = absurd (apart m 0 n e)

-- What a reply says is what the verdict says that it carries.
pub says : (r : Result ℕ Refusal) (v w : Verdict) → meant r ≡ v → (meant r ≡ w) ↔ (v ≡ w)
says r v w e = (λ h. sym e ∙ h, λ h. e ∙ h)
