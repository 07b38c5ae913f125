-- Tests that decide between two conditions. Assumes nothing.
use Prim.Native.Nat.{ℕ, ◌≤◌, ◌<◌}
use mathlib.Core.Bool.{Bool, true, false, true≢false}
use mathlib.Core.Path.{◌≡◌, refl, sym, ◌∙◌}
use native.Mathlib.Omega.{arith}
use lib.Dec.{eqb, leb}
use borrow.Author.Tests.{eqb-true, eqb-false, leb-true, leb-false}

-- A test that passes where one thing holds and fails where another does, which exclude each other.
pub record Decides (b : Bool) (A B : Type 0) : Type 0 where
  pub yes : b ≡ true → A
  pub no : b ≡ false → B
  pub apart : A → B → ⊥

module _ {b : Bool} {A B : Type 0} (d : Decides b A B) where
  -- The test's value from what holds.
  pub holds : A → b ≡ true
  holds x = go b d.yes d.no
    where
      go : (c : Bool) → (c ≡ true → A) → (c ≡ false → B) → c ≡ true
      go true y n = refl
      go false y n = absurd (d.apart x (n refl))

  pub fails : B → b ≡ false
  fails x = go b d.yes d.no
    where
      go : (c : Bool) → (c ≡ true → A) → (c ≡ false → B) → c ≡ false
      go true y n = absurd (d.apart (y refl) x)
      go false y n = refl

-- A test that passes exactly where something holds.
pub decides-by : {b : Bool} {A : Type 0} → (b ≡ true → A) → (A → b ≡ true) → Decides b A (¬ A)
decides-by f g = record { yes = f; no = λ e x. true≢false (sym (g x) ∙ e); apart = λ x n. n x }

pub decides-le : (a n : ℕ) → Decides (leb a n) (a ≤ n) (n < a)
decides-le a n = record { yes = leb-true a n; no = leb-false a n; apart = λ h k. omega arith }

pub decides_eq : (a n : ℕ) → Decides (eqb a n) (a ≡ n) (¬ (a ≡ n))
decides_eq a n = record { yes = eqb-true a n; no = eqb-false a n; apart = λ h k. k h }
