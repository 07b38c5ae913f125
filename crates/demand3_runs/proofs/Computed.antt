-- The form of demand 3 that computes follows from demand 3: for the real step it gives true wherever demand 3 holds.
-- Assumes nothing.
use Prim.Native.Nat.{ℕ, ◌+◌}
use mathlib.Core.Bool.{true}
use mathlib.Core.List.{List, [], ◌∷◌}
use mathlib.Core.Path.{◌≡◌, refl}
use borrow.Author.Tests.{eq-eqb}
use Rattle.sample.specs.Run.{Part, part_step, run_of, answers_of}
use Rattle.demand3.specs.Differ.{When, never, sample, first_diff, first_cover, Covered, TwoParts}
use Rattle.demand3.proofs.Asked.{right-after}
use Rattle.demand3_runs.specs.Under.{array_under, answers_under, same_when, covered_under, holds_for}

-- Under the real step the array after the rows is that of the sheet.
array-real : (es ls : List ℕ) (p : Part) → array_under part_step es ls p ≡ (run_of es ls p).array
array-real [] ls p = refl
array-real (e ∷ es) [] p = refl
array-real (e ∷ es) (l ∷ ls) p = array-real es ls (part_step e l p)

-- So are the answers.
answers-real : (es ls : List ℕ) (p : Part) → answers_under part_step es ls p ≡ answers_of es ls p
answers-real [] ls p = refl
answers-real (e ∷ es) [] p = refl
answers-real (e ∷ es) (l ∷ ls) p = rw (answers-real es ls (part_step e l p))

-- A row differs nowhere from itself.
diff-same : (i : ℕ) (xs : List ℕ) → first_diff i xs xs ≡ never
diff-same i [] = refl
diff-same i (x ∷ xs) = rw (eq-eqb x x refl, diff-same (i + 1) xs)

-- A finding is the same as itself.
when-same : (w : When) → same_when w w ≡ true
when-same never = refl
when-same (sample k) = eq-eqb k k refl

module _ (a : ℕ) (es ls : List ℕ) (p q : Part) where
  -- What is asked after a covering sample.
  covered-real : (w : When) → ((k : ℕ) → w ≡ sample k → Covered k es ls p q) → covered_under w part_step es ls p q ≡ true
  covered-real never h = refl
  covered-real (sample k) h =
      let c = h k refl in simp (array-real, answers-real, right-after k es ls p q c, c.answers, diff-same)

  -- Where demand 3 holds, its form that computes gives true for the real step.
  pub real-holds : TwoParts a es ls p q → holds_for part_step a es ls p q ≡ true
  real-holds d = simp (answers-real, d.first, when-same) (covered-real (first_cover a 0 es ls p) d.covered)
