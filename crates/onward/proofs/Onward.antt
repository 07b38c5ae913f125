-- Piece after piece: a part at an accepted power-up takes a replay, an accepted replay leaves a part that takes the next, and pieces joined
-- are run and answered one after the other. Assumes nothing.
use Prim.Native.Nat.{ℕ, suc, ◌≤◌}
use mathlib.Core.Bool.{Bool, true, false}
use mathlib.Core.List.{List, [], ◌∷◌, ◌++◌}
use mathlib.Core.Path.{◌≡◌, refl, ap}
use native.Mathlib.Omega.{arith}
use lib.Dec.{leb}
use lib.ListN.{length}
use borrow.Author.Tests.{eq-eqb, le-leb}
use Rattle.ground.specs.Numbers.{most_samples, most_select}
use Rattle.ground.specs.Kind.{kind_of, known}
use Rattle.ground.specs.Verdict.{accepted}
use Rattle.ground.proofs.Known.{kind-sound}
use Rattle.ground.proofs.Verdicts.{apart}
use Rattle.limits.specs.Samples.{samples_of}
use Rattle.refusals.specs.Refusals.{storable, power_by, power_of, judged_of}
use Rattle.power.specs.Power.{powered_up, at_power}
use Rattle.sample.specs.Run.{Part, part_step, run_of, answers_of}
use Rattle.ranges.specs.Fit.{Fit}
use Rattle.ranges.proofs.InRange.{Within, within-range}
-- A part that is fit for a replay is so after any rows, first sample first.
pub use Rattle.ranges.proofs.InRange.{run-fit}

-- Rows joined are run one after the other.
pub run-append : (es₁ ls₁ es₂ ls₂ : List ℕ) (p : Part) → length es₁ ≡ length ls₁
    → run_of (es₁ ++ es₂) (ls₁ ++ ls₂) p ≡ run_of es₂ ls₂ (run_of es₁ ls₁ p)
run-append [] [] es₂ ls₂ p h = refl
run-append [] (l ∷ ls) es₂ ls₂ p h = absurd (omega arith)
run-append (e ∷ es) [] es₂ ls₂ p h = absurd (omega arith)
run-append (e ∷ es) (l ∷ ls) es₂ ls₂ p h = run-append es ls es₂ ls₂ (part_step e l p) (omega arith)

-- Rows joined are answered one after the other.
pub answers-append : (es₁ ls₁ es₂ ls₂ : List ℕ) (p : Part) → length es₁ ≡ length ls₁
    → answers_of (es₁ ++ es₂) (ls₁ ++ ls₂) p ≡ answers_of es₁ ls₁ p ++ answers_of es₂ ls₂ (run_of es₁ ls₁ p)
answers-append [] [] es₂ ls₂ p h = refl
answers-append [] (l ∷ ls) es₂ ls₂ p h = absurd (omega arith)
answers-append (e ∷ es) [] es₂ ls₂ p h = absurd (omega arith)
answers-append (e ∷ es) (l ∷ ls) es₂ ls₂ p h = rw (answers-append es ls es₂ ls₂ (part_step e l p) (omega arith))

-- There is one answer for each sample.
pub answers-length : (es ls : List ℕ) (p : Part) → length es ≡ length ls → length (answers_of es ls p) ≡ length ls
answers-length [] [] p h = refl
answers-length [] (l ∷ ls) p h = absurd (omega arith)
answers-length (e ∷ es) [] p h = absurd (omega arith)
answers-length (e ∷ es) (l ∷ ls) p h = ap suc (answers-length es ls (part_step e l p) (omega arith))

-- A part that passes the tests of refusals 4 and 5, with few enough rows of one length and no faulty sample.
pub fit-judged : (p : Part) (es ls row : List ℕ) → Fit p → length es ≡ length ls → length ls ≤ most_samples
    → length row ≡ length ls → samples_of 0 es ls (accepted (length ls)) ≡ accepted (length ls)
    → judged_of p.state es ls p.array row ≡ accepted (length ls)
unfolding judged_of
fit-judged p es ls row g e m a h =
    let same = eq-eqb (length ls) (length ls) refl in
    let sized = eq-eqb (length p.array) (kind_of p.state.chip.part).size g.size in
    rw (g.range, sized, e, same, le-leb (length ls) most_samples m, a, same, h)

-- An accepted power-up has passed the tests of refusals 1 to 3.
power-passed : (a b c : Bool) (n : ℕ) → power_by a b c ≡ accepted n → (a ≡ true) × (b ≡ true) × (c ≡ true)
power-passed true true true n e = (refl, refl, refl)
power-passed true true false n e = absurd (apart 3 0 n e)
power-passed true false c n e = absurd (apart 2 0 n e)
power-passed false b c n e = absurd (apart 1 0 n e)

-- So its part takes a replay, beside an array of its kind's size.
pub power-fit : (part select stored : ℕ) (array : List ℕ) (n : ℕ) → power_of part select stored ≡ accepted n
    → length array ≡ (kind_of part).size → Fit (at_power part select stored array)
unfolding power_of powered_up
power-fit part select stored array n e h =
    let t = power-passed (known part) (leb select most_select) (storable stored) n e in
    let w : Within (powered_up part select stored) =
    record {
      counter = (kind-sound part t.0).some;
      bits = omega arith;
      times = record { write = omega arith; hold = omega arith; left = omega arith };
      part = t.0;
      select = t.1;
      stored = t.2;
    }
    in
    record { range = within-range (powered_up part select stored) w; size = h }
