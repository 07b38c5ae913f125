-- Laws of going ahead: not at all, by one sample, and twice in a row. Assumes nothing.
use Prim.Native.Nat.{ℕ, suc, ◌<◌, ◌≤◌}
use mathlib.Core.List.{List}
use mathlib.Core.Path.{◌≡◌, refl, ◌∙◌}
use native.Mathlib.Omega.{arith}
use lib.ListN.{length, get_or, set, length-set}
use Rattle.levels.specs.Level.{answer_of}
use Rattle.sample.specs.Run.{Part, part_step}
use Rattle.sample.proofs.Runs.{run-turn, row-turn}
use Rattle.clocks.specs.Goes.{Goes}

pub goes_none : (es ls row : List ℕ) (i : ℕ) (p : Part) → i ≤ length ls → Goes es ls i p row i p row
goes_none es ls row i p h = record { onward = omega arith; within = h; long = refl; run = refl; said = refl }

module _ (es ls row row' : List ℕ) (from i : ℕ) (p q : Part) (g : Goes es ls from p row i q row') where
  -- One sample more, with its answer.
  pub goes_on : (a : ℕ) (r : Part) → length es ≡ length ls → length row ≡ length ls → i < length ls
      → r ≡ part_step (get_or es i 0) (get_or ls i 0) q → a ≡ answer_of r.state → Goes es ls from p row (suc i) r (set row' i a)
  goes_on a r u v h e f =
      let k : i < length es = omega (arith, u) in
      let w = g.long in
      let l : i < length row' = omega (arith, v, w) in
      record {
        onward = omega (arith, g.onward);
        within = omega arith;
        long = length-set row' i a ∙ g.long;
        run = run-turn es ls i q r k h e ∙ g.run;
        said = row-turn es ls row' i a q r k h l e f ∙ g.said;
      }

  -- On from where it stopped.
  pub goes_then : (row'' : List ℕ) (j : ℕ) (r : Part) → Goes es ls i q row' j r row'' → Goes es ls from p row j r row''
  goes_then row'' j r h =
      record {
        onward = omega (arith, g.onward, h.onward);
        within = h.within;
        long = h.long ∙ g.long;
        run = h.run ∙ g.run;
        said = h.said ∙ g.said;
      }
