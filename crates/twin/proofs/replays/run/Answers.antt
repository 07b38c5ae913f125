-- `twin::replays::run` meets its contract: ahead over plain samples, then one sample by itself, and so on.
use Prim.Native.Nat.{◌≤◌}
use mathlib.Core.Path.{refl, sym, ap, ◌∙◌}
use native.Mathlib.Omega.{arith}
use native.Mathlib.Numerals.{add-one}
use borrow.Author.Rules.{rules}
use lib.ListN.{length}
use Rattle.part.specs.Bench.{part_of}
use Rattle.sample.specs.Run.{Part}
use Rattle.sample.proofs.Runs.{run-done, row_done, stepped}
use Rattle.clocks.proofs.Going.{goes_none, goes_on, goes_then}
use Rattle.twin.proofs.replays.run.Goals as goal

pub loop-i-init : goal.loop-i-init
loop-i-init c =
    let p = c.requires in
    (p.elapsed_len, p.row_len, refl, goes_none _ _ _ _ _ (search rules))

pub loop-i-preserved-then-i-levels : goal.loop-i-preserved-then-i-levels
loop-i-preserved-then-i-levels c =
    let at = c.loop-i in
    let st = c.step-state in
    let g = goes_then _ _ _ _ _ _ _ _ at.invariant.3 _ _ _ c.ahead-stand.ensures in
    (at.invariant.0, at.invariant.1, st.auto.array ∙ at.invariant.2, rw add-one (goes_on _ _ _ _ _ _ _ _ g _ _ at.invariant.0 at.invariant.1 c.if-i-levels.true (stepped _ _ _ _ _ st.ensures.state st.ensures.kept) c.answer.ensures))

pub loop-i-preserved : goal.loop-i-preserved
loop-i-preserved c =
    let at = c.loop-i in
    (at.invariant.0, at.invariant.1, at.invariant.2, goes_then _ _ _ _ _ _ _ _ at.invariant.3 _ _ _ c.ahead-stand.ensures)

pub returns : goal.returns
returns c =
    let at = c.loop-i in
    let g = at.invariant.3 in
    let es = c.args.elapsed.now in
    let ls = c.args.levels.now in
    let now : Part = part_of at.state at.array in
    let h : length es ≤ at.i = omega (arith, c.loop-i-test.false, at.invariant.0) in
    let k : length at.row ≤ at.i = omega (arith, c.loop-i-test.false, at.invariant.1, g.long) in
    let e = sym (run-done es ls at.i now h) ∙ g.run in
    record {
      state = ap (λ (p : Part). p.state) e;
      kept = ap (λ (p : Part). p.array) e;
      said = sym (row_done es ls at.row at.i now h k) ∙ g.said;
    }
