-- `said::put_sample` meets its contract: four pieces, one after the other.
use native.Mathlib.Omega.{arith}
use Rattle.said.specs.Said.{sample_says}
use Rattle.entries.proofs.Laid.{says_both}
use Rattle.said.proofs.Cycles.{goes_on}
use Rattle.said.proofs.put_sample.Goals as goal

pub put-requires : goal.put-requires
put-requires c =
    let a = c.put-first.ensures in
    let b = c.put-second.ensures in
    let d = c.put-third.ensures in
    omega (arith, c.requires, a.next, a.few, b.next, b.few, d.next, d.few)

pub returns : goal.returns
unfolding sample_says
returns c =
    let a = c.args in
    rw (goes_on a.elapsed a.before.timers.write)
    (says_both 1 3 _ _ _ _ _ _ _ _ _ (rw c.edge-reset.ensures at c.put-first.ensures)
    (says_both 1 2 _ _ _ _ _ _ _ _ _ (rw c.edge-ended.ensures at c.put-second.ensures)
    (says_both 1 1 _ _ _ _ _ _ _ _ _ (rw c.hear-sign.ensures at c.put-third.ensures) (rw c.edge-begun.ensures at c.put.ensures))))
