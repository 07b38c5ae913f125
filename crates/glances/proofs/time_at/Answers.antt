-- `glances::time_at` meets its contract: what is passed is a hash and digits. Assumes nothing.
use Rattle.std.proofs.Common.{◌+◌, arith}
use Rattle.glances.proofs.GlanceLaws.{power_small, reads_none, reads_more, time-seen}
use Rattle.glances.proofs.time_at.Goals as goal

pub loop-i-init : goal.loop-i-init
loop-i-init c = reads_none _ _ c.requires.from_in_bounds c.requires.from_value

pub returns-then-ends : goal.returns-then-ends
returns-then-ends c =
    time-seen _ _ c.requires.from_in_bounds _ c.loop-i.i c.loop-i.invariant (omega arith) c.requires.from_value c.ends.ensures c.if-ends.true
    (omega arith) (omega arith)

pub overflow_mul-time : goal.overflow_mul-time
overflow_mul-time c =
    let b = c.loop-i in
    omega (arith, power_small b.i b.invariant.few, b.invariant.low)

pub overflow_add-time : goal.overflow_add-time
overflow_add-time c =
    let b = c.loop-i in
    omega (arith, power_small b.i b.invariant.few, b.invariant.low)

pub loop-i-preserved : goal.loop-i-preserved
loop-i-preserved c =
    let byte = c.type_inv.dump (c.args.from + 1 + c.loop-i.i) in
    reads_more _ _ c.requires.from_in_bounds _ c.loop-i.i c.loop-i.invariant (omega arith) _
    (omega (arith, byte)) (omega arith)
