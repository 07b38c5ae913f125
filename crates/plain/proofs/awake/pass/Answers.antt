-- `plain::awake::pass` meets its contract.
use mathlib.Core.Path.{refl}
use Rattle.clocks.proofs.Standing.{stands-first}
use Rattle.plain.proofs.awake.pass.Goals as goal

pub returns : goal.returns
returns c =
    let a = c.args in
    let pre = c.requires in
    let b = c.times_of-times.ensures in
    let first = stands-first a.s a.elapsed.now a.levels.now a.array.now a.row.now a.from c.base_of-base.result c.times_of-times.result pre.elapsed_len pre.row_len pre.from_in_bounds (rw (← c.kind_of-kind.ensures) c.base_of-base.ensures.worth) b.same b.room c.if-before.false c.if-before-2.false in
    rw (c.spoken.ensures, c.from.ensures, c.timers_at.ensures) (c.go_on-last.ensures.stands a.s a.row.now a.from c.kind_of-kind.ensures refl (rw c.clocks_of.ensures first)).goes
