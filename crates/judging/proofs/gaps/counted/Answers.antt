-- `judging::gaps::counted` meets its contract. Assumes nothing.
use native.Mathlib.Omega.{arith}
use Rattle.judging.proofs.CountLaws.{repeats-small}
use Rattle.judging.proofs.gaps.counted.Goals as goal

pub overflow_add-result : goal.overflow_add-result
overflow_add-result c =
    let a = c.args in
    let h = repeats-small a.begun a.before a.time in
    omega (arith, c.ranges.time)

pub overflow_add-result-then-sound : goal.overflow_add-result-then-sound
overflow_add-result-then-sound c =
    let a = c.args in
    let h = repeats-small a.begun a.before a.time in
    let k = c.requires c.if-sound.true in
    omega (arith, c.ranges.time)

pub returns-then-sound : goal.returns-then-sound
returns-then-sound c = rw (c.if-sound.true, ← c.repeats_to.ensures)
