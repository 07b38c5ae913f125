-- `one_reading::quick::pass` meets its contract. The loop's invariant: no fault was met, and the rows are filled up to the place reached.
-- Assumes nothing.
use native.Mathlib.Omega.{arith}
use Rattle.glances.proofs.SeenPast.{seen_value}
use Rattle.judging.proofs.PlainLaws.{passing-small, passing-inside, passing-further}
use Rattle.pieces.proofs.Plain.{level-plain}
use Rattle.one_reading.proofs.Running.{running-first, running-value, running-time}
use Rattle.one_reading.proofs.quick.pass.Goals as goal

pub loop-at-init : goal.loop-at-init
loop-at-init c = let p = c.requires in running-first _ _ _ _ _ p.going p.from_bound p.bound p.count_in_bounds p.elapsed_len

pub overflow_sub-dump : goal.overflow_sub-dump
overflow_sub-dump c = omega (arith, c.loop-at.invariant.passing.kept.inside)

pub past_blank-past-requires : goal.past_blank-past-requires
past_blank-past-requires c = record { at_in_bounds = omega (arith, c.if-dump-at-lt-FAR.false); line_le_at = c.loop-at.invariant.passing.kept.small }

pub bounds-dump-begins : goal.bounds-dump-begins
bounds-dump-begins c = omega (arith, c.past_blank-past.ensures.near, c.if-dump-at-lt-FAR.false)

pub marks_at-marks-requires : goal.marks_at-marks-requires
marks_at-marks-requires c =
    record { tabled = c.requires.tabled; from_in_bounds = omega (arith, c.past_blank-past.ensures.near, c.if-dump-at-lt-FAR.false); from_value = c.if-first-eq-ZERO_OR_ONE.true }

pub overflow_add-at : goal.overflow_add-at
overflow_add-at c = omega (arith, c.past_blank-past.ensures.near, c.if-dump-at-lt-FAR.false, c.well_formed.0.1)

pub loop-at-smaller-then-first-eq-ZERO_OR_ONE : goal.loop-at-smaller-then-first-eq-ZERO_OR_ONE
loop-at-smaller-then-first-eq-ZERO_OR_ONE c = omega (arith, c.past_blank-past.ensures.from, c.past_blank-past.ensures.near, c.if-dump-at-lt-FAR.false)

pub loop-at-preserved-then-first-eq-ZERO_OR_ONE : goal.loop-at-preserved-then-first-eq-ZERO_OR_ONE
loop-at-preserved-then-first-eq-ZERO_OR_ONE c =
    running-value _ _ _ _ _ _ _ _ _ _ _ _ _ _ _ c.loop-at.invariant _ _ _ _ _ _ (seen_value _ _ _ _ c.past_blank-past.ensures _ c.marks_at-marks.ensures c.if-marks-eq0.false)
    c.if-first-eq-ZERO_OR_ONE.true c.requires.from_value (level-plain _ c.if-first-eq-ZERO_OR_ONE.true) c.lay-level.ensures.value c.lay-level.ensures.upper_bound

pub time_at-requires : goal.time_at-requires
time_at-requires c =
    record { from_in_bounds = omega (arith, c.past_blank-past.ensures.near, c.if-dump-at-lt-FAR.false); from_value = c.if-first-ne-HASH.false }

pub overflow_add-at-else-first-eq-ZERO_OR_ONE : goal.overflow_add-at-else-first-eq-ZERO_OR_ONE
overflow_add-at-else-first-eq-ZERO_OR_ONE c =
    let f = passing-inside _ _ _ _ _ _ _ _ c.loop-at.invariant.passing _ _ c.past_blank-past.ensures c.in-Some.ensures c.if-now-time.false in
    omega (arith, f, c.well_formed.0.1)

pub overflow_add-samples : goal.overflow_add-samples
overflow_add-samples c =
    let f = (passing-small _ _ _ _ _ _ _ _ c.loop-at.invariant.passing (omega (arith, c.well_formed.0.1))).1 in
    omega (arith, f)

pub loop-at-smaller : goal.loop-at-smaller
loop-at-smaller c =
    let f = passing-further _ _ _ _ _ _ _ _ c.loop-at.invariant.passing _ _ c.past_blank-past.ensures c.in-Some.ensures c.if-now-time.false in
    omega (arith, f, c.if-dump-at-lt-FAR.false)

pub loop-at-preserved : goal.loop-at-preserved
loop-at-preserved c =
    running-time _ _ _ _ _ _ _ _ _ _ _ _ _ _ _ c.loop-at.invariant _ _ c.past_blank-past.ensures c.in-Some.ensures c.if-now-time.false c.if-now-time-gt-MOST_ELAPSED.false c.if-i-levels.false
