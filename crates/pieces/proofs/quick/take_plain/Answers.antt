-- `pieces::quick::take_plain` meets its contract. The loop's invariant: what is left of the dump, with the levels so far, gives the same moments.
-- Assumes nothing.
use native.Mathlib.Omega.{arith}
use Rattle.glances.proofs.SeenPast.{seen_value, seen-time}
use Rattle.pieces.proofs.Reading.{moving-first}
use Rattle.pieces.proofs.Plain.{level-plain, plain_value, plain-time}
use Rattle.pieces.proofs.quick.take_plain.Goals as goal

pub loop-at-init : goal.loop-at-init
loop-at-init c = moving-first _ _ _ c.requires.from_in_bounds

pub overflow_sub-dump : goal.overflow_sub-dump
overflow_sub-dump c = omega (arith, c.loop-at.invariant.inside)

pub past_blank-past-requires : goal.past_blank-past-requires
past_blank-past-requires c = record { at_in_bounds = omega (arith, c.if-dump-at-lt-FAR.false); line_le_at = omega arith }

pub bounds-dump-begins : goal.bounds-dump-begins
bounds-dump-begins c = omega (arith, c.past_blank-past.ensures.near, c.if-dump-at-lt-FAR.false)

pub marks_at-marks-requires : goal.marks_at-marks-requires
marks_at-marks-requires c =
    record { tabled = c.requires.tabled; from_in_bounds = omega (arith, c.past_blank-past.ensures.near, c.if-dump-at-lt-FAR.false); from_value = c.if-first-eq-ZERO_OR_ONE.true }

pub overflow_add-at : goal.overflow_add-at
overflow_add-at c = omega (arith, c.past_blank-past.ensures.near, c.if-dump-at-lt-FAR.false, c.well_formed.0.1)

pub loop-at-smaller : goal.loop-at-smaller
loop-at-smaller c = omega (arith, c.past_blank-past.ensures.from, c.past_blank-past.ensures.near, c.if-dump-at-lt-FAR.false)

pub loop-at-preserved : goal.loop-at-preserved
loop-at-preserved c =
    plain_value _ _ _ _ _ c.loop-at.invariant _ _ _ _
    (seen_value _ _ _ _ c.past_blank-past.ensures _ c.marks_at-marks.ensures c.if-marks-eq0.false) (level-plain _ c.if-first-eq-ZERO_OR_ONE.true)
    c.lay-level.ensures.value c.lay-level.ensures.upper_bound

pub time_at-requires : goal.time_at-requires
time_at-requires c =
    record { from_in_bounds = omega (arith, c.past_blank-past.ensures.near, c.if-dump-at-lt-FAR.false); from_value = c.if-first-ne-HASH.false }

pub overflow_add-result : goal.overflow_add-result
overflow_add-result c =
    let s = seen-time _ _ _ _ c.past_blank-past.ensures _ c.in-Some.ensures in
    omega (arith, s.word.inside, c.well_formed.0.1)

pub returns-else-first-eq-ZERO_OR_ONE : goal.returns-else-first-eq-ZERO_OR_ONE
returns-else-first-eq-ZERO_OR_ONE c =
    plain-time _ _ _ _ _ c.loop-at.invariant _ _ _ (seen-time _ _ _ _ c.past_blank-past.ensures _ c.in-Some.ensures)
