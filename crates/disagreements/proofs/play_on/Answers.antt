-- `disagreements::play_on` meets its contract. Assumes nothing.
use mathlib.Core.Path.{◌∙◌}
use native.Mathlib.Omega.{arith}
use Rattle.disagreements.proofs.Turns.{front_bytes, front-said, left_less, turning-starts, turn-asks, turn, turn-ends}
use Rattle.disagreements.proofs.play_on.Goals as goal

pub loop-played-init : goal.loop-played-init
loop-played-init c = turning-starts _ _ _ _ _ _ _ c.requires.stands

pub play-played-requires : goal.play-played-requires
play-played-requires c =
    let pre = c.requires in
    let inv = c.loop-played.invariant in
    record { stands = inv.stands; elapsed_len = omega arith; answers_len = omega arith; levels_len_bound = omega arith }

pub shape_of-array-then-count-eq0 : goal.shape_of-array-then-count-eq0
shape_of-array-then-count-eq0 c = c.play-played.auto.array ∙ c.loop-played.invariant.whole

pub shape_of-places-then-count-eq0 : goal.shape_of-places-then-count-eq0
shape_of-places-then-count-eq0 c = c.loop-played.invariant.playing.long

pub shape_of-elapsed-then-count-eq0 : goal.shape_of-elapsed-then-count-eq0
shape_of-elapsed-then-count-eq0 c = c.play-played.auto.elapsed ∙ c.loop-played.invariant.times

pub shape_of-levels-then-count-eq0 : goal.shape_of-levels-then-count-eq0
shape_of-levels-then-count-eq0 c = c.play-played.auto.levels ∙ c.loop-played.invariant.bytes

pub shape_of-answers-then-count-eq0 : goal.shape_of-answers-then-count-eq0
shape_of-answers-then-count-eq0 c = c.play-played.auto.answers ∙ c.loop-played.invariant.said

pub returns-then-count-eq0 : goal.returns-then-count-eq0
returns-then-count-eq0 c =
    let pre = c.requires in
    let inv = c.loop-played.invariant in
    turn-ends _ _ _ _ _ _ _ _ _ _ _ _ _ _ inv _ _ _ _ c.play-played.ensures (omega arith) c.if-count-eq0.true

pub slice_bounds-gather-end-in-loop-played : goal.slice_bounds-gather-end-in-loop-played
slice_bounds-gather-end-in-loop-played c = front_bytes _ _ _ _ _ _ _ _ _ c.play-played.ensures

pub slice_bounds-gather-end-in-loop-played-2 : goal.slice_bounds-gather-end-in-loop-played-2
slice_bounds-gather-end-in-loop-played-2 c =
    let pre = c.requires in
    let inv = c.loop-played.invariant in
    let played = c.play-played in
    let count = played.ensures.count in
    let kept = played.auto.answers in
    omega arith

pub slice_bounds-gather-end-in-loop-played-3 : goal.slice_bounds-gather-end-in-loop-played-3
slice_bounds-gather-end-in-loop-played-3 c = front-said _ _ _ _ _ _ _ _ _ c.play-played.ensures

pub gather-found-requires : goal.gather-found-requires
gather-found-requires c =
    let h = turn-asks _ _ _ _ _ _ _ _ _ _ _ _ _ _ c.loop-played.invariant _ _ _ _ c.play-played.ensures in
    record { answers_len = h.0; levels_bound = h.1.0; before_le_first = h.1.1 }

pub loop-played-smaller : goal.loop-played-smaller
loop-played-smaller c = left_less _ _ _ _ _ _ _ _ _ c.play-played.ensures c.if-count-eq0.false

pub loop-played-preserved : goal.loop-played-preserved
loop-played-preserved c =
    let played = c.play-played in
    let kept = played.auto.array in
    turn _ _ _ _ _ _ _ _ _ _ _ _ _ _ c.loop-played.invariant _ _ _ _ played.ensures _ _ _ kept c.play-played.auto.elapsed c.play-played.auto.levels c.play-played.auto.answers
    c.gather-found.ensures
