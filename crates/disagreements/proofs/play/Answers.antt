-- `disagreements::play` meets its contract. Assumes nothing.
use Rattle.disagreements.proofs.Turns.{times-fit, bytes_fit, answers-fit, plays}
use Rattle.disagreements.proofs.play.Goals as goal

pub slice_bounds-replay-end-2 : goal.slice_bounds-replay-end-2
slice_bounds-replay-end-2 c = times-fit _ _ _ _ _ _ _ c.fill-filled.ensures

pub slice_bounds-replay-end-4 : goal.slice_bounds-replay-end-4
slice_bounds-replay-end-4 c = bytes_fit _ _ _ _ _ _ _ c.fill-filled.ensures

pub slice_bounds-replay-end-6 : goal.slice_bounds-replay-end-6
slice_bounds-replay-end-6 c = answers-fit _ _ _ _ _ _ _ c.fill-filled.ensures _ c.requires.answers_len

-- ? add-t24 : tie.Need-overflow-add-t24
-- add-t24 c = record { fits = next_fits _ _ _ _ _ _ _ c.before.before.before.before.before.before.before.before.before.before.before.before.before.before.before.before.fill.ensures _ c.before.before.before.before.before.before.before.before.before.before.before.before.before.before.before.before.before.before.before.before.before.before.before.before.requires.0 }

pub shape_of-elapsed : goal.shape_of-elapsed
shape_of-elapsed c = c.fill-filled.auto.elapsed

pub shape_of-levels : goal.shape_of-levels
shape_of-levels c = c.fill-filled.auto.levels

pub returns : goal.returns
returns c =
    let pre = c.requires in
    plays _ _ _ _ _ _ _ c.fill-filled.ensures _ _ pre.stands pre.elapsed_len pre.answers_len pre.levels_len_bound _ _ _ c.replay-replayed.ensures
