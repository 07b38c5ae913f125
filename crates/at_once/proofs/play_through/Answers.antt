-- `at_once::play_through` meets its contract. Assumes nothing.
use mathlib.Core.Path.{refl, sym, ◌∙◌}
use native.Mathlib.Omega.{arith}
use Rattle.at_once.proofs.Passing.{going-here, passing-starts, passes_over, times-held, bytes-held, answers-held, count-within, answers-within, next-held, left-fewer, answers-front, gather-asks, passing-on}
use Rattle.at_once.proofs.play_through.Goals as goal

pub loop-track-init : goal.loop-track-init
loop-track-init c = let pre = c.requires in passing-starts _ _ _ _ _ _ _ _ _ pre.ready pre.elapsed_len pre.levels_len pre.answers_len

pub fill-requires : goal.fill-requires
fill-requires c =
    let inv = c.loop-track.invariant in
    record { tabled = c.requires.ready.tabled; sound = going-here _ _ _ _ _ _ _ _ _ _ _ _ inv _ c.in-Some.is; elapsed_len = inv.times ∙ sym inv.bytes }

pub slice_bounds-replay-end : goal.slice_bounds-replay-end
slice_bounds-replay-end c =
    count-within _ _ _ _ _ _ _ _ _ _ _ _ c.loop-track.invariant _ c.in-Some.is _ _ _ c.in_ok-went.ensures _ _ c.fill.auto.elapsed c.loop-track.invariant.times

pub slice_bounds-replay-end-in-Some : goal.slice_bounds-replay-end-in-Some
slice_bounds-replay-end-in-Some c =
    times-held _ _ _ _ _ _ _ _ _ _ _ _ c.loop-track.invariant _ c.in-Some.is _ _ _ c.in_ok-went.ensures

pub slice_bounds-replay-end-in-Some-2 : goal.slice_bounds-replay-end-in-Some-2
slice_bounds-replay-end-in-Some-2 c =
    count-within _ _ _ _ _ _ _ _ _ _ _ _ c.loop-track.invariant _ c.in-Some.is _ _ _ c.in_ok-went.ensures _ _ c.fill.auto.levels c.loop-track.invariant.bytes

pub slice_bounds-replay-end-in-Some-3 : goal.slice_bounds-replay-end-in-Some-3
slice_bounds-replay-end-in-Some-3 c =
    bytes-held _ _ _ _ _ _ _ _ _ _ _ _ c.loop-track.invariant _ c.in-Some.is _ _ _ c.in_ok-went.ensures

pub slice_bounds-replay-end-in-Some-4 : goal.slice_bounds-replay-end-in-Some-4
slice_bounds-replay-end-in-Some-4 c =
    count-within _ _ _ _ _ _ _ _ _ _ _ _ c.loop-track.invariant _ c.in-Some.is _ _ _ c.in_ok-went.ensures _ _ refl c.loop-track.invariant.said

pub slice_bounds-replay-end-in-Some-5 : goal.slice_bounds-replay-end-in-Some-5
slice_bounds-replay-end-in-Some-5 c =
    answers-held _ _ _ _ _ _ _ _ _ _ _ _ c.loop-track.invariant _ c.in-Some.is _ _ _ c.in_ok-went.ensures

pub slice_bounds-gather-end : goal.slice_bounds-gather-end
slice_bounds-gather-end c =
    count-within _ _ _ _ _ _ _ _ _ _ _ _ c.loop-track.invariant _ c.in-Some.is _ _ _ c.in_ok-went.ensures _ _ c.fill.auto.levels c.loop-track.invariant.bytes

pub slice_bounds-gather-end-in-Some : goal.slice_bounds-gather-end-in-Some
slice_bounds-gather-end-in-Some c =
    bytes-held _ _ _ _ _ _ _ _ _ _ _ _ c.loop-track.invariant _ c.in-Some.is _ _ _ c.in_ok-went.ensures

pub slice_bounds-gather-end-in-Some-2 : goal.slice_bounds-gather-end-in-Some-2
slice_bounds-gather-end-in-Some-2 c =
    answers-within _ _ _ _ _ _ _ _ _ _ _ _ c.loop-track.invariant _ c.in-Some.is _ _ _ c.in_ok-went.ensures _ _ _ c.replay-replayed.ensures

pub slice_bounds-gather-end-in-Some-3 : goal.slice_bounds-gather-end-in-Some-3
slice_bounds-gather-end-in-Some-3 c =
    answers-front _ _ _ _ _ _ _ _ _ _ _ _ c.loop-track.invariant _ c.in-Some.is _ _ _ c.in_ok-went.ensures _ _ _ c.replay-replayed.ensures

pub gather-found-requires : goal.gather-found-requires
gather-found-requires c =
    let h = gather-asks _ _ _ _ _ _ _ _ _ _ _ _ c.loop-track.invariant _ c.in-Some.is _ _ _ c.in_ok-went.ensures _ _ _ c.replay-replayed.ensures (omega (arith, c.well_formed.0.1)) in
    record { answers_len = h.0; levels_bound = h.1.0; before_le_first = h.1.1 }

pub overflow_add-next : goal.overflow_add-next
overflow_add-next c =
    let h = next-held _ _ _ _ _ _ _ _ _ _ _ _ c.loop-track.invariant _ c.in-Some.is _ _ _ c.in_ok-went.ensures (omega (arith, c.well_formed.0.1)) in
    record { fits = omega arith }

pub loop-track-smaller : goal.loop-track-smaller
loop-track-smaller c = left-fewer _ _ _ _ _ _ _ _ _ _ _ _ c.loop-track.invariant _ c.in-Some.is _ _ _ c.in_ok-went.ensures

pub loop-track-preserved : goal.loop-track-preserved
loop-track-preserved c =
    let filled = c.fill in
    let replayed = c.replay-replayed in
    passing-on _ _ _ _ _ _ _ _ _ _ _ _ c.loop-track.invariant _ c.in-Some.is _ _ _ c.in_ok-went.ensures _ _ _ replayed.ensures _ _ replayed.auto.array filled.auto.elapsed filled.auto.levels c.gather-found.ensures

pub returns : goal.returns
returns c = passes_over _ _ _ _ _ _ _ _ _ _ _ _ c.loop-track.invariant c.in_default.is
