-- `replaying::tell_rows` meets its contract. Assumes nothing.
use mathlib.Core.Path.{sym, ◌∙◌}
use native.Mathlib.Omega.{arith}
use lib.Seq.{length-take-le}
use Rattle.replaying.proofs.Telling.{count_room, lines_fit, piece-told}
use Rattle.replaying.proofs.tell_rows.Goals as goal

pub play-played-requires : goal.play-played-requires
play-played-requires c =
    let pre = c.requires in
    record { stands = pre.stands; elapsed_len = pre.elapsed_len ∙ sym pre.levels_len; answers_len = pre.answers_len ∙ sym pre.levels_len; levels_len_bound = omega (arith, pre.levels_len) }

pub slice_bounds-put_places-end-2 : goal.slice_bounds-put_places-end-2
slice_bounds-put_places-end-2 c =
    let pre = c.requires in
    let play = c.play-played in
    sym (length-take-le _ _ (omega (arith, count_room _ _ _ _ _ _ _ _ _ pre.stands pre.levels_len play.ensures, play.auto.levels, pre.levels_len)))

pub slice_bounds-put_places-end-3 : goal.slice_bounds-put_places-end-3
slice_bounds-put_places-end-3 c =
    let pre = c.requires in
    let play = c.play-played in
    omega (arith, count_room _ _ _ _ _ _ _ _ _ pre.stands pre.levels_len play.ensures, play.auto.answers, pre.answers_len)

pub slice_bounds-put_places-end-4 : goal.slice_bounds-put_places-end-4
slice_bounds-put_places-end-4 c =
    let pre = c.requires in
    let play = c.play-played in
    sym (length-take-le _ _ (omega (arith, count_room _ _ _ _ _ _ _ _ _ pre.stands pre.levels_len play.ensures, play.auto.answers, pre.answers_len)))

pub put_places-length-requires : goal.put_places-length-requires
put_places-length-requires c =
    let pre = c.requires in
    let play = c.play-played in
    let h =
    lines_fit _ _ _ _ _ _ _ _ _ pre.stands pre.levels_len play.ensures _ (play.auto.levels ∙ pre.levels_len)
    (play.auto.answers ∙ pre.answers_len) pre.out_len in
    record { answers_len = h.0; levels_bound = h.1.0; levels_in_bounds = h.1.1 }

pub returns : goal.returns
returns c =
    let pre = c.requires in
    let play = c.play-played in
    piece-told _ _ _ _ _ _ _ _ _ pre.stands pre.levels_len play.ensures _ _ _ c.put_places-length.ensures
