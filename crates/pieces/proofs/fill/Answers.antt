-- `pieces::fill` meets its contract. Assumes nothing.
use mathlib.Core.Path.{sym, ◌∙◌}
use Rattle.pieces.proofs.Filling.{room-elapsed, room-levels, fills-back}
use Rattle.pieces.proofs.Reading.{tabled-by}
use Rattle.pieces.proofs.fill.Goals as goal

pub slice_bounds-fill_room-end-3 : goal.slice_bounds-fill_room-end-3
slice_bounds-fill_room-end-3 c =
    let a = c.args in
    room-elapsed a.elapsed.now a.levels.now _ _ c.min.ensures c.min-room.ensures

pub slice_bounds-fill_room-end-5 : goal.slice_bounds-fill_room-end-5
slice_bounds-fill_room-end-5 c =
    let a = c.args in
    room-levels a.elapsed.now a.levels.now _ _ c.min.ensures c.min-room.ensures

pub fill_room-requires : goal.fill_room-requires
fill_room-requires c =
    let a = c.args in
    let l = c.min.ensures in
    let m = c.min-room.ensures in
    record { tabled = tabled-by _ _ _ c.define.ensures; elapsed_len = sym (room-elapsed a.elapsed.now a.levels.now _ _ l m) ∙ room-levels a.elapsed.now a.levels.now _ _ l m }

pub returns : goal.returns
returns c = fills-back _ _ _ _ c.min.ensures c.min-room.ensures _ _ _ _ _ c.fill_room.ensures
