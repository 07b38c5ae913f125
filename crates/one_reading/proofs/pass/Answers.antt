-- `one_reading::pass` meets its contract. Assumes nothing.
use Rattle.one_reading.proofs.Pieces.{passes_none}
use Rattle.one_reading.proofs.pass.Goals as goal

pub pass-requires : goal.pass-requires
pass-requires c =
    let p = c.requires in
    record { tabled = p.tabled; going = p.going; from_bound = p.left_le_most_elapsed; from_value = c.if-track-eq-ALL.true; bound = c.if-track-ge2.true; count_in_bounds = p.count_in_bounds; elapsed_len = p.elapsed_len }

pub returns-then-track-ge2 : goal.returns-then-track-ge2
returns-then-track-ge2 c = c.pass.ensures

pub returns-else-track-ge2 : goal.returns-else-track-ge2
returns-else-track-ge2 c = let p = c.requires in passes_none _ _ _ _ _ p.going p.left_le_most_elapsed

pub returns-else-track-eq-ALL : goal.returns-else-track-eq-ALL
returns-else-track-eq-ALL c = let p = c.requires in passes_none _ _ _ _ _ p.going p.left_le_most_elapsed
