-- `pieces::fill_room` meets its contract. The loop's invariant: the samples filled in stand in the rows, and the mark has the rest left.
-- Assumes nothing.
use Rattle.pieces.specs.Parts.{Filling}
use Rattle.pieces.proofs.fill_room.Given as goal

abbrev pub invariant-loop-i : goal.invariant-loop-i
invariant-loop-i l = Filling l.dump l.initial.mark l.initial.elapsed l.initial.levels l.mark l.i l.elapsed l.levels
