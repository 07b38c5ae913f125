-- Fewer samples are left after each piece.
use Rattle.std.proofs.Common.{length}
use Rattle.pieces.specs.Marks.{left_from}
use Rattle.disagreements.specs.Promises.{Stands}
use Rattle.replayed.proofs.put_places.Given as goal

abbrev pub invariant-loop-elapsed : goal.invariant-loop-elapsed
invariant-loop-elapsed g l = Stands l.dump l.stand l.array

abbrev pub decreases-loop-elapsed : goal.decreases-loop-elapsed
decreases-loop-elapsed g l = length (left_from l.dump l.stand.mark)
