-- `disagreements::play_on` meets its contract. Assumes nothing.
use lib.ListN.{length}
use Rattle.pieces.specs.Marks.{left_from}
use Rattle.disagreements.proofs.Turns.{Turning}
use Rattle.disagreements.proofs.play_on.Given as goal

abbrev pub invariant-loop-played : goal.invariant-loop-played
invariant-loop-played l =
    Turning l.dump l.initial.stand l.initial.array l.initial.places l.initial.elapsed l.initial.levels l.initial.answers l.stand l.array l.places l.elapsed l.levels l.answers l.found

abbrev pub decreases-loop-played : goal.decreases-loop-played
decreases-loop-played l = length (left_from l.dump l.stand.mark)
