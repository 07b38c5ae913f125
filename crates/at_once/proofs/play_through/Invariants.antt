-- `at_once::play_through` meets its contract. Assumes nothing.
use lib.ListN.{length}
use Rattle.part.specs.Bench.{part_of}
use Rattle.pieces.specs.Marks.{left_from}
use Rattle.one_reading.specs.Promises.{mark_of}
use Rattle.at_once.proofs.Passing.{Passing}
use Rattle.at_once.proofs.play_through.Given as goal

abbrev pub invariant-loop-track : goal.invariant-loop-track
invariant-loop-track l =
    Passing l.dump (part_of l.initial.state l.initial.array) l.initial.room l.track l.state l.next l.found l.array l.room l.elapsed l.levels l.answers

abbrev pub decreases-loop-track : goal.decreases-loop-track
decreases-loop-track l = length (left_from l.dump (mark_of l.track))
