-- `places::gather` meets its contract. Assumes nothing.
use Rattle.places.proofs.PlaceLaws.{Gathering}
use Rattle.places.proofs.gather.Given as goal

abbrev pub invariant-loop-i : goal.invariant-loop-i
invariant-loop-i l = Gathering l.levels l.answers l.first l.initial.places l.before l.places l.found l.i
