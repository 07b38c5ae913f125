-- `drawing::values::put` meets its contract: wire after wire, what is laid grows by a line or by nothing.
use Rattle.drawing.proofs.Laid.{Halfway}
use Rattle.drawing.proofs.values.put.Given as goal

abbrev pub invariant-loop-i : goal.invariant-loop-i
invariant-loop-i l = Halfway l.begun l.before l.level-items l.initial.out l.from l.out l.at l.i
