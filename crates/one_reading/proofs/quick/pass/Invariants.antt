-- `one_reading::quick::pass` meets its contract. The loop's invariant: no fault was met, and the rows are filled up to the place reached.
-- Assumes nothing.
use Prim.Native.Nat.{◌-◌}
use lib.ListN.{length}
use Rattle.one_reading.proofs.Running.{Running}
use Rattle.one_reading.proofs.quick.pass.Given as goal

abbrev pub invariant-loop-at : goal.invariant-loop-at
invariant-loop-at l =
    Running l.dump l.from l.count l.initial.elapsed l.initial.levels l.at l.line l.lines l.time l.samples l.left l.level l.i l.elapsed l.levels

abbrev pub decreases-loop-at : goal.decreases-loop-at
decreases-loop-at l = length l.dump - l.at
