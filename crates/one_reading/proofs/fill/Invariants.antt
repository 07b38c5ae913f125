-- `one_reading::fill` meets its contract. The loop's invariant: the samples filled in stand in the rows, and the track behind them is sound.
-- Assumes nothing.
use Prim.Native.Nat.{◌-◌}
use lib.ListN.{length}
use Rattle.one_reading.proofs.Pieces.{Reading}
use Rattle.one_reading.proofs.fill.Given as goal

abbrev pub invariant-loop-i : goal.invariant-loop-i
invariant-loop-i l = Reading l.dump l.initial.track l.initial.elapsed l.initial.levels l.track l.i l.elapsed l.levels

abbrev pub decreases-loop-i : goal.decreases-loop-i
decreases-loop-i l = length l.initial.levels - l.i
