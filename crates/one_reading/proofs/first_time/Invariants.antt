-- `one_reading::first_time` meets its contract. The loop's invariant: no fault was met, and what is left gives the same samples.
-- Assumes nothing.
use Prim.Native.Nat.{◌-◌}
use lib.ListN.{length}
use Rattle.one_reading.proofs.Beginning.{Beginning}
use Rattle.one_reading.proofs.first_time.Given as goal

abbrev pub invariant-loop-word : goal.invariant-loop-word
invariant-loop-word l = Beginning l.dump l.from l.at l.line l.mode

abbrev pub decreases-loop-word : goal.decreases-loop-word
decreases-loop-word l = length l.dump - l.at
