-- `pieces::take_rest` meets its contract. The loop's invariant: what is left of the dump, with the levels so far, gives the same moments.
-- Assumes nothing.
use Prim.Native.Nat.{◌-◌}
use lib.ListN.{length}
use Rattle.pieces.proofs.Reading.{Moving}
use Rattle.pieces.proofs.take_rest.Given as goal

abbrev pub invariant-loop-word : goal.invariant-loop-word
invariant-loop-word l = Moving l.dump l.from l.before l.at l.on l.mode l.level

abbrev pub decreases-loop-word : goal.decreases-loop-word
decreases-loop-word l = length l.dump - l.at
