-- `pieces::quick::take_plain` meets its contract. The loop's invariant: what is left of the dump, with the levels so far, gives the same moments.
-- Assumes nothing.
use Prim.Native.Nat.{◌-◌}
use lib.ListN.{length}
use Rattle.changes.specs.declared.Mode.TheVariants.{Between}
use Rattle.pieces.proofs.Reading.{Moving}
use Rattle.pieces.proofs.quick.take_plain.Given as goal

abbrev pub invariant-loop-at : goal.invariant-loop-at
invariant-loop-at l = Moving l.dump l.from l.before l.at 0 Between l.level

abbrev pub decreases-loop-at : goal.decreases-loop-at
decreases-loop-at l = length l.dump - l.at
