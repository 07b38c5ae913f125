-- `pieces::first_time` meets its contract. The loop's invariant: what is left of the dump gives the same samples. Assumes nothing.
use Prim.Native.Nat.{◌-◌}
use lib.ListN.{length}
use Rattle.pieces.proofs.Reading.{Starting}
use Rattle.pieces.proofs.first_time.Given as goal

abbrev pub invariant-loop-word : goal.invariant-loop-word
invariant-loop-word l = Starting l.dump l.from l.at l.on l.mode

abbrev pub decreases-loop-word : goal.decreases-loop-word
decreases-loop-word l = length l.dump - l.at
