-- `one_reading::moments::hear` meets its contract. The loop's invariant: no fault was heard, and what is left gives the same moments.
-- Assumes nothing.
use Prim.Native.Nat.{◌-◌}
use lib.ListN.{length}
use Rattle.one_reading.proofs.Hearing.{Hearing}
use Rattle.one_reading.proofs.moments.hear.Given as goal

abbrev pub invariant-loop-word : goal.invariant-loop-word
invariant-loop-word l = Hearing l.dump l.fn.track.mark.at l.fn.track.mark.level l.at l.line l.mode l.heard l.level

abbrev pub decreases-loop-word : goal.decreases-loop-word
decreases-loop-word l = length l.dump - l.at
