-- `judging::judge_body` meets its contract: the faults and samples so far, with those of what is left, are the dump's. Assumes nothing.
use Prim.Native.Nat.{◌-◌}
use lib.ListN.{length}
use Rattle.judging.specs.Kept.{Kept}
use Rattle.judging.proofs.judge_body.Given as goal

abbrev pub invariant-loop-word : goal.invariant-loop-word
invariant-loop-word l = Kept l.dump l.at l.line l.fault l.mode l.heard

abbrev pub decreases-loop-word : goal.decreases-loop-word
decreases-loop-word l = length l.dump - l.at
