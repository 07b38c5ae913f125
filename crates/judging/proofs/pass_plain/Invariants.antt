-- `judging::pass_plain` meets its contract. The loop's invariant: the same is kept at the place reached. Assumes nothing.
use Prim.Native.Nat.{◌-◌}
use lib.ListN.{length}
use Rattle.judging.proofs.PlainLaws.{Passing}
use Rattle.judging.proofs.pass_plain.Given as goal

abbrev pub invariant-loop-at : goal.invariant-loop-at
invariant-loop-at l = Passing l.dump l.from l.heard.given l.at l.line l.lines l.time l.samples

abbrev pub decreases-loop-at : goal.decreases-loop-at
decreases-loop-at l = length l.dump - l.at
