-- `headings::search::search` meets its contract: the marks so far, with those of the wires that are left, are all. Assumes nothing.
use Prim.Native.Nat.{◌-◌}
use lib.ListN.{length}
use Rattle.headings.proofs.Seeks.{Seeks}
use Rattle.headings.proofs.search.search.Given as goal

abbrev pub invariant-tokens : goal.invariant-tokens
invariant-tokens l = Seeks l.dump l.code l.walk l.is_its l.so_far

abbrev pub decreases-tokens : goal.decreases-tokens
decreases-tokens l = length l.dump - l.walk.at
