-- `headings::define` meets its contract: what was found, with what is left to read, is the whole. Assumes nothing.
use Prim.Native.Nat.{◌-◌}
use lib.ListN.{length}
use Rattle.headings.proofs.Stands.{Stands}
use Rattle.headings.proofs.define.Given as goal

abbrev pub invariant-tokens : goal.invariant-tokens
invariant-tokens l = Stands l.dump l.table l.walk l.code l.named l.fault

abbrev pub decreases-tokens : goal.decreases-tokens
decreases-tokens l = length l.dump - l.walk.at
