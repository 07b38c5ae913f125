-- `twin::replays::run` meets its contract: ahead over plain samples, then one sample by itself, and so on.
use Prim.Native.Nat.{◌-◌}
use mathlib.Core.Path.{◌≡◌}
use lib.ListN.{length}
use Rattle.part.specs.Bench.{part_of}
use Rattle.clocks.specs.Goes.{Goes}
use Rattle.twin.proofs.replays.run.Given as goal

abbrev pub invariant-loop-i : goal.invariant-loop-i
invariant-loop-i l =
    (length l.elapsed ≡ length l.levels)
    × (length l.initial.row ≡ length l.levels)
    × (length l.array ≡ length l.initial.array)
    × Goes l.elapsed l.levels 0 (part_of l.initial.state l.initial.array) l.initial.row l.i (part_of l.state l.array) l.row

abbrev pub decreases-loop-i : goal.decreases-loop-i
decreases-loop-i l = length l.levels - l.i
