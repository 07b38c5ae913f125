-- `hexfile::sums::sums_to_zero` meets its contract: the noughts behind the bytes add nothing.
use Prim.Native.Nat.{◌+◌, ◌%◌, ◌≤◌, ◌<◌}
use mathlib.Core.Path.{◌≡◌}
use lib.ListN.{length, take}
use Rattle.hexfile.specs.Pairs.{sum_of}
use Rattle.hexfile.proofs.sums.sums_to_zero.Given as goal

abbrev pub invariant-loop-i : goal.invariant-loop-i
invariant-loop-i l =
    (l.i < l.count + 8)
    × (l.count + 8 ≤ length l.room)
    × (l.total < 256)
    × (l.total ≡ sum_of (take l.i l.room) % 256)
