-- `hexfile::pairs::decode` meets its contract: the characters so far are digits, and the room has their bytes.
use Prim.Native.Nat.{◌*◌, ◌-◌, ◌≤◌}
use mathlib.Core.Path.{◌≡◌}
use lib.ListN.{length}
use Rattle.hexfile.proofs.WindowLaws.{Decoded}
use Rattle.hexfile.proofs.pairs.decode.Given as goal

abbrev pub invariant-loop-from : goal.invariant-loop-from
invariant-loop-from l =
    (l.from ≤ l.n) × (l.from ≡ 2 * l.at) × (length l.room ≡ length l.initial.room) × Decoded l.text l.room l.from l.at

abbrev pub decreases-loop-from : goal.decreases-loop-from
decreases-loop-from l = l.n - l.from
