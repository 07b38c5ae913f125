-- `hexfile::pairs::join` meets its contract: the bytes stored so far, and those that are left, are the bytes of the whole.
use Prim.Native.Nat.{◌*◌, ◌≤◌}
use mathlib.Core.List.{◌++◌}
use mathlib.Core.Path.{◌≡◌}
use lib.ListN.{length, take, drop}
use Rattle.hexfile.specs.Parts.{values_of}
use Rattle.hexfile.proofs.pairs.join.Given as goal

abbrev pub invariant-loop-i : goal.invariant-loop-i
invariant-loop-i l =
    (l.i ≤ length l.initial.room)
    × (length l.room ≡ length l.initial.room)
    × (length l.text ≡ 2 * length l.initial.room)
    × (take l.i l.room ++ values_of (drop (2 * l.i) l.text) ≡ values_of l.text)
