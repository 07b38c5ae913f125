-- `cells::settle` meets its contract: what is settled so far, and what the cells left settle to, is the whole.
use Prim.Native.Nat.{◌≤◌}
use mathlib.Core.Path.{◌≡◌}
use mathlib.Core.List.{◌++◌}
use lib.ListN.{length, take, drop}
use Rattle.cells.specs.Cells.{settled_of}
use Rattle.cells.proofs.settle.Given as goal

abbrev pub invariant-loop-i : goal.invariant-loop-i
invariant-loop-i l =
    (l.i ≤ length l.cells)
    × (length l.array ≡ length l.initial.array)
    × (length l.initial.array ≡ length l.cells)
    × (take l.i l.array ++ settled_of (drop l.i l.cells) ≡ settled_of l.cells)
