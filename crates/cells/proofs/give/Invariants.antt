-- `cells::give` meets its contract: what is tested and given so far, and what is left, is the whole.
use mathlib.Core.Bool.{◌&&◌}
use Prim.Native.Nat.{◌≤◌}
use mathlib.Core.Path.{◌≡◌}
use mathlib.Core.List.{◌++◌}
use lib.ListN.{length, take, drop}
use Rattle.cells.specs.Cells.{fresh_of, give_of}
use Rattle.cells.proofs.give.Given as goal

abbrev pub invariant-loop-i : goal.invariant-loop-i
invariant-loop-i l =
    (l.i ≤ length l.bytes)
    × (length l.cells ≡ length l.initial.cells)
    × (length l.bytes ≤ length l.initial.cells)
    × ((l.fresh && fresh_of (drop l.i l.cells) (drop l.i l.bytes)) ≡ fresh_of l.initial.cells l.bytes)
    × (take l.i l.cells ++ give_of (drop l.i l.cells) (drop l.i l.bytes) ≡ give_of l.initial.cells l.bytes)
