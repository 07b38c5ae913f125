-- `dark::go_on` meets its contract: before each sample a dark part stands where the samples so far have brought it.
use mathlib.Core.Path.{◌≡◌}
use lib.ListN.{length}
use Rattle.dark.specs.Dark.{Dims}
use Rattle.dark.proofs.go_on.Given as goal

abbrev pub invariant-loop-i : goal.invariant-loop-i
invariant-loop-i l =
    (length l.elapsed ≡ length l.levels)
    × (length l.initial.row ≡ length l.levels)
    × Dims l.high l.elapsed l.levels l.fn.first l.initial.row (record { write = l.write; lines = l.lines; at = l.i }) l.row
