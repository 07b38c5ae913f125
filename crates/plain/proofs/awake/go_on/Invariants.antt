-- `plain::awake::go_on` meets its contract: whatever stood before it stands after each sample.
use Prim.Native.Nat.{◌-◌}
use mathlib.Core.Bool.{true}
use mathlib.Core.Path.{◌≡◌}
use lib.ListN.{length}
use Rattle.page.specs.Page.{empty_load}
use Rattle.plain.specs.Awake.{Goes_on}
use Rattle.plain.proofs.awake.go_on.Given as goal

abbrev pub invariant-loop-i : goal.invariant-loop-i
invariant-loop-i l =
    (length l.elapsed ≡ length l.levels)
    × (length l.initial.row ≡ length l.levels)
    × Goes_on l.kind l.select l.base l.elapsed l.levels l.array l.fn.first l.initial.row (record { times = l.times; device = l.device; now = l.now; load = l.load; at = l.i }) l.row
    × (l.empty ≡ true → l.load ≡ empty_load)

abbrev pub decreases-loop-i : goal.decreases-loop-i
decreases-loop-i l = length l.levels - l.i
