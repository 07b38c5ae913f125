-- The room for the bytes of the times is as long as they need.
use mathlib.Core.Path.{sym}
use native.Mathlib.Omega.{arith}
use Rattle.intake.proofs.Rooms.{lent}
use Rattle.intake.proofs.fill_times.Goals as goal

pub slice_bounds-raw-end-2 : goal.slice_bounds-raw-end-2
slice_bounds-raw-end-2 g c = sym (lent 262148 _ (omega (arith, c.requires)))
