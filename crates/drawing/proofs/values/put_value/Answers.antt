-- `drawing::values::put_value` meets its contract.
use mathlib.Core.Path.{refl}
use native.Mathlib.Omega.{arith}
use lib.ListN.{length-set}
use Rattle.drawing.proofs.Laid.{value-laid}
use Rattle.drawing.proofs.values.put_value.Goals as goal

pub returns-then-stays : goal.returns-then-stays
returns-then-stays c = record { lays = rw c.if-stays.true (record { laid = refl; next = omega arith }); upper_bound = omega arith }

pub bounds-out-at-2 : goal.bounds-out-at-2
bounds-out-at-2 c = simp length-set (omega arith)

pub bounds-out-at-3 : goal.bounds-out-at-3
bounds-out-at-3 c = simp length-set (omega arith)

pub returns : goal.returns
returns c = record { lays = rw c.if-stays.false (value-laid _ _ _ c.args.level _ c.figure.ensures); upper_bound = omega arith }
