-- `wires::marks::lay` meets its contract. Assumes nothing.
use native.Mathlib.Omega.{arith}
use Rattle.wires.proofs.LaidBits.{laid-set, laid-clear}
use Rattle.wires.proofs.marks.lay.Goals as goal

pub returns-then-value-eq1 : goal.returns-then-value-eq1
returns-then-value-eq1 c = record { value = laid-set _ _ _ c.if-value-eq1.true; upper_bound = omega arith }

pub returns : goal.returns
returns c = record { value = laid-clear _ _ _ c.requires c.if-value-eq1.false; upper_bound = omega arith }
