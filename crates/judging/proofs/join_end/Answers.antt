-- `judging::join_end` meets its contract. Assumes nothing.
use mathlib.Core.Path.{sym}
use native.Mathlib.Omega.{arith}
use Rattle.headings.proofs.FaultLaws.{joined_small, join-none}
use Rattle.judging.proofs.join_end.Goals as goal

pub returns-in-Some-clause-line_in_bounds : goal.returns-in-Some-clause-line_in_bounds
returns-in-Some-clause-line_in_bounds c =
    rw c.join.ensures (joined_small _ _ _ _ c.requires (omega (arith, c.last_line.ensures.upper_bound)))

pub returns-in-None-clause-value : goal.returns-in-None-clause-value
returns-in-None-clause-value c = rw c.in-None.is (sym (join-none _ _))
