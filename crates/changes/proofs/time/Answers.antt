-- `changes::time` meets its contract. Assumes nothing.
use mathlib.Core.Path.{◌≡◌}
use native.Mathlib.Omega.{arith}
use borrow.Author.Rules.{rules}
use Rattle.std.specs.Prelude.{None}
use Rattle.wires.specs.Times.{no_time}
use Rattle.changes.proofs.ChangeLaws.{time-fits, time-over}
use Rattle.changes.proofs.time.Goals as goal

pub returns-in_err-time : goal.returns-in_err-time
returns-in_err-time c =
    let none : c.from_residual.result ≡ None = search rules in
    rw (none, c.in_err-time.ensures) (time-over no_time (omega arith))

pub returns : goal.returns
returns c =
    let told = c.in_ok-time.ensures in
    rw (c.from.ensures, told.0) (time-fits _ (omega (arith, told.0, told.1)))
