-- `intel::judge` meets its contract.
use mathlib.Core.Path.{◌≡◌}
use native.Mathlib.Omega.{arith}
use borrow.Author.Tests.{ne_eqb}
use Rattle.intel.specs.Intel.{record_address, typed}
use Rattle.intel.proofs.Heard.{judge-untyped, judge-end, judge-placed}
use Rattle.intel.proofs.judge.Goals as goal

pub returns-in-0-default-default : goal.returns-in-0-default-default
returns-in-0-default-default c =
    let pre = c.requires in
    let at : c.from.result ≡ record_address c.args.bytes.now = omega (arith, c.from.ensures, c.from_be_bytes-address.ensures) in
    judge-placed _ _ _ _ pre.bytes_value c.in-0-default-default.is-0 pre.bytes_len (rw at at c.place.ensures)

pub returns-in-1-eq0-eq0 : goal.returns-in-1-eq0-eq0
returns-in-1-eq0-eq0 c =
    let end = c.in-1-eq0-eq0 in
    judge-end _ _ c.requires.bytes_value end.is-0 end.is-1 (omega (arith, end.is-2, c.from_be_bytes-address.ensures))

pub returns-in_default : goal.returns-in_default
unfolding typed
returns-in_default c =
    let end = c.in_default in
    let some : record_address c.args.bytes.now ≡ 0 → ⊥ = λ e. end.is-2.1 (omega (arith, e, c.from_be_bytes-address.ensures)) in
    judge-untyped _ _ c.requires.bytes_value (rw (end.is-0, end.is-1, ne_eqb _ _ some))

pub returns-in_default-2 : goal.returns-in_default-2
unfolding typed
returns-in_default-2 c =
    let end = c.in_default in
    judge-untyped _ _ c.requires.bytes_value (rw (end.is-0, ne_eqb _ _ end.is-1.1))

pub returns-in_default-3 : goal.returns-in_default-3
unfolding typed
returns-in_default-3 c =
    let type = c.in_default.is-0 in
    judge-untyped _ _ c.requires.bytes_value (rw (ne_eqb _ _ type.0.1, ne_eqb _ _ type.1))
