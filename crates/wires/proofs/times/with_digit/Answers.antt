-- `wires::times::with_digit` meets its contract. Assumes nothing.
use native.Mathlib.Omega.{arith}
use Rattle.wires.proofs.WireLaws.{digit-made}
use Rattle.wires.proofs.times.with_digit.Goals as goal

pub returns : goal.returns
returns c =
    let product = c.in_ok-tens.ensures in
    let digit = c.from.ensures in
    digit-made c.args.so_far c.args.character _ _ c.if-not-is_ascii_digit.ensures.value (omega arith) c.checked_add.ensures
