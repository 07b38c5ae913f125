-- `reader::read_into` meets its contract.
use Rattle.std.proofs.Common.{◌≡◌, Err, refl, rules}
use Rattle.reader.proofs.Into.{into-refused, into-accepted}
use Rattle.reader.proofs.read_into.Goals as goal

pub returns-in_err-count : goal.returns-in_err-count
returns-in_err-count g c =
    let same : c.from_residual.result ≡ Err c.in_err-count.field-0.0 = search rules in
    rw same (into-refused _ _ _ _ _ _ _ (rw c.in_err-count.was at c.read_lines.ensures) refl)

pub returns : goal.returns
returns g c = into-accepted _ _ _ _ _ _ _ _ (rw c.in_ok-count.was at c.read_lines.ensures) refl c.settle.ensures
