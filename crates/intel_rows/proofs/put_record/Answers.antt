-- `intel_rows::put_record` meets its contract: its parts laid one after the other are the record's line.
use mathlib.Core.Path.{◌≡◌}
use native.Mathlib.Omega.{arith}
use lib.ListN.{length}
use Rattle.intel_rows.proofs.Laid.{record-laid}
use Rattle.intel_rows.proofs.put_record.Goals as goal

pub returns : goal.returns
returns c =
    let a = c.args in
    let total = c.sum.ensures in
    let head = c.put_head-sum.ensures in
    let whole : length a.row.now ≡ 16 = omega arith in
    rw (c.put_tail.ensures, c.encode.ensures, head.said)
    (record-laid a.address 0 a.row.now a.out.now a.at whole (omega arith) (omega (arith, rw head.sum at total)))
