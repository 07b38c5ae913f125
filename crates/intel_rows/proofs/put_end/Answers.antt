-- `intel_rows::put_end` meets its contract: a record's head and tail, with no data between them.
use mathlib.Core.List.{[]}
use mathlib.Core.Path.{refl}
use native.Mathlib.Omega.{arith}
use Rattle.intel_rows.proofs.Laid.{record-laid}
use Rattle.intel_rows.proofs.put_end.Goals as goal

pub returns : goal.returns
returns c =
    let a = c.args in
    let p = c.put_head-sum.ensures in
    rw (c.put_tail.ensures, p.said) (record-laid 0 1 [] a.out.now a.at refl (omega arith) (omega (arith, p.sum)))
