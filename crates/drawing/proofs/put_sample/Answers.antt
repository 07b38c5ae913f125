-- `drawing::put_sample` meets its contract.
use Prim.Native.Nat.{◌≤◌}
use native.Mathlib.Omega.{arith}
use lib.ListN.{length, length-set}
use Rattle.codes.specs.Codes.{hash}
use Rattle.drawing.proofs.Starting.{sample-starts}
use Rattle.drawing.proofs.put_sample.Goals as goal

pub returns : goal.returns
returns c =
    let a = c.args in
    let next = c.next-now in
    let time = c.put_decimal-end.ensures in
    let room : 46 ≤ length a.out.now = omega (arith, c.put_decimal-arg-1.given.0, length-set a.out.now 0 hash) in
    record {
      drawn = next.ensures;
      text =
          rw (← next.ensures) (sample-starts a.drawn next.result _ _ _ _ _ time.lays time.upper_bound c.put-length.ensures.lays c.put-length.ensures.upper_bound room);
    }
