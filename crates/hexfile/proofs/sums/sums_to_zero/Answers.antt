-- `hexfile::sums::sums_to_zero` meets its contract: the noughts behind the bytes add nothing.
use Prim.Native.Nat.{◌+◌, ◌-◌}
use mathlib.Core.Path.{refl}
use native.Mathlib.Omega.{arith}
use borrow.Rule.Slice.PartMut.{same_len_mid}
use Rattle.hexfile.proofs.SumLaws.{sums-turn, sums-up}
use Rattle.hexfile.proofs.sums.sums_to_zero.Goals as goal
use Rattle.hexfile.proofs.sums.sums_to_zero.Goals.{else-loop-i-test, then-loop-i-test+else-count-i-gt8}

pub loop-i-init : goal.loop-i-init
loop-i-init c =
    let n = c.args.count in
    let same = same_len_mid n (n + 8 - n) c.args.room.now c.fill.new.self c.fill.auto.self in
    (omega arith, omega arith, omega arith, refl)

pub loop-i-preserved : goal.loop-i-preserved
loop-i-preserved c =
    let b = c.loop-i in
    (omega arith, b.invariant.1, omega arith, sums-turn _ b.i b.invariant.3 c.sum-total.ensures)

pub shape_of-room : goal.shape_of-room
shape_of-room c =
    let n = c.args.count in
    same_len_mid n (n + 8 - n) c.args.room.now c.fill.new.self c.fill.auto.self

pub returns : goal.returns
returns c =
    let b = c.loop-i in
    let noughts = c.fill.ensures.after (λ y e. e) in
    elim c.loop-i-test.branch [
      | else-loop-i-test w ↦
          rw w.total-is (sums-up c.args.room.now _ _ c.args.count b.i c.requires (omega arith) (omega arith) noughts b.invariant.3)
      | then-loop-i-test+else-count-i-gt8 w ↦
          let t = sums-turn _ b.i b.invariant.3 w.sum-total.ensures in
          rw w.total-is (sums-up c.args.room.now _ _ c.args.count (b.i + 8) c.requires (omega arith) (omega arith) noughts t)
    ]
