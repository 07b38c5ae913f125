-- `listing::put_places` meets its contract. Assumes nothing.
use Prim.Native.Nat.{◌<◌}
use native.Mathlib.Omega.{arith}
use lib.ListN.{length}
use Rattle.listing.proofs.PlaceLines.{writing-starts, writing-ends, turn-written, turn-passed}
use Rattle.listing.proofs.put_places.Goals as goal
use Rattle.listing.proofs.put_places.Goals.{then-disagree, else-disagree}

pub loop-i-init : goal.loop-i-init
loop-i-init c = writing-starts _ _ _ _

pub put_decimal-at-requires : goal.put_decimal-at-requires
put_decimal-at-requires c =
    let inv = c.loop-i.invariant in
    omega (arith, inv.few, inv.long)

pub bounds-out-at : goal.bounds-out-at
bounds-out-at c =
    let inv = c.loop-i.invariant in
    omega (arith, inv.few, inv.long, c.put_decimal-at.auto.out, c.put_decimal-at.ensures.upper_bound)

pub loop-i-preserved : goal.loop-i-preserved
loop-i-preserved c =
    let l = c.loop-i in
    let test = c.loop-i-test.true in
    let long : l.i < length c.args.answers.now = omega arith in
    elim c.if-disagree.branch [
      | then-disagree w ↦
          turn-written _ _ _ _ _ _ _ l.invariant test long _ _ _ _ _ c.disagree.ensures w.if-disagree.true
          w.put_decimal-at.ensures.lays w.put_decimal-at.ensures.upper_bound w.out-is w.at-is
      | else-disagree w ↦ turn-passed _ _ _ _ _ _ _ l.invariant test long _ _ _ c.disagree.ensures w.if-disagree.false w.out-is w.at-is
    ]

pub shape_of-out : goal.shape_of-out
shape_of-out c = c.loop-i.invariant.long

pub returns : goal.returns
returns c = writing-ends _ _ _ _ _ _ _ c.loop-i.invariant c.loop-i-test.false c.requires.levels_in_bounds
