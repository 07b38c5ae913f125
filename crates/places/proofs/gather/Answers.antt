-- `places::gather` meets its contract. Assumes nothing.
use Prim.Native.Nat.{◌<◌}
use mathlib.Core.Path.{◌≡◌, sym, ◌∙◌}
use native.Mathlib.Omega.{arith}
use Prim.Native.Nat.{◌+◌}
use lib.ListN.{length, set}
use lib.Seq.{set_out}
use Rattle.places.proofs.PlaceLaws.{gathering-starts, gathering-ends, turn-found, turn-passed}
use Rattle.places.proofs.gather.Goals as goal
use Rattle.places.proofs.gather.Goals.{then-disagree, then-found-places, else-found-places, else-disagree}

pub loop-i-init : goal.loop-i-init
loop-i-init c = gathering-starts _ _ _ _ _ c.requires.before_le_first

pub overflow_add-found : goal.overflow_add-found
overflow_add-found c = omega (arith, c.loop-i.invariant.few)

pub loop-i-preserved : goal.loop-i-preserved
loop-i-preserved c =
    let l = c.loop-i in
    let test = c.loop-i-test.true in
    let long : l.i < length c.args.answers.now = omega arith in
    elim c.if-disagree.branch [
      | then-disagree w ↦
          let p : w.if-found-places.places ≡ set l.places l.found (c.args.first + l.i) = elim w.if-found-places.branch [
            | then-found-places w' ↦ w'.places-is
            | else-found-places w' ↦ w'.places-is ∙ sym (set_out _ _ _ w'.if-found-places.false)
          ] in
          turn-found _ _ _ _ _ _ _ _ l.invariant test long _ _ _ c.disagree.ensures w.if-disagree.true (w.places-is ∙ p) w.found-is
      | else-disagree w ↦ turn-passed _ _ _ _ _ _ _ _ l.invariant test long _ _ _ c.disagree.ensures w.if-disagree.false w.places-is w.found-is
    ]

pub shape_of-places : goal.shape_of-places
shape_of-places c = c.loop-i.invariant.long

pub returns : goal.returns
returns c = gathering-ends _ _ _ _ _ _ _ _ c.loop-i.invariant c.loop-i-test.false
