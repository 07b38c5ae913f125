-- `drawing::values::put` meets its contract: wire after wire, what is laid grows by a line or by nothing.
use mathlib.Core.List.{[]}
use mathlib.Core.Path.{refl}
use native.Mathlib.Omega.{arith}
use Rattle.drawing.proofs.Laid.{turn, ended, same-room}
use borrow.Author.Rules.{rules}
use Rattle.drawing.proofs.values.put.Goals as goal

pub loop-i-init : goal.loop-i-init
loop-i-init c =
    record {
      done = [];
      laid = record { laid = refl; next = omega arith };
      whole = refl;
      few = omega arith;
      below = omega arith;
      befores = search rules;
      afters = search rules;
    }

pub put_value-at-requires : goal.put_value-at-requires
put_value-at-requires c =
    let at = c.loop-i in
    omega (arith, same-room at.invariant, at.invariant.few, c.requires)

pub loop-i-preserved : goal.loop-i-preserved
loop-i-preserved c =
    let at = c.loop-i in
    let call = c.put_value-at in
    turn at.invariant c.loop-i-test.true call.ensures.lays call.ensures.upper_bound

pub shape_of-out : goal.shape_of-out
shape_of-out c = same-room c.loop-i.invariant

pub returns : goal.returns
returns c = record { lays = ended c.loop-i.invariant c.loop-i-test.false; upper_bound = omega (arith, c.loop-i.invariant.few, c.loop-i.invariant.below) }
