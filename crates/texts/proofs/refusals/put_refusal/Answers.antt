-- `texts::refusals::put_refusal` meets its contract.
use mathlib.Core.Path.{◌∙◌}
use native.Mathlib.Omega.{arith}
use lib.ListN.{length-set}
use Rattle.texts.proofs.Starting.{refusal-starts}
use Rattle.texts.proofs.refusals.put_refusal.Goals as goal

pub put_decimal-last-requires : goal.put_decimal-last-requires
put_decimal-last-requires c = simp length-set (omega arith)

pub bounds-out-last : goal.bounds-out-last
bounds-out-last c =
    let d = c.put_decimal-first in
    let e = c.put_decimal-last.auto.out ∙ length-set d.new.out d.result 32 ∙ d.auto.out in
    omega arith

pub shape_of-out : goal.shape_of-out
shape_of-out c =
    let d = c.put_decimal-first in
    let b = c.put_decimal-last in
    length-set b.new.out b.result 10 ∙ b.auto.out ∙ length-set d.new.out d.result 32 ∙ d.auto.out

pub returns : goal.returns
returns c =
    refusal-starts c.args.number _ _ _ _ _ _ (rw c.from.ensures at c.put_decimal-first.ensures.lays) c.put_decimal-first.ensures.upper_bound c.put_decimal-last.ensures.lays c.put_decimal-last.ensures.upper_bound c.requires
