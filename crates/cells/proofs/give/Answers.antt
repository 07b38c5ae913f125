-- `cells::give` meets its contract: what is tested and given so far, and what is left, is the whole.
use mathlib.Core.Path.{refl, ◌∙◌}
use native.Mathlib.Omega.{arith}
use native.Mathlib.Numerals.{add-one}
use borrow.Author.Rules.{rules}
use lib.ListN.{length-set}
use Rattle.cells.proofs.CellLaws.{fresh-turn, fresh-done, give-turn, give-done}
use Rattle.cells.proofs.give.Goals as goal

pub loop-i-init : goal.loop-i-init
loop-i-init c = (search rules, refl, c.requires, refl, refl)

pub loop-i-preserved : goal.loop-i-preserved
loop-i-preserved c =
    let at = c.loop-i in
    let bytes = c.args.bytes.now in (
      omega arith,
      simp length-set at.invariant.1,
      at.invariant.2,
      rw add-one (fresh-turn at.cells bytes at.i _ at.fresh (omega arith) (omega arith) ∙ at.invariant.3),
      rw add-one (give-turn at.cells bytes at.i _ (omega arith) (omega arith) c.from.ensures ∙ at.invariant.4),
    )

pub shape_of-cells : goal.shape_of-cells
shape_of-cells c = c.loop-i.invariant.1

pub returns : goal.returns
returns c =
    let at = c.loop-i in
    record {
      said = fresh-done at.cells _ at.i at.fresh (omega arith) at.invariant.3;
      given = give-done at.cells _ _ at.i (omega arith) at.invariant.4;
    }
