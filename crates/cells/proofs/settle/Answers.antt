-- `cells::settle` meets its contract: what is settled so far, and what the cells left settle to, is the whole.
use mathlib.Core.Path.{refl, ◌∙◌}
use native.Mathlib.Omega.{arith}
use native.Mathlib.Numerals.{add-one}
use borrow.Author.Rules.{rules}
use lib.ListN.{length-set}
use Rattle.cells.proofs.CellLaws.{settle-turn, settle-done}
use Rattle.cells.proofs.settle.Goals as goal

pub loop-i-init : goal.loop-i-init
loop-i-init c = (search rules, refl, c.requires, refl)

pub loop-i-preserved : goal.loop-i-preserved
loop-i-preserved c =
    let at = c.loop-i in
    let cells = c.args.cells.now in (
      omega arith,
      simp length-set at.invariant.1,
      at.invariant.2,
      rw add-one (settle-turn cells at.array at.i _ (omega arith) (omega arith) c.byte_of.ensures ∙ at.invariant.3),
    )

pub shape_of-array : goal.shape_of-array
shape_of-array c = c.loop-i.invariant.1

pub returns : goal.returns
returns c =
    let at = c.loop-i in
    settle-done _ at.array _ at.i (omega arith) (omega arith) at.invariant.3
