-- `changes::value` meets its contract. Assumes nothing.
use mathlib.Core.Bool.{◌&&◌}
use mathlib.Core.Path.{◌≡◌}
use borrow.Author.Rules.{rules}
use lib.Dec.{ltb}
use Rattle.ground.proofs.Rows.{tail-whole}
use Rattle.changes.proofs.ChangeLaws.{value_given}
use Rattle.changes.proofs.value.Goals as goal
use Rattle.changes.proofs.value.Goals.{then-begun, else-begun}

pub returns : goal.returns
returns c =
    let marks = c.marks_of-marks.result in
    let test : c.if-begun.then_some ≡ (c.args.begun && ltb 0 marks) =
    elim c.if-begun.branch [ then-begun w ↦ search rules | else-begun w ↦ search rules ] in
    rw (c.then_some.ensures, test, ← tail-whole 1 c.args.word.now, ← c.marks_of-marks.ensures) (value_given _ _ _)
