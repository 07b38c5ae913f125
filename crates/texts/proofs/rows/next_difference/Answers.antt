-- `texts::rows::next_difference` meets its contract: a row is at its end, or what is left is alike as far as its pairs are equal.
use Rattle.std.proofs.Common.{arith}
use Rattle.texts.proofs.Alike.{alike_left, first_ends, second_ends}
use Rattle.texts.proofs.rows.next_difference.Goals as goal
use Rattle.texts.proofs.rows.next_difference.Goals.{then-from-before-via-then-from-before, then-from-before-via-else-from-before+then-from-after}

pub returns-then-from-before : goal.returns-then-from-before
returns-then-from-before c =
    let args = c.args in
    elim c.then-from-before.branch [
      | then-from-before-via-then-from-before w ↦ first_ends args.before.now args.after.now args.from (omega arith)
      | then-from-before-via-else-from-before+then-from-after w ↦ second_ends args.before.now args.after.now args.from (omega arith)
    ]

pub overflow_add-result : goal.overflow_add-result
overflow_add-result c =
    let args = c.args in
    let h = alike_left args.before.now args.after.now args.from c.alike.result c.alike.ensures in
    omega arith

pub returns : goal.returns
returns c =
    let args = c.args in
    let h = alike_left args.before.now args.after.now args.from c.alike.result c.alike.ensures in
    omega arith
