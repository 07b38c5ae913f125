-- `reader::read_lines` meets its contract.
use Rattle.std.proofs.Common.{◌≡◌, Ok, ◌∙◌, rules, arith}
use lib.ListN.{length-drop}
use Rattle.ground.proofs.Rows.{tail-whole}
use Rattle.reader.proofs.Turns.{found, turn-none, turn-gives, turn-refused, turn-after, turn-ends, lines-refused, lines-accepted}
use Rattle.reader.proofs.read_lines.Goals as goal

pub slice_bounds-hear-count : goal.slice_bounds-hear-count
slice_bounds-hear-count g c =
    let w = found _ _ _ _ c.next_line.ensures c.in-Some.is in
    omega arith

pub slice_bounds-hear-start : goal.slice_bounds-hear-start
slice_bounds-hear-start g c =
    let w = found _ _ _ _ c.next_line.ensures c.in-Some.is in
    omega arith

pub overflow_sub-line : goal.overflow_sub-line
overflow_sub-line g c =
    let w = found _ _ _ _ c.next_line.ensures c.in-Some.is in
    omega arith

pub hear-requires-clause-n_in_bounds : goal.hear-requires-clause-n_in_bounds
hear-requires-clause-n_in_bounds g c =
    let w = found _ _ _ _ c.next_line.ensures c.in-Some.is in
    rw (tail-whole c.loop-line.at c.args.text.now, length-drop c.loop-line.at c.args.text.now) (omega arith)

pub overflow_add-next : goal.overflow_add-next
overflow_add-next g c =
    let w = found _ _ _ _ c.next_line.ensures c.in-Some.is in
    omega arith

pub loop-line-smaller : goal.loop-line-smaller
loop-line-smaller g c =
    let w = found _ _ _ _ c.next_line.ensures c.in-Some.is in
    omega arith

pub loop-line-preserved : goal.loop-line-preserved
loop-line-preserved g c =
    let w = found _ _ _ _ c.next_line.ensures c.in-Some.is in
    let l = c.loop-line in
    let h = c.hear in
    let said : h.result ≡ Ok c.in_ok-says.says = search rules in (
      h.auto.room ∙ l.invariant.0,
      h.auto.cells ∙ l.invariant.1,
      l.invariant.2 ∙ turn-gives _ _ _ _ _ _ _ _ w (rw tail-whole at h.ensures) (rw c.in-Gives.is at said),
    )

pub returns-in_err-says : goal.returns-in_err-says
returns-in_err-says g c =
    let w = found _ _ _ _ c.next_line.ensures c.in-Some.is in
    let h = rw tail-whole at c.hear.ensures in
    turn-refused _ _ _ _ _ _ _ _ w h _ _ c.loop-line.invariant.2 (search rules)

pub returns-in-Ends : goal.returns-in-Ends
returns-in-Ends g c =
    let w = found _ _ _ _ c.next_line.ensures c.in-Some.is in
    let h = rw tail-whole at c.hear.ensures in
    let said : c.hear.result ≡ Ok c.in_ok-says.says = search rules in
    lines-refused _ _ _ _ _ (c.loop-line.invariant.2 ∙ turn-after _ _ _ _ _ _ _ _ w h (rw c.in-Ends.is at said) c.if-next-text.true)

pub returns-in-Ends-2 : goal.returns-in-Ends-2
returns-in-Ends-2 g c =
    let w = found _ _ _ _ c.next_line.ensures c.in-Some.is in
    let h = rw tail-whole at c.hear.ensures in
    let said : c.hear.result ≡ Ok c.in_ok-says.says = search rules in
    lines-accepted _ _ _ _ (c.loop-line.invariant.2 ∙ turn-ends _ _ _ _ _ _ _ _ w h (rw c.in-Ends-2.is at said) c.if-next-text.false)

pub returns-in_default : goal.returns-in_default
returns-in_default g c = lines-refused _ _ _ _ _ (c.loop-line.invariant.2 ∙ turn-none _ _ _ _ _ c.next_line.ensures c.in_default.is)
