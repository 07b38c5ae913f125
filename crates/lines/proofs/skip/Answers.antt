-- `lines::skip` meets its contract: a part without a line feed is passed, and the windows left are what is left of the text.
use Rattle.std.proofs.Common.{arith, sym, ◌∙◌}
use Rattle.std.specs.Slice.Iter.{chunks_exact_rest}
use Rattle.lines.proofs.LineLaws.{skip_part, window_left, window_more}
use Rattle.lines.proofs.skip.Goals as goal

pub returns-else-has_feed-2 : goal.returns-else-has_feed-2
returns-else-has_feed-2 c =
    let l = c.loop-window in
    let steps = c.in-Some.ensures.steps in
    let d = sym steps.1.0 ∙ l.invariant.1 in
    let size = steps.1.1 ∙ l.invariant.2 in
    skip_part c.args.text.now c.in-Some.window.now (chunks_exact_rest c.next.new.self) c.args.at l.i 8 d
    l.invariant.0.inside (omega arith) c.has_feed-then-has_feed.ensures c.if-has_feed-2.false l.invariant.0

pub loop-window-preserved : goal.loop-window-preserved
loop-window-preserved c =
    let l = c.loop-window in
    let steps = c.in-Some.ensures.steps in
    let d = sym steps.1.0 ∙ l.invariant.1 in
    let size = steps.1.1 ∙ l.invariant.2 in (
      window_more c.args.text.now c.in-Some.window.now (chunks_exact_rest c.next.new.self) c.args.at l.i d size
          c.has_feed.ensures c.if-has_feed.false l.invariant.0,
      window_left c.args.text.now c.in-Some.window.now (chunks_exact_rest c.next.new.self) l.i d size,
      steps.0 ∙ l.invariant.2,
    )
