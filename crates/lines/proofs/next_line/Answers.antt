-- `lines::next_line` meets its contract: the first of the lines left is what stands up to the feed.
use native.Mathlib.Omega.{arith}
use Rattle.lines.proofs.LineLaws.{line-fits, step_line, step_end}
use Rattle.lines.proofs.next_line.Goals as goal

pub trim-requires : goal.trim-requires
trim-requires c =
    let args = c.args in
    let k = line-fits args.text.now args.at (omega arith) in
    record { at_le_feed = omega arith; feed_in_bounds = omega arith }

pub returns : goal.returns
returns c =
    let args = c.args in
    step_line args.text.now args.at _ _ (omega arith) c.feed-feed.ensures c.trim.ensures

pub returns-then-at-text : goal.returns-then-at-text
returns-then-at-text c = step_end _ _ c.if-at-text.true
