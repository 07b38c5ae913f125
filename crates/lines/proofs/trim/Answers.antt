-- `lines::trim` meets its contract: the last character of the line decides, and it is the text's before `feed`.
use native.Mathlib.Omega.{arith}
use Rattle.lines.proofs.LineLaws.{trim-at, trim-kept, trim-empty}
use Rattle.lines.proofs.trim.Goals as goal

pub returns-then-text-last-eq-CARRIAGE_RETURN : goal.returns-then-text-last-eq-CARRIAGE_RETURN
returns-then-text-last-eq-CARRIAGE_RETURN c =
    let pre = c.requires in
    trim-at _ _ _ pre.at_le_feed pre.feed_in_bounds c.if-at-feed.true c.if-text-last-eq-CARRIAGE_RETURN.true

pub returns-else-text-last-eq-CARRIAGE_RETURN : goal.returns-else-text-last-eq-CARRIAGE_RETURN
returns-else-text-last-eq-CARRIAGE_RETURN c =
    let pre = c.requires in
    trim-kept _ _ _ pre.at_le_feed pre.feed_in_bounds c.if-at-feed.true c.if-text-last-eq-CARRIAGE_RETURN.false

pub returns-else-at-feed : goal.returns-else-at-feed
returns-else-at-feed c = trim-empty _ _ _ (omega arith)
