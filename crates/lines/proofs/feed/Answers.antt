-- `lines::feed` meets its contract: what the line has from `from` on tells its end.
use Rattle.std.proofs.Common.{arith}
use Rattle.lines.proofs.LineLaws.{first_left}
use Rattle.lines.proofs.feed.Goals as goal

pub overflow_add-result : goal.overflow_add-result
overflow_add-result c =
    let h = first_left c.args.text.now c.skip-from.result c.before_feed.result c.before_feed.ensures in omega arith

pub returns : goal.returns
returns c =
    let h = first_left c.args.text.now c.skip-from.result c.before_feed.result c.before_feed.ensures in omega arith
