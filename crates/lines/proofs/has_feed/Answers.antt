-- `lines::has_feed` meets its contract.
use Rattle.std.proofs.Common.{◌||◌, false, rules, tests}
use Rattle.std.proofs.lemmas.Iterator.Consumers.{fold_from_yields_List}
use Rattle.std.proofs.lemmas.Iterator.{YieldsList-from_slice}
use Rattle.lines.proofs.LineLaws.{feed_found}
use Rattle.lines.proofs.has_feed.Goals as goal
use Rattle.lines.specs.Lines.{line_feed}
use lib.Dec.{eqb}

pub returns : goal.returns
returns c =
    feed_found c.fold.result c.args.text.now
    (fold_from_yields_List _ (λ any x. any || eqb x line_feed) false c.fold.result c.fold.ensures.ran
    (YieldsList-from_slice c.args.text.now cc) (λ any x r q called. search (rules, tests)))
