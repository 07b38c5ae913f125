-- `words::value` meets its contract: a digit joins those so far, and the number is cut.
use Rattle.std.proofs.Common.{◌*◌, ◌+◌, min, rules, tests}
use Rattle.std.proofs.lemmas.Iterator.Consumers.{fold_from_yields_List}
use Rattle.std.proofs.lemmas.Iterator.{YieldsList-from_slice}
use Rattle.words.proofs.WordLaws.{value_found}
use Rattle.words.proofs.value.Goals as goal
use Rattle.words.specs.Words.{figure_of}

pub returns : goal.returns
returns c =
    value_found c.fold.result c.args.base c.args.most c.args.digits.now
    (fold_from_yields_List _ (λ so_far d. min (so_far * c.args.base + figure_of d) c.args.most) 0 c.fold.result c.fold.ensures.ran
    (YieldsList-from_slice c.args.digits.now cc) (λ so_far d r q called. search (rules, tests)))
