-- `words::is_numeral` meets its contract: each character is tested.
use Rattle.std.proofs.Common.{nat_lt, rules, tests}
use Rattle.std.proofs.lemmas.Iterator.Search.{all_from_yields_List}
use Rattle.std.proofs.lemmas.Iterator.{YieldsList-from_slice}
use Rattle.words.proofs.WordLaws.{numeral-none, numeral_found}
use Rattle.words.proofs.is_numeral.Goals as goal
use Rattle.words.specs.Words.{figure_of}

pub returns-then-not-is_empty : goal.returns-then-not-is_empty
returns-then-not-is_empty c =
    numeral_found c.all.result c.args.base c.args.characters.now (search rules)
    (all_from_yields_List (λ d. nat_lt (figure_of d) c.args.base) _ _ c.all.result c.all.ensures.ran
    (YieldsList-from_slice c.args.characters.now cc) (λ d r q called. search (rules, tests)))

pub returns-else-not-is_empty : goal.returns-else-not-is_empty
returns-else-not-is_empty c = rw c.if-not-is_empty.false (numeral-none c.args.base c.args.characters.now (search rules))
