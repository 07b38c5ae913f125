-- `sections::steps::is_printable` meets its contract. Assumes nothing.
use mathlib.Core.Path.{◌∙◌}
use borrow.Author.Rules.{rules}
use borrow.Author.Tests.{tests}
use Rattle.std.specs.Char.{is_ascii_graphic}
use Rattle.std.proofs.lemmas.Iterator.{YieldsList-from_slice}
use Rattle.std.proofs.lemmas.Iterator.Search.{all_from_yields_List}
use Rattle.sections.proofs.SectionLaws.{printable-all}
use Rattle.sections.proofs.steps.is_printable.Goals as goal

pub returns : goal.returns
returns c =
    let word = c.args.word.now in
    let all = all_from_yields_List is_ascii_graphic _ _ c.all.result c.all.ensures.ran (YieldsList-from_slice word cc) (λ x b q k. search (rules, tests)) in
    all ∙ printable-all word
