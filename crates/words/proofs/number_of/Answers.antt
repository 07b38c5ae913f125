-- `words::number_of` meets its contract: each branch is one row of the table.
use mathlib.Core.Path.{sym, ◌∙◌}
use Rattle.words.proofs.WordLaws.{number-decimal, number-marked, number-neither}
use Rattle.words.proofs.number_of.Goals as goal

pub returns-then-is_numeral : goal.returns-then-is_numeral
returns-then-is_numeral c = number-decimal _ _ (sym c.is_numeral.ensures ∙ c.if-is_numeral.true) c.value.ensures

pub returns-then-is_numeral-2 : goal.returns-then-is_numeral-2
returns-then-is_numeral-2 c =
    number-marked
    _
    c.after_mark-marked.ensures
    (sym c.is_numeral.ensures ∙ c.if-is_numeral.false)
    _
    (sym c.is_numeral-else-is_numeral.ensures ∙ c.if-is_numeral-2.true)
    c.value-then-is_numeral-2.ensures

pub returns-else-is_numeral-2 : goal.returns-else-is_numeral-2
returns-else-is_numeral-2 c =
    number-neither
    _
    c.after_mark-marked.ensures
    (sym c.is_numeral.ensures ∙ c.if-is_numeral.false)
    _
    (sym c.is_numeral-else-is_numeral.ensures ∙ c.if-is_numeral-2.false)
