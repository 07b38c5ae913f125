-- `words::is_number` meets its contract: a word that is not decimal is what its marked part is.
use mathlib.Core.Path.{sym, ◌∙◌}
use Rattle.words.proofs.WordLaws.{decimal-is, marked-is}
use Rattle.words.proofs.is_number.Goals as goal

pub returns-then-is_numeral : goal.returns-then-is_numeral
returns-then-is_numeral c = c.if-is_numeral.true ∙ decimal-is _ (sym c.is_numeral.ensures ∙ c.if-is_numeral.true)

pub returns-else-is_numeral : goal.returns-else-is_numeral
returns-else-is_numeral c =
    marked-is _ c.after_mark.ensures (sym c.is_numeral.ensures ∙ c.if-is_numeral.false) c.is_numeral-else-is_numeral.ensures
