-- `tokens::next` meets its contract: past the blanks, a token begins or the text ends. Assumes nothing.
use native.Mathlib.Omega.{arith}
use Rattle.tokens.proofs.TokenLaws.{finds-word, finds-end}
use Rattle.tokens.proofs.next.Goals as goal

pub returns-then-stand-text : goal.returns-then-stand-text
returns-then-stand-text c = finds-end _ _ _ _ c.pass_blanks-stand.ensures (omega arith)

pub returns : goal.returns
returns c = let inside = c.pass_blanks-stand.ensures.inside in finds-word _ _ _ _ c.pass_blanks-stand.ensures _ (omega arith) c.word_end.ensures
