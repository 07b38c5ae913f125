-- `replies::refusal_opening` meets its contract.
use mathlib.Core.Path.{refl, ◌∙◌}
use Rattle.replies.proofs.Filled.{opening-bytes}
use Rattle.replies.proofs.refusal_opening.Goals as goal

pub returns : goal.returns
returns c = c.encode.ensures ∙ rw c.refusal_words.ensures (opening-bytes _ _ refl)
