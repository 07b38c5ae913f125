-- `replies::closing` meets its contract.
use mathlib.Core.Path.{refl, ◌∙◌}
use Rattle.replies.proofs.Filled.{closing-bytes}
use Rattle.replies.proofs.closing.Goals as goal

pub returns : goal.returns
returns c =
    let words = c.closing_words-words in
    let register = c.register in
    record {
      register = register.result;
      reads = register.ensures;
      said = c.encode.ensures ∙ rw words.ensures (closing-bytes _ _ _ refl);
    }
