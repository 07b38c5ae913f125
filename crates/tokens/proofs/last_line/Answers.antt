-- `tokens::last_line` meets its contract: the feeds that are counted are those before the last character. Assumes nothing.
use Prim.Native.Nat.{◌-◌}
use mathlib.Core.Path.{◌≡◌, sym, ◌∙◌}
use borrow.Author.Rules.{rules}
use lib.Dec.{eqb}
use lib.ListN.{length, take}
use Rattle.std.specs.List.{count_by}
use Rattle.lines.specs.Lines.{line_feed}
use Rattle.tokens.specs.Tokens.{last_line}
use Rattle.tokens.proofs.TokenLaws.{feeds-count}
use Rattle.tokens.proofs.last_line.Goals as goal

pub returns-clause-value : goal.returns-clause-value
unfolding last_line
returns-clause-value c =
    let before = take (length c.args.text.now - 1) c.args.text.now in
    let counted : c.count.result ≡ count_by (λ x. eqb x line_feed) before = search rules in
    counted ∙ sym (feeds-count before)
