-- `tokens::pass_blanks` meets its contract: from each place passed on the same tokens are left. Assumes nothing.
use mathlib.Core.Bool.{not}
use mathlib.Core.Path.{◌≡◌, refl, ap, ◌∙◌}
use native.Mathlib.Omega.{arith}
use borrow.Author.Rules.{rules}
use Prim.Native.Nat.{ℕ}
use lib.ListN.{get_or, length, drop}
use lib.Dec.{eqb}
use Rattle.lines.specs.Lines.{line_feed}
use Rattle.tokens.specs.Tokens.{line_by, tokens_from}
use Rattle.tokens.proofs.TokenLaws.{line-feed, line_same, goes-here, pass-turn}
use Rattle.tokens.proofs.pass_blanks.Goals as goal
use Rattle.tokens.proofs.pass_blanks.Goals.{then-character-eq-LINE_FEED, else-character-eq-LINE_FEED}

pub loop-i-init : goal.loop-i-init
loop-i-init c = (search rules, search rules, search rules, refl)

pub returns-then-not-is_blank : goal.returns-then-not-is_blank
returns-then-not-is_blank c =
    let b = c.loop-i in
    record {
      from = b.invariant.0;
      inside = b.invariant.1;
      small = b.invariant.2;
      left = b.invariant.3;
      stops = λ h. goes-here _ _ h c.is_blank.ensures ∙ ap not c.if-not-is_blank.true;
    }

pub loop-i-preserved : goal.loop-i-preserved
loop-i-preserved c =
    let b = c.loop-i in
    let text = c.args.text.now in
    let e : c.if-character-eq-LINE_FEED.on ≡ line_by (eqb (get_or text b.i 0) line_feed) b.on =
    elim c.if-character-eq-LINE_FEED.branch [
      | then-character-eq-LINE_FEED w ↦ line-feed (get_or text b.i 0) b.on _ w.if-character-eq-LINE_FEED.true w.on-is
      | else-character-eq-LINE_FEED w ↦ line_same (get_or text b.i 0) b.on _ w.if-character-eq-LINE_FEED.false w.on-is
    ] in (
      omega arith,
      omega arith,
      elim c.if-character-eq-LINE_FEED.branch [ then-character-eq-LINE_FEED w ↦ omega arith | else-character-eq-LINE_FEED w ↦ omega arith ],
      b.invariant.3 ∙ pass-turn text b.i _ _ (omega arith) c.is_blank.ensures c.if-not-is_blank.false e,
    )

pub returns : goal.returns
returns c =
    let b = c.loop-i in
    let text = c.args.text.now in
    let e : b.i ≡ length text = omega arith in
    record {
      from = omega arith;
      inside = omega arith;
      small = omega arith;
      left = b.invariant.3 ∙ ap (λ (i : ℕ). tokens_from b.on (drop i text)) e;
      stops = λ h. absurd (omega arith);
    }
