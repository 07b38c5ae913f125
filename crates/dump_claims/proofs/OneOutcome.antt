-- There is only one possible reply to a dump. It rests on the promises alone. Assumes nothing.
use mathlib.Core.Path.{◌≡◌, sym, ◌∙◌}
use Rattle.ground.proofs.Verdicts.{meant-one}
use Rattle.dump_claims.specs.OneOutcome.{OneOutcome}

-- The claim: one outcome for each operation on dumps.
pub one-outcome : OneOutcome
one-outcome =
    record {
      judge = λ dump r q x y. meant-one r q (x.reply ∙ sym y.reply);
      report = λ part select stored dump array row r q array₁ row₁ array₂ row₂ x y.
          (meant-one r q (x.reply ∙ sym y.reply), x.kept ∙ sym y.kept, x.said ∙ sym y.said);
      door = λ part select stored dump array row numbers r q array₁ row₁ numbers₁ array₂ row₂ numbers₂ x y.
          (x.answer ∙ sym y.answer, x.kept ∙ sym y.kept, x.said ∙ sym y.said, x.reply ∙ sym y.reply);
      first = λ dump r q x y. x.left ∙ sym y.left;
      fill = λ dump m n elapsed levels r q elapsed₁ levels₁ elapsed₂ levels₂ h x y.
          let e : r.count ≡ q.count = x.count ∙ rw h (sym y.count) in
          (e, x.times ∙ rw (h, e) (sym y.times), x.bytes ∙ rw (h, e) (sym y.bytes), x.left ∙ rw (h, e) (sym y.left));
      begin = λ part select stored dump array r q x y.
          (meant-one r.reply q.reply (x.reply ∙ sym y.reply), x.state ∙ sym y.state, x.next ∙ sym y.next, x.left ∙ sym y.left);
    }
