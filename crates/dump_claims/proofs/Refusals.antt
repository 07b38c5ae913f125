-- Demand 1 for dumps. It rests on the promises alone. Assumes nothing.
use mathlib.Core.Path.{◌∙◌}
use lib.ListN.{length}
use borrow.Author.Tests.{eq-eqb, ne_eqb}
use Rattle.dump_claims.specs.Refusals.{DumpRefusals}

-- The claim: what each operation leaves where it refuses.
pub dump-refusals : DumpRefusals
dump-refusals =
    record {
      judge = λ dump r k p x v. x.reply ∙ v;
      begin = λ part select stored dump array r k p x v. x.reply ∙ v;
      report = λ part select stored dump array row r array' row' k p x v. (x.reply ∙ rw v, x.kept ∙ rw v, x.said ∙ rw v);
      door = λ part select stored dump array row numbers r array' row' numbers' k p x h v.
          let e = eq-eqb (length numbers) 2 h in
          (x.answer ∙ rw e, x.reply ∙ rw (e, v), x.kept ∙ rw (e, v), x.said ∙ rw (e, v));
      door-row = λ part select stored dump array row numbers r array' row' numbers' x h.
          let e = ne_eqb (length numbers) 2 h in
          (x.answer ∙ rw e, x.reply ∙ rw e, x.kept ∙ rw e, x.said ∙ rw e);
      start = λ part select stored image dump r array k p x v. x.reply ∙ v;
    }
