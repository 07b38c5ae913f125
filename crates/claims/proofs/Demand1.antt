-- A refusal changes nothing: a replay hands back the state given and leaves array and answer row as they were, a
-- list the array and the row of entries, a reading leaves the array, a writing the buffer; a refused power-up hands back the state of part 4323, select 0,
-- stored byte 00h. It rests on the promises alone. No axiom is used.
use mathlib.Core.Path.{sym, ◌∙◌}
use lib.ListN.{length}
use borrow.Author.Tests.{eq-eqb, ne_eqb}
use Rattle.tidying.specs.Shown.{shown_of}
use Rattle.captures.specs.Once.{capture_verdict}
use Rattle.claims.specs.Demand1.{Demand1}

-- The claim: what each operation leaves where it refuses.
pub demand-1 : Demand1
unfolding shown_of capture_verdict
demand-1 =
    record {
      power-up = λ part select stored r k p x v. (x.reply ∙ v, x.state ∙ rw v);
      replay = λ s es ls array row r array' row' k p x v.
          (x.reply ∙ v, x.state ∙ rw v, x.kept ∙ rw v, x.said ∙ rw v);
      read-image = λ part text array r array' k p x v. (x.reply ∙ rw v, x.kept ∙ rw v);
      write-image = λ part array out r out' k p x v. (x.reply ∙ v, x.said ∙ rw v);
      tidy = λ part text out r out' k p x v. (x.count ∙ rw v, x.shown ∙ rw v);
      size = λ part r x v. x.said ∙ rw v;
      door-power-up = λ part select stored es ls array row numbers r array' row' numbers' k p x h v.
          let e = eq-eqb (length numbers) 2 h in
          (x.answer ∙ rw e, x.reply ∙ rw (e, v), x.kept ∙ rw (e, v), x.said ∙ rw (e, v));
      door-replay = λ part select stored es ls array row numbers r array' row' numbers' n k p x h u v.
          let e = eq-eqb (length numbers) 2 h in
          (x.answer ∙ rw e, x.reply ∙ rw (e, u, v), x.kept ∙ rw (e, u, v), x.said ∙ rw (e, u, v));
      door-read-image = λ part text array numbers r array' numbers' k p x h v.
          let e = eq-eqb (length numbers) 2 h in
          (x.answer ∙ rw e, x.reply ∙ rw (e, v), x.kept ∙ rw (e, v));
      door-write-image = λ part array out numbers r out' numbers' k p x h v.
          let e = eq-eqb (length numbers) 2 h in
          (x.answer ∙ rw e, x.reply ∙ rw (e, v), x.said ∙ rw (e, v));
      door-row-replay = λ part select stored es ls array row numbers r array' row' numbers' x h.
          let e = ne_eqb (length numbers) 2 h in
          (x.answer ∙ rw e, x.reply ∙ rw e, x.kept ∙ rw e, x.said ∙ rw e);
      door-row-read-image = λ part text array numbers r array' numbers' x h.
          let e = ne_eqb (length numbers) 2 h in
          (x.answer ∙ rw e, x.reply ∙ rw e, x.kept ∙ rw e);
      door-row-write-image = λ part array out numbers r out' numbers' x h.
          let e = ne_eqb (length numbers) 2 h in
          (x.answer ∙ rw e, x.reply ∙ rw e, x.said ∙ rw e);
      list = λ s es ls array row r array' row' k p x v.
          (x.reply ∙ rw v, x.state ∙ rw v, x.kept ∙ rw v, x.said ∙ rw v);
      only = λ s es ls array row r array' row' k p x e. sym x.reply ∙ e;
    }
