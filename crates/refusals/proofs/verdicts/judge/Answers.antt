-- `refusals::verdicts::judge` meets its contract.
use Rattle.std.proofs.lemmas.Result.{err_from_is_err_and}
use mathlib.Core.Path.{refl, sym, ◌∙◌}
use borrow.Author.Tests.{eq-eqb, ne_eqb}
use native.Mathlib.Omega.{arith}
use lib.ListN.{length}
use Rattle.ground.specs.Verdict.{meant}
use Rattle.refusals.specs.Refusals.{judged_of}
use Rattle.refusals.proofs.Laws.{rows-stop, rows-go, rows-one}
use Rattle.refusals.proofs.verdicts.judge.Goals as goal

pub returns-in_err-rows : goal.returns-in_err-rows
unfolding judged_of
returns-in_err-rows c =
    let a = c.args in
    let p = err_from_is_err_and c.from_residual.result c.from_residual.ensures.1 in
    rw (p.1, p.2) (rows-stop a.s a.elapsed.now a.levels.now a.array.now _ _ c.in_err-rows.ensures _ _ refl)

pub returns-then-answers-levels : goal.returns-then-answers-levels
unfolding meant judged_of
returns-then-answers-levels c =
    let a = c.args in
    let r = c.rows in
    let e = rows-go a.s a.elapsed.now a.levels.now a.array.now r.result _ r.ensures _ _ c.in_ok-rows.was in
    rw c.into.ensures (sym (e ∙ rw (ne_eqb (length a.answers.now) (length a.levels.now) (λ same. omega arith))))

pub samples-requires : goal.samples-requires
samples-requires c =
    let a = c.args in
    let r = c.rows in
    rows-one a.s a.elapsed.now a.levels.now a.array.now r.result _ r.ensures _ c.in_ok-rows.was

pub returns : goal.returns
unfolding judged_of
returns c =
    let a = c.args in
    let r = c.rows in
    let e = rows-go a.s a.elapsed.now a.levels.now a.array.now r.result _ r.ensures _ _ c.in_ok-rows.was in
    c.samples.ensures ∙ sym (e ∙ rw (eq-eqb (length a.answers.now) (length a.levels.now) (omega arith)))
