-- `refusals::verdicts::judge_capture` meets its contract.
use Rattle.std.proofs.lemmas.Result.{err_from_is_err_and}
use mathlib.Core.Path.{refl, sym, ◌∙◌}
use Rattle.refusals.specs.Refusals.{capture_of}
use Rattle.refusals.proofs.Laws.{rows-stop, rows-go, rows-one}
use Rattle.refusals.proofs.verdicts.judge_capture.Goals as goal

pub returns-in_err-rows : goal.returns-in_err-rows
unfolding capture_of
returns-in_err-rows c =
    let a = c.args in
    let p = err_from_is_err_and c.from_residual.result c.from_residual.ensures.1 in
    rw (p.1, p.2) (rows-stop a.s a.elapsed.now a.levels.now a.array.now _ _ c.in_err-rows.ensures _ _ refl)

pub samples-requires : goal.samples-requires
samples-requires c =
    let a = c.args in
    let r = c.rows in
    rows-one a.s a.elapsed.now a.levels.now a.array.now r.result _ r.ensures _ c.in_ok-rows.was

pub returns : goal.returns
unfolding capture_of
returns c =
    let a = c.args in
    let r = c.rows in
    c.samples.ensures
    ∙ sym (rows-go a.s a.elapsed.now a.levels.now a.array.now r.result _ r.ensures _ _ c.in_ok-rows.was)
