-- `disagreements::report` meets its contract. Assumes nothing.
use mathlib.Core.List.{[]}
use mathlib.Core.Path.{refl}
use Rattle.std.proofs.lemmas.Result.{err_from_is_err_and}
use Rattle.disagreements.proofs.Openings.{opened-stands, reports-refused, reports-accepted}
use Rattle.disagreements.proofs.report.Goals as goal

pub returns-in_err-opened : goal.returns-in_err-opened
returns-in_err-opened c =
    let p = err_from_is_err_and c.from_residual.result c.from_residual.ensures.1 in
    rw (p.1, p.2) (reports-refused _ _ _ _ _ _ _ c.begin-opened.ensures _ c.in_err-opened.was)

pub play_on-found-requires : goal.play_on-found-requires
play_on-found-requires c =
    record { stands = opened-stands _ _ _ _ _ [] _ c.begin-opened.ensures _ c.in_ok-opened.was; elapsed_len = refl; levels_len = refl; answers_len = refl }

pub returns : goal.returns
returns c = reports-accepted _ _ _ _ _ _ _ c.begin-opened.ensures _ _ _ _ c.in_ok-opened.was c.play_on-found.ensures
