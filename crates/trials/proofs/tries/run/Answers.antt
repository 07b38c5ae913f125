-- `trials::tries::run` meets its contract: an accepted power-up goes on to the replays, a refused one changes nothing.
use Rattle.std.proofs.lemmas.Result.{err_from_is_err_and}
use Rattle.trials.proofs.Trying.{tries-accepted, tries-refused}
use Rattle.trials.proofs.tries.run.Goals as goal

pub returns-in_err-up : goal.returns-in_err-up
returns-in_err-up c =
    let p = err_from_is_err_and c.from_residual.result c.from_residual.ensures.1 in
    rw (p.1, p.2)
    (tries-refused c.args.header _ _ _ c.power_up-up.result
    c.narrow16-part.ensures
    c.narrow8-select.ensures
    c.narrow8-stored.ensures
    c.power_up-up.ensures
    _ _ _ _ _
    c.in_err-up.was)

pub returns : goal.returns
returns c =
    tries-accepted c.args.header _ _ _ c.power_up-up.result
    c.narrow16-part.ensures
    c.narrow8-select.ensures
    c.narrow8-stored.ensures
    c.power_up-up.ensures
    _ _ _ _ _ _ _ _ _ _
    c.in_ok-up.was
    c.state_of-state.ensures
    (c.fill.ensures.after (λ y e. e))
    c.replays.ensures
