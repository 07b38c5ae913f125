-- `power::power_up` meets its contract.
use Rattle.ground.proofs.Verdicts.{is-accepted, is-refused}
use Rattle.power.proofs.power_up.Goals as goal

pub returns-in-Ok : goal.returns-in-Ok
returns-in-Ok c =
    let e = is-accepted c.power-reply.result _ _ c.power-reply.ensures c.in-Ok.is in
    record { reply = c.power-reply.ensures; state = rw (c.powered_up-state.ensures, e) }

pub returns-in-Err : goal.returns-in-Err
returns-in-Err c =
    let e = is-refused c.power-reply.result _ _ c.power-reply.ensures c.in-Err.is in
    record { reply = c.power-reply.ensures; state = rw (c.powered_up-state-in-Err.ensures, e) }
