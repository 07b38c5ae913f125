-- `twin::replays::replay` meets its contract.
use Rattle.ground.proofs.Verdicts.{is-accepted, is-refused}
use Rattle.refusals.proofs.Laws.{rows-equal}
use Rattle.twin.proofs.replays.replay.Goals as goal

pub run-state-requires : goal.run-state-requires
run-state-requires c =
    let a = c.args in
    let e = is-accepted c.judge-reply.result _ _ c.judge-reply.ensures c.in-Ok.is in
    let h = rows-equal a.state a.elapsed.now a.levels.now a.array.now a.answers.now _ e in
    record { elapsed_len = h.0; row_len = h.1 }

pub returns-in-Ok : goal.returns-in-Ok
returns-in-Ok c =
    let e = is-accepted c.judge-reply.result _ _ c.judge-reply.ensures c.in-Ok.is in
    let ran = c.run-state.ensures in
    record {
      reply = c.judge-reply.ensures;
      state = rw e ran.state;
      kept = rw e ran.kept;
      said = rw e ran.said;
    }

pub returns-in-Err : goal.returns-in-Err
returns-in-Err c =
    let e = is-refused c.judge-reply.result _ _ c.judge-reply.ensures c.in-Err.is in
    record {
      reply = c.judge-reply.ensures;
      state = rw e;
      kept = rw e;
      said = rw e;
    }
