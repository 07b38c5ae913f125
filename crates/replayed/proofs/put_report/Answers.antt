-- A dump that is accepted may be replayed.
use Rattle.ground.proofs.Verdicts.{is-accepted}
use Rattle.replayed.proofs.put_report.Goals as goal

pub put_places-requires : goal.put_places-requires
put_places-requires g c =
    let start = c.start-opened in
    (start.ensures.ready _ (is-accepted _ _ _ start.ensures.reply c.in-Ok.is)).stands
