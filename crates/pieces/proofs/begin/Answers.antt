-- `pieces::begin` meets its contract. Assumes nothing.
use Rattle.pieces.proofs.Reading.{begins-over, begins-first}
use Rattle.pieces.proofs.begin.Goals as goal

pub returns-in-Ok : goal.returns-in-Ok
returns-in-Ok c = begins-first _ _ _ _ c.in-Ok.ensures c.first_time.ensures

pub returns-in-Err : goal.returns-in-Err
returns-in-Err c = begins-over _ _ _ c.in-Err.ensures
