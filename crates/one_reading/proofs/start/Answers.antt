-- `one_reading::start` meets its contract. Assumes nothing.
use Rattle.one_reading.proofs.Refused.{fails-faulty}
use Rattle.one_reading.proofs.start.Goals as goal

pub returns-in-Err : goal.returns-in-Err
returns-in-Err c = fails-faulty _ _ c.in-Err.field-0 (rw c.in-Err.is at c.requires)
