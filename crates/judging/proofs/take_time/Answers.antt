-- `judging::take_time` meets its contract. Assumes nothing.
use Rattle.judging.proofs.take_time.Goals as goal

pub returns : goal.returns
returns c = rw (← c.counted-samples.ensures)
