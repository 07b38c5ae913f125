-- `drawing::next` meets its contract.
use Rattle.drawing.specs.Drawing.{next_of}
use Rattle.drawing.proofs.next.Goals as goal

pub returns : goal.returns
unfolding next_of
returns c = rw (c.time.ensures, c.own_in.ensures, c.levels-levels.ensures)
