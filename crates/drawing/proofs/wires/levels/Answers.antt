-- `drawing::wires::levels` meets its contract.
use Rattle.drawing.proofs.wires.levels.Goals as goal

pub returns : goal.returns
returns c = rw (c.scl.ensures, c.sda.ensures, c.wp.ensures, c.vcc.ensures, c.own_in.ensures, c.line.ensures)
