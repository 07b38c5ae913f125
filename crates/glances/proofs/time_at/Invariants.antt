-- `glances::time_at` meets its contract: what is passed is a hash and digits. Assumes nothing.
use Rattle.glances.proofs.GlanceLaws.{Reads}
use Rattle.glances.proofs.time_at.Given as goal

abbrev pub invariant-loop-i : goal.invariant-loop-i
invariant-loop-i l = Reads l.dump l.from l.time l.i
