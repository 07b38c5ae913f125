-- `wires::times::time_of` meets its contract: what the digits so far and those that are left come to, cut, is the whole's value, cut, and
-- those that are left tell whether all are digits. Assumes nothing.
use Rattle.wires.proofs.WireLaws.{Counts}
use Rattle.wires.proofs.times.time_of.Given as goal

abbrev pub invariant-loop-character : goal.invariant-loop-character
invariant-loop-character l = Counts l.digits l.character-index l.time
