-- `listing::put_places` meets its contract. Assumes nothing.
use Rattle.listing.proofs.PlaceLines.{Writing}
use Rattle.listing.proofs.put_places.Given as goal

abbrev pub invariant-loop-i : goal.invariant-loop-i
invariant-loop-i l = Writing l.levels l.answers l.first l.initial.out l.out l.at l.i
