-- The room is as long as it says.
use Rattle.std.proofs.Common.{ℕ, sym}
use lib.ListN.{length-replicate}
use Rattle.replayed.proofs.put_in_room.Goals as goal

pub slice_bounds-put_dump-end : goal.slice_bounds-put_dump-end
slice_bounds-put_dump-end g c = sym (length-replicate {0} {A = ℕ} 4194305 0)
