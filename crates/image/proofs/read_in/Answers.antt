-- `image::read_in` meets its contract: the law over any number of cells.
use native.Mathlib.Omega.{arith}
use Rattle.image.proofs.Replies.{reads_over}
use Rattle.image.proofs.read_in.Goals as goal

pub whole_as_slice-read_over : goal.whole_as_slice-read_over
whole_as_slice-read_over g c = omega (arith, c.requires.room_bound)

pub returns : goal.returns
returns g c = reads_over _ _ _ _ _ _ c.requires.array_len_bound c.read_over.ensures
