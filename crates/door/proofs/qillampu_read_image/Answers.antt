-- `door::qillampu_read_image` meets its contract.
use Rattle.door.proofs.qillampu_read_image.Goals as goal

pub returns : goal.returns
returns c = c.read_image.ensures
