-- `door::qillampu_write_image` meets its contract.
use Rattle.door.proofs.qillampu_write_image.Goals as goal

pub returns : goal.returns
returns c = c.write_image.ensures
