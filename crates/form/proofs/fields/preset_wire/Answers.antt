-- `form::fields::preset_wire` meets its contract.
use Rattle.form.specs.Fields.{wire_put}
use Rattle.form.proofs.Put.{put_narrowed}
use Rattle.form.proofs.fields.preset_wire.Goals as goal

pub returns : goal.returns
unfolding wire_put
returns c = rw (put_narrowed 255 _ _ _ c.map_or.ensures)
