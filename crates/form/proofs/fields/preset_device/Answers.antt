-- `form::fields::preset_device` meets its contract.
use Rattle.form.specs.Fields.{device_of}
use Rattle.form.proofs.Put.{put_narrowed}
use Rattle.form.proofs.fields.preset_device.Goals as goal

pub returns : goal.returns
unfolding device_of
returns c = rw (put_narrowed 65535 _ _ _ c.map_or.ensures, put_narrowed 255 _ _ _ c.map_or-2.ensures)
