-- `form::fields::put_in` meets its contract.
use Rattle.form.specs.Fields.{put_in_of}
use Rattle.form.proofs.Put.{put_narrowed}
use Rattle.form.proofs.fields.put_in.Goals as goal

pub returns : goal.returns
unfolding put_in_of
returns c =
    rw (
      c.preset_device.ensures,
      c.preset_wire.ensures,
      c.preset_timers.ensures,
      put_narrowed 65535 _ _ _ c.map_or.ensures,
      put_narrowed 255 _ _ _ c.map_or-2.ensures,
    )
