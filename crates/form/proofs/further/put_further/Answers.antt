-- `form::further::put_further` meets its contract.
use Rattle.form.specs.Further.{phase_in, flags_in, pending_in, loaded_in, further_in}
use Rattle.form.proofs.Put.{put_byte}
use Rattle.form.proofs.further.put_further.Goals as goal

pub returns : goal.returns
unfolding further_in
returns c =
    rw (
      put_byte loaded_in _ _ _ c.put_by_word.ensures,
      put_byte pending_in _ _ _ c.put_by_word-pending.ensures,
      put_byte flags_in _ _ _ c.put_by_word-flagged.ensures,
      put_byte phase_in _ _ _ c.put_by_word-phased.ensures,
    )
