-- `at_once::on_copy` meets its contract. Assumes nothing.
use mathlib.Core.Path.{refl}
use Rattle.at_once.proofs.Copies.{ready-copied, tries-by}
use Rattle.at_once.proofs.on_copy.Goals as goal

pub play_through-requires : goal.play_through-requires
play_through-requires c =
    record { ready = ready-copied _ _ _ _ _ c.requires.copy_len c.copy_from_slice.ensures.after _ _ c.requires.ready; elapsed_len = refl; levels_len = refl; answers_len = refl }

pub returns : goal.returns
returns c =
    rw c.then_some.ensures
    (tries-by _ _ _ _ _ c.requires.copy_len c.copy_from_slice.ensures.after _ _ _ _ c.in_ok-found.ensures c.play_through.auto.room _ _ _ _ c.bring_out.ensures)
