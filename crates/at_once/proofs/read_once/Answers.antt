-- `at_once::read_once` meets its contract. Assumes nothing.
use Rattle.at_once.proofs.Reporting.{defined-tabled, ready}
use Rattle.at_once.proofs.read_once.Goals as goal

pub on_copy-requires : goal.on_copy-requires
on_copy-requires c =
    record { ready = ready _ _ _ _ _ (defined-tabled _ _ _ c.define-defined.ensures) c.in_ok-track.ensures c.requires.fit; copy_len = c.requires.copy_len }
