-- The runs under the bent steps, computed sample by sample. Assumes nothing.
use mathlib.Core.Path.{refl}
use Rattle.runs.proofs.Opened.{opened}
use Rattle.demand3.specs.Sending.{sent_of}
use Rattle.demand3.specs.Differ.{covers}
use Rattle.bent_steps.specs.Bent.{lowest_first, reads_anew, keeps_withheld, writes_cut, BentSteps}

-- Each breaks demand 3 in a run, and spares it in another.
pub bent-steps : BentSteps
unfolding opened sent_of covers lowest_first reads_anew keeps_withheld writes_cut
bent-steps =
    record {
      lowest = record { differ = refl; fails = refl };
      lowest-spares = refl;
      anew = record { differ = refl; fails = refl };
      anew-spares = refl;
      kept-unset = record { differ = refl; fails = refl };
      kept-locked = record { differ = refl; fails = refl };
      kept-spares = refl;
      cut = record { differ = refl; fails = refl };
      cut-spares = refl;
    }
