-- The runs of demand 3, computed: each number below comes out of the sheet's rules, sample by sample. Assumes nothing.
use mathlib.Core.Path.{refl}
use lib.ListN.{replicate}
use Rattle.ground.specs.Numbers.{x4323, x4283}
use Rattle.ground.specs.Kind.{kind_of}
use Rattle.runs.proofs.Opened.{opened}
use Rattle.demand3.specs.Sending.{sent_of}
use Rattle.demand3.specs.Differ.{covers}
use Rattle.demand3.proofs.Asked.{set-equal-but}
use Rattle.demand3_runs.specs.Occurs.{spot, far_spot, Occurs}

-- The runs of demand 3.
pub occurs : Occurs
unfolding opened sent_of covers
occurs =
    record {
      arrays = set-equal-but (replicate (kind_of x4323).size 0xFF) spot 0x4C 0x5C;
      size = refl;
      read = record { taken = refl; reached = refl; differ = refl; covered = refl; demanded = refl };
      other = record { taken = refl; reached = refl; differ = refl; covered = refl; demanded = refl };
      write = record { taken = refl; reached = refl; differ = refl; covered = refl; demanded = refl };
      unset = record { taken = refl; reached = refl; differ = refl; covered = refl; demanded = refl };
      locked = record { taken = refl; reached = refl; differ = refl; covered = refl; demanded = refl };
      half = record { taken = refl; reached = refl; differ = refl; covered = refl; demanded = refl };
      before = record { taken = refl; reached = refl; differ = refl; covered = refl; demanded = refl };
      passed = record { taken = refl; reached = refl; differ = refl; covered = refl; demanded = refl };
      from = (refl, refl);
      covering = (refl, refl, refl);
      cut = record { taken = refl; reached = refl; differ = refl; covered = refl; demanded = refl };
      held = (refl, refl);
      far = set-equal-but (replicate (kind_of x4283).size 0xFF) far_spot 0x4C 0x5C;
      far-read = record { taken = refl; reached = refl; differ = refl; covered = refl; demanded = refl };
    }
