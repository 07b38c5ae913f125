-- Worked cases of the watchdog, each computed. No axiom is used.
use mathlib.Core.Path.{refl}
use Rattle.runs.proofs.Opened.{opened}
use Rattle.sheet_cases.specs.WatchCases.{S4, S5, S28}

-- S4: the four loads.
pub s4 : S4 4323
unfolding opened
s4 =
    record {
      long = record { taken = refl; ends = refl; starts = refl };
      middle = record { taken = refl; ends = refl; starts = refl };
      short = record { taken = refl; ends = refl; starts = refl };
      off = record { taken = refl; ends = refl; starts = refl };
      others = (
        record { taken = refl; ends = refl; starts = refl },
        record { taken = refl; ends = refl; starts = refl },
        record { taken = refl; ends = refl; starts = refl },
        record { taken = refl; ends = refl; starts = refl },
      );
    }

-- S5: a watchdog that runs out, with RESET low and high.
pub s5 : S5 4323 1 3 × S5 4325 3 1
unfolding opened
s5 = (
  record {
    taken = (refl, refl);
    accepted = (refl, refl, refl);
    long = refl;
    middle = refl;
    short = refl;
    off = refl;
    anew = refl;
  },
  record {
    taken = (refl, refl);
    accepted = (refl, refl, refl);
    long = refl;
    middle = refl;
    short = refl;
    off = refl;
    anew = refl;
  },
)

-- S28: a changed WD.
pub s28 : S28 4323
unfolding opened
s28 = record { taken = refl; on = refl; next = refl }
