-- Worked cases of the latches and of WP, each computed. No axiom is used.
use mathlib.Core.Path.{refl}
use Rattle.runs.proofs.Opened.{opened}
use Rattle.sheet_cases.specs.LatchCases.{S6, S7, S8, S9}

-- S6: low VCC between 02h and a page write, with RESET low and high.
pub s6 : S6 4323 2 3 7 × S6 4325 0 1 5
unfolding opened
s6 = (
  record { taken = (refl, refl, refl); before = refl; stored = refl; after = refl; kept = refl; both = refl },
  record { taken = (refl, refl, refl); before = refl; stored = refl; after = refl; kept = refl; both = refl },
)

-- S7: WP and WPEN at the third step.
pub s7 : S7 4323
unfolding opened
s7 =
    record {
      taken = (refl, refl, refl);
      refuses = refl;
      no_time = refl;
      takes = refl;
      time = refl;
      unguarded = refl;
      alike = refl;
    }

-- S8: 06h without WEL.
pub s8 : S8 4323
unfolding opened
s8 = record { taken = refl; six = refl; third = refl; time = refl }

-- S9: 00h.
pub s9 : S9 4323 3
unfolding opened
s9 = record { taken = (refl, refl); before = refl; zero = refl; answer = refl; kept = refl; stays = refl }
