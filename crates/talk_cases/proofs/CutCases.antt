-- Worked cases of a stop inside a byte, each computed. No axiom is used.
use mathlib.Core.Path.{refl}
use Rattle.runs.proofs.Opened.{opened}
use Rattle.talk_cases.specs.CutCases.{S29, S30}

-- S29: a page write, for a smaller and a larger part, RESET low and high.
pub s29 : S29 4323 4096 3 7 × S29 4285 16384 1 5
unfolding opened
s29 = (
  record {
    one = record { taken = refl; array = refl; answer = refl; time = refl; register = refl; counter = refl };
    three = record { taken = refl; array = refl; answer = refl; time = refl; register = refl; counter = refl };
    seven = record { taken = refl; array = refl; answer = refl; time = refl; register = refl; counter = refl };
    taken = (refl, refl);
    both = refl;
    answer = refl;
    time = refl;
    later = refl;
  },
  record {
    one = record { taken = refl; array = refl; answer = refl; time = refl; register = refl; counter = refl };
    three = record { taken = refl; array = refl; answer = refl; time = refl; register = refl; counter = refl };
    seven = record { taken = refl; array = refl; answer = refl; time = refl; register = refl; counter = refl };
    taken = (refl, refl);
    both = refl;
    answer = refl;
    time = refl;
    later = refl;
  },
)

-- S30: a register write, alike.
pub s30 : S30 4323 4096 × S30 4285 16384
unfolding opened
s30 = (
  record { taken = (refl, refl); accepted = (refl, refl); first = refl; alone = refl; third = refl; no_time = refl; takes = refl; time = refl },
  record { taken = (refl, refl); accepted = (refl, refl); first = refl; alone = refl; third = refl; no_time = refl; takes = refl; time = refl },
)
