-- Worked cases of the block lock on the bus, each computed. No axiom is used.
use mathlib.Core.Path.{refl}
use Rattle.runs.proofs.Opened.{opened}
use Rattle.sheet_cases.specs.BlockCases.{S14, S27}

-- S14: codes 2 to 7.
pub s14 : S14
unfolding opened
s14 =
    record {
      two = record { taken = refl; answer = refl; array = refl };
      three = (record { taken = refl; answer = refl; array = refl; counter = refl }, record { taken = refl; answer = refl; array = refl; counter = refl });
      four = (record { taken = refl; answer = refl; array = refl; counter = refl }, record { taken = refl; answer = refl; array = refl });
      five = (record { taken = refl; answer = refl; array = refl; counter = refl }, record { taken = refl; answer = refl; array = refl });
      six = (record { taken = refl; answer = refl; array = refl; counter = refl }, record { taken = refl; answer = refl; array = refl });
      seven = (record { taken = refl; answer = refl; array = refl; counter = refl }, record { taken = refl; answer = refl; array = refl });
    }

-- S27: codes 1 to 3 of a larger part, and 1 and 2 of a smaller one.
pub s27 : S27
unfolding opened
s27 =
    record {
      one = (record { taken = refl; answer = refl; array = refl; counter = refl }, record { taken = refl; answer = refl; array = refl });
      two = (record { taken = refl; answer = refl; array = refl; counter = refl }, record { taken = refl; answer = refl; array = refl });
      three = record { taken = refl; answer = refl; array = refl; counter = refl };
      smaller = (record { taken = refl; answer = refl; array = refl }, record { taken = refl; answer = refl; array = refl });
    }
