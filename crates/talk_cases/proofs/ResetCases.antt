-- Worked cases of reset and of a running write, each computed. No axiom is used.
use mathlib.Core.Path.{refl}
use Rattle.runs.proofs.Opened.{opened}
use Rattle.talk_cases.specs.ResetCases.{S15, S16, S17, S18}

-- S15: the hold after low VCC, with RESET low and high.
pub s15 : S15 4323 1 3 × S15 4325 3 1
unfolding opened
s15 = (
  record { taken = (refl, refl); anew = refl; whole = refl },
  record { taken = (refl, refl); anew = refl; whole = refl },
)

-- S16: a write that goes on in reset, with RESET low and high.
pub s16 : S16 4323 7 5 1 × S16 4325 5 7 3
unfolding opened
s16 = (record { taken = refl; last = refl; array = refl }, record { taken = refl; last = refl; array = refl })

-- S17: a start while writing.
pub s17 : S17
unfolding opened
s17 = record { taken = refl; deaf = refl; still = refl; hears = refl }

-- S18: reset ends talk.
pub s18 : S18
unfolding opened
s18 = record { taken = (refl, refl); answer = refl; array = refl; latch = refl; choice = refl }
