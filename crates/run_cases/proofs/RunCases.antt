-- The bench cases of captures: what a part that is powered up answers and holds after the traffic of each case. No axiom is used.
use mathlib.Core.Path.{refl}
use Rattle.runs.proofs.Opened.{opened}
use Rattle.run_cases.specs.RunCases.{P1, P5, P6, P7, P8, P9}

-- P1: reset.
pub p1 : P1 4323 4096 1 3 × P1 4325 4096 3 1 × P1 4283 16384 1 3 × P1 4285 16384 3 1
unfolding opened
p1 = (
  record { taken = refl; pin = refl },
  record { taken = refl; pin = refl },
  record { taken = refl; pin = refl },
  record { taken = refl; pin = refl },
)

-- P5: page wrap.
pub p5 : P5 4323 4096 × P5 4325 4096 × P5 4283 16384 × P5 4285 16384
unfolding opened
p5 = (
  record { taken = (refl, refl); page = refl; counter = refl; next = refl; steps = refl },
  record { taken = (refl, refl); page = refl; counter = refl; next = refl; steps = refl },
  record { taken = (refl, refl); page = refl; counter = refl; next = refl; steps = refl },
  record { taken = (refl, refl); page = refl; counter = refl; next = refl; steps = refl },
)

-- P6: slave bytes.
pub p6 : P6 4323 4096 2 3 × P6 4325 4096 0 1 × P6 4283 16384 2 3 × P6 4285 16384 0 1
unfolding opened
p6 = (
  record { taken = (refl, refl, refl, refl); writes = refl; reads = refl; select = refl; code = refl },
  record { taken = (refl, refl, refl, refl); writes = refl; reads = refl; select = refl; code = refl },
  record { taken = (refl, refl, refl, refl); writes = refl; reads = refl; select = refl; code = refl },
  record { taken = (refl, refl, refl, refl); writes = refl; reads = refl; select = refl; code = refl },
)

-- P7: the three register steps.
pub p7 : P7 4323 4096 × P7 4325 4096 × P7 4283 16384 × P7 4285 16384
unfolding opened
p7 = (
  record { watchdog = refl; block = refl; reads = refl; taken = refl; bus = refl },
  record { watchdog = refl; block = refl; reads = refl; taken = refl; bus = refl },
  record { watchdog = refl; block = refl; reads = refl; taken = refl; bus = refl },
  record { watchdog = refl; block = refl; reads = refl; taken = refl; bus = refl },
)

-- P8: a third byte that changes nothing.
pub p8 : P8 4323 4096 × P8 4325 4096 × P8 4283 16384 × P8 4285 16384
unfolding opened
p8 = (
  record { taken = refl; before = refl; same = refl; time = refl; array = refl },
  record { taken = refl; before = refl; same = refl; time = refl; array = refl },
  record { taken = refl; before = refl; same = refl; time = refl; array = refl },
  record { taken = refl; before = refl; same = refl; time = refl; array = refl },
)

-- P9: write time.
pub p9 : P9 4323 4096 7 3 × P9 4325 4096 5 1 × P9 4283 16384 7 3 × P9 4285 16384 5 1
unfolding opened
p9 = (
  record { taken = refl; last = refl },
  record { taken = refl; last = refl },
  record { taken = refl; last = refl },
  record { taken = refl; last = refl },
)
