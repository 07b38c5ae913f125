-- Worked cases of addresses and reads, each computed. No axiom is used.
use mathlib.Core.Path.{refl}
use Rattle.runs.proofs.Opened.{opened}
use Rattle.sheet_cases.specs.ReadCases.{S1, S2, S3, S25, S26}

-- S1: 0FFFh is array.
pub s1 : S1 4323
unfolding opened
s1 = record { taken = (refl, refl, refl); last = refl; beyond = refl; latch = refl }

-- S2: a read across the end of a page.
pub s2 : S2 4323
unfolding opened
s2 = record { taken = refl; line = refl; counter = refl }

-- S3: a read across the end of the array.
pub s3 : S3 4323
unfolding opened
s3 = record { taken = refl; line = refl; counter = refl }

-- S25: places of a larger part.
pub s25 : S25 4283
unfolding opened
s25 = record { taken = (refl, refl); accepted = (refl, refl, refl); first = refl; second = refl; last = refl; beyond = refl; latch = refl }

-- S26: reads across 0FFFh and across the end of a larger part.
pub s26 : S26 4285
unfolding opened
s26 = record { taken = (refl, refl); on = refl; around = refl; counter = refl }
