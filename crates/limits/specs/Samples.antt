-- The samples of a capture that are refused, with their place (document 01, Refusal numbers, 9 and 10).
use Rattle.std.specs.Prelude.{ℕ, ◌+◌, Bool, true, false, List, [], ◌∷◌, leb}
use Rattle.ground.specs.Numbers.{most_elapsed, most_level}
use Rattle.ground.specs.Verdict.{Verdict, refused}

-- Refusals 9 and 10 at one sample, in this order; otherwise what the later samples say (Refusal numbers).
abbrev pub sample_by : Bool → Bool → ℕ → Verdict → Verdict
sample_by false l place rest = refused 9 place
sample_by true false place rest = refused 10 place
sample_by true true place rest = rest

-- The earliest faulty sample, places counted from the given one; else the given verdict (Refusal numbers, 9, 10).
abbrev pub samples_of : ℕ → List ℕ → List ℕ → Verdict → Verdict
samples_of place [] ls good = good
samples_of place (e ∷ es) [] good = good
samples_of place (e ∷ es) (l ∷ ls) good = sample_by (leb e most_elapsed) (leb l most_level) place (samples_of (place + 1) es ls good)
