-- A capture given to a part: the part after it, its answers, and that a replay takes it (document 01, What goes in and what comes out).
use Rattle.std.specs.Prelude.{ℕ, List, ◌≡◌, length, replicate}
use Rattle.ground.specs.Verdict.{accepted}
use Rattle.refusals.specs.Refusals.{judged_of}
use Rattle.sample.specs.Run.{Part, run_of, answers_of}
use Rattle.waves.specs.Waves.{Capture}

-- The part after a capture (State and time, each sample).
abbrev pub after_capture : Capture → Part → Part
after_capture c p = run_of c.times c.levels p

-- Its answers, a byte for each sample (What goes in and what comes out).
abbrev pub answers_to : Capture → Part → List ℕ
answers_to c p = answers_of c.times c.levels p

-- The replay of a capture is accepted, with as many samples as it has (Refusal numbers, 4 to 10).
abbrev pub Taken : Capture → Part → Type 0
Taken c p =
    judged_of p.state c.times c.levels p.array (replicate (length c.levels) 0) ≡ accepted (length c.levels)
