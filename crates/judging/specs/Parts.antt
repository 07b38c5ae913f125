-- What the inner functions promise each other.
use Rattle.std.specs.Prelude.{ℕ, ◌+◌, ◌-◌, Bool, true, false, List, [], ◌∷◌, ltb}
use Rattle.wires.specs.Times.{highest_time}
use Rattle.sections.specs.Sections.{Says, moves, codes, names, defines, times, puts, breaks}
use Rattle.dumps.specs.Reading.{Known, says_of, after}
use Rattle.dumps.specs.Samples.{repeats_of}
use Rattle.dumps.specs.Faults as dumped
use Rattle.judging.specs.declared.Heard.{Heard}

-- The time lines and values so far, as the definition has them.
abbrev pub heard_of : Heard → dumped.Heard
heard_of h = record { lines = h.lines; time = h.time; given = h.given }

-- Before the first token.
abbrev pub nothing_heard : Heard
nothing_heard = record { lines = 0; time = 0; given = 0; samples = 0 }

-- A count that one time line more does not take out of a word: a dump's greatest length and the highest time together.
abbrev pub most_counted : ℕ
most_counted = 9223372036854775808 + highest_time

-- The gap before a time line; before the first there is none (2026-03, the first has elapsed 0).
abbrev pub gap_by : Bool → ℕ → ℕ → ℕ
gap_by true before time = time - before
gap_by false before time = 0

-- Samples count where there was no fault.
abbrev pub counted_by : Bool → ℕ → ℕ → ℕ
counted_by true samples more = samples + more
counted_by false samples more = samples

-- One time line more: one sample, and its repeats (2026-03, each time line; a gap over 100,000).
abbrev pub taken_by : Bool → Heard → ℕ → Heard
taken_by sound h time =
    record {
      lines = h.lines + 1;
      time = time;
      given = h.given;
      samples = counted_by sound h.samples (repeats_of (gap_by (ltb 0 h.lines) h.time time) + 1);
    }

-- How many samples all later time lines make.
abbrev pub later_by : Says → Bool → ℕ → (ℕ → ℕ) → ℕ
later_by (moves spot) begun time rest = rest time
later_by codes begun time rest = rest time
later_by names begun time rest = rest time
later_by defines begun time rest = rest time
later_by (times t) begun time rest = repeats_of (gap_by begun time t) + 1 + rest t
later_by (puts c marks) begun time rest = rest time
later_by breaks begun time rest = rest time

-- The same of tokens: how many samples the time lines from here on make (2026-03, samples).
abbrev pub later_of : Known → List (List ℕ) → ℕ → ℕ
later_of r [] time = 0
later_of r (w ∷ ws) time = later_by (says_of r w) r.begun time (later_of (after r w) ws)
