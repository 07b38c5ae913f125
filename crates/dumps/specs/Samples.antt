-- The samples of a dump (request 2026-03, each time line makes one sample; docs/DECISIONS.md, "2026-03, samples").
use Rattle.std.specs.Prelude.{ℕ, ◌-◌, ◌*◌, ◌/◌, List, [], ◌∷◌, ◌++◌, map, replicate}
use Rattle.ground.specs.Numbers.{most_elapsed}
use Rattle.sections.specs.Sections.{Says, moves, codes, names, defines, times, puts, breaks}
use Rattle.tokens.specs.Tokens.{words_of}
use Rattle.wires.specs.Wires.{laid}
use Rattle.wires.specs.Values.{level_of}
use Rattle.dumps.specs.Reading.{Known, unread, says_of, after}

-- A time line's moment: its time, and the last values up to the next time line, as a level byte (2026-03, each time line).
pub record Moment : Type 0 where
  pub time : ℕ
  pub level : ℕ

-- What a token does to the moment that is open: a time closes it and opens the next, a value is laid over its levels (2026-03, the last
-- values up to the next).
abbrev pub moments_by : Says → ℕ → ℕ → (ℕ → ℕ → List Moment) → List Moment
moments_by (moves spot) time level rest = rest time level
moments_by codes time level rest = rest time level
moments_by names time level rest = rest time level
moments_by defines time level rest = rest time level
moments_by (times t) time level rest = record { time = time; level = level } ∷ rest t level
moments_by (puts c marks) time level rest = rest time (laid (level_of c) marks level)
moments_by breaks time level rest = rest time level

-- The moments from one that is open on; the last ends with the dump (2026-03, the last values up to the next).
abbrev pub moments_from : Known → List (List ℕ) → ℕ → ℕ → List Moment
moments_from r [] time level = record { time = time; level = level } ∷ []
moments_from r (w ∷ ws) time level = moments_by (says_of r w) time level (moments_from (after r w) ws)

-- One sample: the time since the one before, and a level byte (What goes in and what comes out).
pub record Sample : Type 0 where
  pub elapsed : ℕ
  pub level : ℕ

-- As few repeats as leave the change at most 100,000 (2026-03, a gap over 100,000).
abbrev pub repeats_of : ℕ → ℕ
repeats_of gap = (gap - 1) / most_elapsed

-- What the repeats leave of a gap, at most 100,000 (2026-03, a gap over 100,000).
abbrev pub rest_of : ℕ → ℕ
rest_of gap = gap - repeats_of gap * most_elapsed

-- The time from a moment to the next; none behind the last (2026-03, samples).
abbrev pub gap_to : ℕ → List Moment → ℕ
gap_to time [] = 0
gap_to time (m ∷ ms) = m.time - time

-- The samples of moments: the old levels repeated through a gap, 100,000 apart, then the moment itself (2026-03, a gap over 100,000).
abbrev pub spread : ℕ → ℕ → List Moment → List Sample
spread gap old [] = []
spread gap old (m ∷ ms) =
    replicate (repeats_of gap) (record { elapsed = most_elapsed; level = old })
    ++ (record { elapsed = rest_of gap; level = m.level } ∷ spread (gap_to m.time ms) m.level ms)

-- Nothing is sampled before the first time line, whose sample has elapsed 0 (2026-03, the first has elapsed 0).
abbrev pub samples_by : Says → (ℕ → ℕ → List Moment) → List Sample → List Sample
samples_by (moves spot) opened rest = rest
samples_by codes opened rest = rest
samples_by names opened rest = rest
samples_by defines opened rest = rest
samples_by (times t) opened rest = spread 0 0 (opened t 0)
samples_by (puts c marks) opened rest = rest
samples_by breaks opened rest = rest

-- The samples of tokens (2026-03, each time line makes one sample).
abbrev pub samples_from : Known → List (List ℕ) → List Sample
samples_from r [] = []
samples_from r (w ∷ ws) = samples_by (says_of r w) (moments_from (after r w) ws) (samples_from (after r w) ws)

-- The samples of a dump (2026-03, each time line makes one sample).
unfoldable pub samples_in : List ℕ → List Sample
samples_in dump = samples_from unread (words_of dump)

-- Their times, as a capture has them (What goes in and what comes out).
abbrev pub elapsed_of : List Sample → List ℕ
elapsed_of ss = map (λ (s : Sample). s.elapsed) ss

-- And their level bytes (What goes in and what comes out).
abbrev pub levels_of : List Sample → List ℕ
levels_of ss = map (λ (s : Sample). s.level) ss
