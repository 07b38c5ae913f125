-- A sample as lines of a dump: a time line, then the values that changed (docs/DECISIONS.md, "2026-03, the picture"; IEEE 1364).
use Rattle.std.specs.Prelude.{ℕ, ◌+◌, min, Bool, true, false, ◌&&◌, List, [], ◌∷◌, ◌++◌, ◌≡◌, eqb, replicate}
use Rattle.std.specs.Bool.{beq}
use Rattle.codes.specs.Codes.{hash}
use Rattle.lines.specs.Lines.{line_feed}
use Rattle.texts.specs.Numbers.{decimal_of}
use Rattle.texts.specs.Laying.{Starts}
use Rattle.drawing.specs.Wires.{first_code, own_of, levels_of}
use Rattle.drawing.specs.declared.Drawn.{Drawn}
use Rattle.drawing.specs.declared.Put.{Put}

-- The character of a level: 1 where it is high, else 0.
abbrev pub figure_of : Bool → ℕ
figure_of true = 0x31
figure_of false = 0x30

-- The line of a wire, its level and its code; a level that stays has none.
abbrev pub value_by : Bool → ℕ → Bool → List ℕ
value_by true letter level = []
value_by false letter level = figure_of level ∷ letter ∷ line_feed ∷ []

-- The lines of the wires from a code on, by their levels before and now; nothing stays at the first sample.
abbrev pub values_of : Bool → ℕ → List Bool → List Bool → List ℕ
values_of begun letter [] ns = []
values_of begun letter (b ∷ bs) [] = []
values_of begun letter (b ∷ bs) (n ∷ ns) = value_by (begun && beq b n) letter n ++ values_of begun (letter + 1) bs ns

-- How far apart two samples are drawn: 1 where no time elapsed, since a dump has room for one sample at a time (2026-03,
-- refusal 22: times rise).
abbrev pub apart_by : Bool → ℕ → ℕ
apart_by true e = 1
apart_by false e = e

-- The latest time of 64 bits, half a million years on.
abbrev pub most_time : ℕ
most_time = 18446744073709551615

-- The time of the next sample, so far from the one before; the first has what elapsed before it.
abbrev pub time_of : Drawn → ℕ → ℕ
time_of d e = min (d.time + apart_by (d.begun && eqb e 0) e) most_time

-- Nothing drawn yet: of the part's state its own level counts, and nothing else.
abbrev pub nothing_drawn : Bool → Drawn
nothing_drawn own = record { begun = false; time = 0; own = own; levels = replicate 8 false }

-- What is drawn with one sample more, of its elapsed time, level byte and answer byte.
unfoldable pub next_of : Drawn → ℕ → ℕ → ℕ → Drawn
next_of d e level answer =
    record { begun = true; time = time_of d e; own = own_of answer; levels = levels_of d.own level answer }

-- The text of a sample, by what was drawn before it and what is drawn with it: the time line, then the values.
unfoldable pub sample_text : Drawn → Drawn → List ℕ
sample_text d n = hash ∷ decimal_of n.time ++ (line_feed ∷ values_of d.begun first_code d.levels n.levels)

-- One sample drawn: what is drawn with it is answered, and its text stands at the start of the buffer.
pub record Draws (d : Drawn) (e level answer : ℕ) (out : List ℕ) (r : Put) (out' : List ℕ) : Type 0 where
  pub drawn : r.drawn ≡ next_of d e level answer
  pub text : Starts (sample_text d (next_of d e level answer)) out r.length out'
