-- What is refused, with its number and place (document 01, Refusal numbers; State and time, ranges and power-up).
use Rattle.std.specs.Prelude.{ℕ, Bool, true, false, ◌&&◌, List, length, eqb, leb, ltb}
use Rattle.ground.specs.Numbers.{write_time, reset_hold, long_watch, most_select, most_bits, most_samples}
use Rattle.ground.specs.Cases.{middle}
use Rattle.ground.specs.Kind.{kind_of, known}
use Rattle.part.specs.declared.state.State.{State}
use Rattle.limits.specs.Samples.{samples_of}
use Rattle.part.specs.declared.state.Timers.{Timers}
use Rattle.ground.specs.Verdict.{Verdict, accepted, refused, no_part}

-- Bits 1 and 2 of a stored control byte are clear (Refusal numbers, 3; State and time, ranges).
abbrev pub storable : ℕ → Bool
storable v = eqb (middle v) 0

-- The three ranges of times: write time, reset hold and watchdog left (State and time, ranges).
abbrev pub timers_in_range : Timers → Bool
timers_in_range t = leb t.write write_time && (leb t.hold reset_hold && leb t.watchdog.left long_watch)

-- The eight ranges: counter, bits, three times, part, select, stored byte (State and time, ranges).
unfoldable pub in_range : State → Bool
in_range s =
    ltb s.device.counter.0 (kind_of s.chip.part).size
    && (leb s.wire.frame.bits most_bits
    && (timers_in_range s.timers
    && (known s.chip.part
    && (leb s.chip.select most_select
    && storable s.device.control.stored))))

-- Refusals 4 to 7 in numeric order, then the verdict on what follows (Refusal numbers, 4 to 7).
abbrev pub rows_by : Bool → Bool → Bool → Bool → Verdict → Verdict
rows_by false l e m v = refused 4 0
rows_by true false e m v = refused 5 0
rows_by true true false m v = refused 6 0
rows_by true true true false v = refused 7 0
rows_by true true true true v = v

-- Refusal 8, then the verdict on what follows (Refusal numbers, 8).
abbrev pub answers_by : Bool → Verdict → Verdict
answers_by false v = refused 8 0
answers_by true v = v

-- Refusals 4 to 7 of a state, its array and two rows, then the verdict on what follows (Refusal numbers, 4 to 7).
abbrev pub rows_of : State → List ℕ → List ℕ → List ℕ → Verdict → Verdict
rows_of s es ls array v =
    rows_by
    (in_range s)
    (eqb (length array) (kind_of s.chip.part).size)
    (eqb (length es) (length ls))
    (leb (length ls) most_samples)
    v

-- The verdict on a capture that asks for no answers: acceptance with the row length, or the first refusal that is due but 8, which has
-- no meaning there (Refusal numbers, 4 to 7, 9, 10).
unfoldable pub capture_of : State → List ℕ → List ℕ → List ℕ → Verdict
capture_of s es ls array = rows_of s es ls array (samples_of 0 es ls (accepted (length ls)))

-- The replay's verdict: acceptance with the row length, or the first refusal that is due (Refusal numbers, 4 to 10).
unfoldable pub judged_of : State → List ℕ → List ℕ → List ℕ → List ℕ → Verdict
judged_of s es ls array answers =
    rows_of s es ls array (answers_by (eqb (length answers) (length ls)) (samples_of 0 es ls (accepted (length ls))))

-- Refusals 1 to 3 in numeric order; an accepted power-up has seen no sample (Refusal numbers, 1 to 3).
abbrev pub power_by : Bool → Bool → Bool → Verdict
power_by false s b = no_part
power_by true false b = refused 2 0
power_by true true false = refused 3 0
power_by true true true = accepted 0

-- The power-up's verdict (Refusal numbers, 1 to 3).
unfoldable pub power_of : ℕ → ℕ → ℕ → Verdict
power_of part select stored = power_by (known part) (leb select most_select) (storable stored)
