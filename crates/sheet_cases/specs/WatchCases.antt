-- Worked cases of the watchdog (document 01, State and time, 1 and every start), said of a part that has just been powered up with select 0.
-- The stored bytes 00h, 20h, 40h and 60h have WD 00, 01, 10 and 11. Every number is the paper's, written out.
use Rattle.std.specs.Prelude.{ℕ, Bool, true, false, List, [], ◌∷◌, ◌++◌, ◌≡◌, replicate}
use Rattle.part.specs.declared.state.Watchdog.{Watchdog}
use Rattle.waves.specs.Waves.{Capture, brisk, wait}
use Rattle.runs.specs.Bench.{blank_part, part_at, answers_at, AcceptedAt, opening, register_byte}

-- A start so many microseconds after the sample before: SCL stays high, SDA falls (State and time, 4).
abbrev pub start_after : ℕ → Capture
start_after e = record { times = e ∷ []; levels = 9 ∷ [] }

-- The watchdog of a part with a stored byte after captures (State and time, every start).
abbrev pub watchdog_at : ℕ → ℕ → List Capture → Watchdog
watchdog_at part stored cs = (part_at (blank_part part stored) cs).state.timers.watchdog

-- What a stored byte loads at the end of reset, and again at a start 7 microseconds later (State and time, 1 and every start).
pub record Loads (part stored : ℕ) (running : Bool) (left : ℕ) : Type 0 where
  pub taken : AcceptedAt (blank_part part stored) (opening ++ start_after 7 ∷ [])
  pub ends : watchdog_at part stored opening ≡ record { running = running; left = left }
  pub starts : watchdog_at part stored (opening ++ start_after 7 ∷ []) ≡ record { running = running; left = left }

-- WD 00 loads 1,400,000, 01 600,000, 10 200,000, and 11 nothing; the other bits of the byte do not matter (State and time, every start).
pub record S4 (part : ℕ) : Type 0 where
  pub long : Loads part 0x00 true 1400000
  pub middle : Loads part 0x20 true 600000
  pub short : Loads part 0x40 true 200000
  pub off : Loads part 0x60 false 0
  pub others : Loads part 0x99 true 1400000 × Loads part 0xB9 true 600000 × Loads part 0xD9 true 200000 × Loads part 0xF9 false 0

-- So many times 100,000 microseconds, then 99,999 and 1 more, after the end of reset.
abbrev pub run_out : ℕ → List Capture
run_out n = opening ++ replicate n (wait 100000) ++ wait 99999 ∷ wait 1 ∷ []

-- The answers to it: reset ends at the third sample and is active again at the last, not before (State and time, 1).
abbrev pub bitten : ℕ → ℕ → ℕ → List ℕ
bitten n on idle = (on ∷ on ∷ idle ∷ []) ++ replicate n idle ++ idle ∷ on ∷ []

-- A watchdog reset is held for 200,000 and not one microsecond less, then the watchdog runs anew (State and time, 1).
abbrev pub held_again : List Capture
held_again = run_out 1 ++ wait 100000 ∷ wait 99999 ∷ wait 1 ∷ wait 100000 ∷ wait 99999 ∷ wait 1 ∷ []

-- A start 150,000 after the end of reset: the watchdog of 200,000 runs from there (State and time, every start).
abbrev pub put_off : List Capture
put_off = opening ++ wait 100000 ∷ start_after 50000 ∷ wait 100000 ∷ wait 99999 ∷ wait 1 ∷ []

-- With WD off nothing runs out (State and time, every start).
abbrev pub never_out : List Capture
never_out = opening ++ replicate 16 (wait 100000)

-- A watchdog that runs out begins reset: with WD 00 after 1,400,000, with 01 after 600,000, with 10 after 200,000, never with 11, and not
-- one microsecond before; `on` is the answer byte with reset active, `idle` without (State and time, 1).
pub record S5 (part on idle : ℕ) : Type 0 where
  pub taken : AcceptedAt (blank_part part 0x00) (run_out 13) × AcceptedAt (blank_part part 0x20) (run_out 5)
  pub accepted : AcceptedAt (blank_part part 0x40) held_again × AcceptedAt (blank_part part 0x40) put_off × AcceptedAt (blank_part part 0x60) never_out
  pub long : answers_at (blank_part part 0x00) (run_out 13) ≡ bitten 13 on idle
  pub middle : answers_at (blank_part part 0x20) (run_out 5) ≡ bitten 5 on idle
  pub short : answers_at (blank_part part 0x40) held_again
      ≡ on ∷ on ∷ idle ∷ idle ∷ idle ∷ on ∷ on ∷ on ∷ idle ∷ idle ∷ idle ∷ on ∷ []
  pub off : answers_at (blank_part part 0x60) never_out ≡ on ∷ on ∷ replicate 17 idle
  pub anew : answers_at (blank_part part 0x40) put_off ≡ on ∷ on ∷ idle ∷ idle ∷ idle ∷ idle ∷ idle ∷ on ∷ []

-- 02h, 06h and 22h to the register: WD 01 in place of WD 00 (Control register).
abbrev pub other_watch : List Capture
other_watch = opening ++ brisk (register_byte 0x02) ∷ brisk (register_byte 0x06) ∷ brisk (register_byte 0x22) ∷ []

-- A changed WD counts from the next load: what the start of the third byte loaded runs on, 112 microseconds less at its stop, and the next
-- start loads by the new WD (State and time, every start).
pub record S28 (part : ℕ) : Type 0 where
  pub taken : AcceptedAt (blank_part part 0) (other_watch ++ wait 5000 ∷ start_after 7 ∷ [])
  pub on : watchdog_at part 0 other_watch ≡ record { running = true; left = 1399888 }
  pub next : watchdog_at part 0 (other_watch ++ wait 5000 ∷ start_after 7 ∷ []) ≡ record { running = true; left = 600000 }
