-- Rules 1 and 2 of a sample (document 01, State and time).
use Rattle.std.specs.Prelude.{ℕ, ◌-◌, ◌/◌, ◌%◌, Bool, true, false, List, [], ◌∷◌, get_or, eqb, ltb}
use Rattle.ground.specs.Numbers.{reset_hold, long_watch, middle_watch, short_watch}
use Rattle.part.specs.State.{with_write, with_hold, with_reset, with_low, with_watchdog}
use Rattle.part.specs.declared.state.Timers.{Timers}
use Rattle.part.specs.declared.state.Watchdog.{Watchdog}

-- A watchdog that runs with a time left (State and time, every start).
abbrev pub runs : ℕ → Watchdog
runs left = record { running = true; left = left }

-- A watchdog that is off, with 0 left (State and time, every start).
abbrev pub off : Watchdog
off = record { running = false; left = 0 }

-- What WD1 WD0 = 00, 01, 10, 11 load (State and time, every start).
abbrev pub watch_table : List Watchdog
watch_table = runs long_watch ∷ runs middle_watch ∷ runs short_watch ∷ off ∷ []

-- WD1 WD0 of a control byte, bits 6 and 5 (Control register).
abbrev pub watch_code : ℕ → ℕ
watch_code v = v / 32 % 4

-- The watchdog as a control byte loads it (State and time, every start).
unfoldable pub loaded_of : ℕ → Watchdog
loaded_of stored = get_or watch_table (watch_code stored) off

-- Whether a write cycle runs (What goes in and what comes out, answer bit 2; State and time, a start while writing).
abbrev pub writes : Timers → Bool
writes t = ltb 0 t.write

-- The write time falls, not below 0 (State and time, 1).
abbrev pub write_fell : ℕ → Timers → Timers
write_fell e t = with_write t (t.write - e)

-- The hold falls, reset going on (State and time, 1).
abbrev pub hold_fell : ℕ → Timers → Timers
hold_fell e t = with_hold t (t.hold - e)

-- Reset ends and the watchdog is loaded (State and time, 1).
abbrev pub reset_ends : Watchdog → Timers → Timers
reset_ends w t = with_watchdog (with_reset (with_hold t 0) false) w

-- The running watchdog falls (State and time, 1).
abbrev pub watch_fell : ℕ → Timers → Timers
watch_fell e t = with_watchdog t (runs (t.watchdog.left - e))

-- Reset begins with the whole hold, the watchdog at 0 (State and time, 1).
abbrev pub reset_begins : Timers → Timers
reset_begins t = with_watchdog (with_reset (with_hold t reset_hold) true) (runs 0)

-- Rule 1 by cases: reset active, low-VCC flag, hold used up, watchdog running, its time used up (State and time, 1).
abbrev pub timed_by : Bool → Bool → Bool → Bool → Bool → Watchdog → ℕ → Timers → Timers
timed_by true true h r u w e t = t
timed_by true false false r u w e t = hold_fell e t
timed_by true false true r u w e t = reset_ends w t
timed_by false l h false u w e t = t
timed_by false l h true false w e t = watch_fell e t
timed_by false l h true true w e t = reset_begins t

-- Rule 1: the timers after an elapsed time e, with the control byte that would load the watchdog (State and time, 1).
unfoldable pub timed_of : ℕ → ℕ → Timers → Timers
timed_of stored e t =
    timed_by t.reset t.low (eqb (t.hold - e) 0) t.watchdog.running (eqb (t.watchdog.left - e) 0) (loaded_of stored) e
    (write_fell e t)

-- Rule 2: good VCC clears the flag; low VCC resets with the whole hold and sets it (State and time, 2).
unfoldable pub supplied_of : Bool → Timers → Timers
supplied_of true t = with_low t false
supplied_of false t = with_low (with_reset (with_hold t reset_hold) true) true
