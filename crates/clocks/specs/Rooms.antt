-- Time while no timer ends.
use Rattle.std.specs.Prelude.{ℕ, ◌+◌, ◌-◌, ◌≤◌, ◌<◌, Bool, true, false, List, ◌≡◌, ltb, set}
use Rattle.ground.specs.Cases.{or_zero}
use Rattle.part.specs.declared.state.Timers.{Timers}
use Rattle.part.specs.declared.state.Watchdog.{Watchdog}
use Rattle.levels.specs.Level.{pin_by}
use Rattle.clocks.specs.declared.rooms.Times.{Times}

-- A time that neither a write cycle nor the watchdog ends within.
pub record Room (write : ℕ) (running : Bool) (left : ℕ) (room : ℕ) : Type 0 where
  pub writes : 0 < write → room ≤ write
  pub watches : running ≡ true → room ≤ left

-- Times that begin with a write time and a watchdog.
pub record Begins (write : ℕ) (dog : Watchdog) (t : Times) : Type 0 where
  pub same : t ≡ record { write = write; left = dog.left; all = t.all; running = dog.running }
  pub room : Room write dog.running dog.left t.all

-- What is left of the watchdog's time: only a running one falls.
abbrev pub left_by : Bool → ℕ → ℕ → ℕ
left_by true left spent = left - spent
left_by false left spent = left

-- The timers, reset and the low-VCC flag inactive, with a room left of all the time that began.
abbrev pub timers_at : ℕ → Times → ℕ → Timers
timers_at hold t room =
    record {
      write = t.write - (t.all - room);
      hold = hold;
      reset = false;
      low = false;
      watchdog = record { running = t.running; left = left_by t.running t.left (t.all - room) };
    }

-- The answer byte but for the part's own SDA: the RESET pin, and whether a write cycle runs.
abbrev pub base_of : Bool → Bool → ℕ → ℕ
base_of high reset write = or_zero (pin_by high reset) 2 + or_zero (ltb 0 write) 4

-- An answer byte written, and the sample after it.
pub record Tells (row : List ℕ) (i : ℕ) (own : Bool) (base r : ℕ) (row' : List ℕ) : Type 0 where
  pub next : r ≡ i + 1
  pub said : row' ≡ set row i (or_zero own 1 + base)
