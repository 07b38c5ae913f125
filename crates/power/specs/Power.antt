-- The part at power-up (document 01, State and time; Refusal numbers).
use Rattle.std.specs.Prelude.{ℕ, true, false, List}
use Rattle.ground.specs.Numbers.{x4323, reset_hold}
use Rattle.timers.specs.Timers.{off}
use Rattle.page.specs.Page.{at, empty_load}
use Rattle.part.specs.declared.state.Phase.TheVariants.{Idle}
use Rattle.part.specs.declared.state.State.{State}
use Rattle.part.specs.Bench.{Part}
use Rattle.wire.specs.Sign.{clean_frame}
use Rattle.address.specs.Talk.{rested}
use Rattle.ground.specs.Verdict.{Verdict, accepted, refused}

-- The state at power-up (State and time, power-up).
unfoldable pub powered_up : ℕ → ℕ → ℕ → State
powered_up part select stored =
    record {
      chip = record { part = part; select = select };
      timers = record { write = 0; hold = reset_hold; reset = true; low = true; watchdog = off };
      wire = record { lines = record { scl = true; sda = true }; frame = clean_frame };
      device =
          record {
            talk = rested Idle;
            counter = at 0;
            control = record { stored = stored; wel = false; rwel = false; chosen = false; pending = false; value = 0 };
          };
      load = empty_load;
    }

-- A part at power-up, with its array beside it (State and time, power-up).
abbrev pub at_power : ℕ → ℕ → ℕ → List ℕ → Part
at_power part select stored array = record { state = powered_up part select stored; array = array }

-- The state that power-up returns: refused, that of part 4323, select 0, stored byte 00h (Refusal numbers, last lines).
abbrev pub power_state : Verdict → ℕ → ℕ → ℕ → State
power_state (accepted n) part select stored = powered_up part select stored
power_state (refused k p) part select stored = powered_up x4323 0 0
