-- What going ahead over some samples means: nothing is lost of the run, nor of the answers.
use Rattle.std.specs.Prelude.{ℕ, ◌≤◌, List, ◌++◌, ◌≡◌, length, drop, take}
use Rattle.part.specs.State.{with_timers, with_wire, with_device, with_load}
use Rattle.part.specs.declared.state.Timers.{Timers}
use Rattle.part.specs.declared.state.Wire.{Wire}
use Rattle.part.specs.declared.state.Device.{Device}
use Rattle.part.specs.declared.state.Load.{Load}
use Rattle.part.specs.declared.state.State.{State}
use Rattle.sample.specs.Run.{Part, run_of, answers_of}

-- The state with all that the loops can change; part and select stay.
abbrev pub moved_of : State → Timers → Wire → Device → Load → State
moved_of s t w d l = with_load (with_device (with_wire (with_timers s t) w) d) l

-- From the sample `from` to the sample `to`: what is left to run gives what all from `from` on gives, and so with the answers.
pub record Goes (es ls : List ℕ) (from : ℕ) (p : Part) (row : List ℕ) (to : ℕ) (q : Part) (row' : List ℕ) : Type 0 where
  pub onward : from ≤ to
  pub within : to ≤ length ls
  pub long : length row' ≡ length row
  pub run : run_of (drop to es) (drop to ls) q ≡ run_of (drop from es) (drop from ls) p
  pub said : take to row' ++ answers_of (drop to es) (drop to ls) q ≡ take from row ++ answers_of (drop from es) (drop from ls) p
