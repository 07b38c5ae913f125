-- What power-up and the question for the register promise, for every input. Every definition is total.
use Rattle.std.specs.Prelude.{ℕ, ◌≡◌}
use Rattle.part.specs.declared.state.State.{State}
use Rattle.control.specs.Register.{reads_of}
use Rattle.power.specs.declared.Replayed.{Replayed}
use Rattle.ground.specs.Verdict.{meant}
use Rattle.refusals.specs.Refusals.{power_of}
use Rattle.power.specs.Power.{power_state}

-- Power-up: its verdict, and the state beside it (Refusal numbers, 1 to 3; State and time, power-up).
pub record PowersUp (part select stored : ℕ) (r : Replayed) : Type 0 where
  pub reply : meant r.reply ≡ power_of part select stored
  pub state : r.state ≡ power_state (power_of part select stored) part select stored

-- The control register of a state, as it reads (Control register, bits 7 to 0).
pub record ReadsRegister (s : State) (r : ℕ) : Type 0 where
  pub byte : r ≡ reads_of s.device.control
