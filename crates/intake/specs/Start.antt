-- What a case starts from (docs/BENCH.md).
use Rattle.std.specs.Prelude.{ℕ, ◌≡◌, min}
use Rattle.part.specs.declared.state.State.{State}
use Rattle.ground.specs.Verdict.{Verdict, accepted}
use Rattle.refusals.specs.Refusals.{power_of}
use Rattle.power.specs.Power.{powered_up}
use Rattle.form.specs.declared.headers.Header.{Header}
use Rattle.form.specs.Header.{state_of}

-- The verdict on the power-up of a case: its words count as the widest that a part can be told.
abbrev pub power_by : Header → Verdict
power_by h = power_of (min h.part 65535) (min h.select 255) (min h.stored 255)

-- A case whose power-up is accepted starts from the powered-up state with the words of its header put in.
pub record Starts (h : Header) (s : State) : Type 0 where
  pub accepts : (n : ℕ) × (power_by h ≡ accepted n)
  pub state : s ≡ state_of h (powered_up (min h.part 65535) (min h.select 255) (min h.stored 255))
