-- A capture that starts at power-up: its verdict, and what array and answer row hold at the end (document 01, Refusal numbers, 1 to 10).
use Rattle.std.specs.Prelude.{ℕ, List, ◌≡◌, Result}
use Rattle.ground.specs.Verdict.{Verdict, unless_refused, meant}
use Rattle.ground.specs.declared.Refusal.{Refusal}
use Rattle.refusals.specs.Refusals.{judged_of, power_of}
use Rattle.sample.specs.Run.{part_after}
use Rattle.power.specs.Power.{powered_up, at_power}
use Rattle.twin.specs.Promises.{row_after}

-- The verdict on a capture that starts at power-up, whose refusal comes before anything that the capture says (Refusal numbers, 1 to 10).
unfoldable pub capture_verdict : ℕ → ℕ → ℕ → List ℕ → List ℕ → List ℕ → List ℕ → Verdict
capture_verdict part select stored es ls array row =
    unless_refused (power_of part select stored) (judged_of (powered_up part select stored) es ls array row)

-- Power-up and replay in one (Refusal numbers, 1 to 10).
pub record Captures (part select stored : ℕ) (es ls array row : List ℕ) (r : Result ℕ Refusal) (array' row' : List ℕ) : Type 0 where
  pub reply : meant r ≡ capture_verdict part select stored es ls array row
  pub kept : array' ≡ (part_after (capture_verdict part select stored es ls array row) es ls (at_power part select stored array)).array
  pub said : row' ≡ row_after (capture_verdict part select stored es ls array row) es ls (at_power part select stored array) row
