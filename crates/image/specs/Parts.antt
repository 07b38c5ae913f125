-- What the inner functions promise each other.
use Rattle.std.specs.Prelude.{ℕ, Bool, true, false, Result, Ok, Err}
use Rattle.ground.specs.declared.Reason.{Reason}
use Rattle.ground.specs.declared.Reason.TheVariants.{PartUnknown, ArrayLength}

-- The tests that both operations begin with: refusal 1 before 5, else the part's size (Refusal numbers, 1, 5; request 2026-01).
abbrev pub array_size_by : Bool → Bool → ℕ → Result ℕ Reason
array_size_by false b n = Err PartUnknown
array_size_by true false n = Err ArrayLength
array_size_by true true n = Ok n
