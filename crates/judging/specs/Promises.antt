-- What judging promises, for every dump: the whole reply (request 2026-03, refusals 20 to 23).
use Rattle.std.specs.Prelude.{ℕ, Result, List, ◌≡◌}
use Rattle.ground.specs.Verdict.{meant}
use Rattle.ground.specs.declared.Refusal.{Refusal}
use Rattle.dumps.specs.Faults.{dump_verdict}

-- The verdict on a dump: how many samples it has, or its first fault with the line, counted from 1 (2026-03, refusals 20 to 23).
pub record Judges (dump : List ℕ) (r : Result ℕ Refusal) : Type 0 where
  pub reply : meant r ≡ dump_verdict dump
