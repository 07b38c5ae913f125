-- A part that a replay takes, whatever the samples (document 01, State and time, ranges; Refusal numbers, 4 and 5). Every sample leaves it
-- so, in every state within the ranges, reachable or not: proofs/InRange, `run-fit`.
use Rattle.std.specs.Prelude.{true, ◌≡◌, length}
use Rattle.ground.specs.Kind.{kind_of}
use Rattle.refusals.specs.Refusals.{in_range}
use Rattle.sample.specs.Run.{Part}

-- A part that passes the tests of refusals 4 and 5: the ranges, and an array of its kind's size.
pub record Fit (p : Part) : Type 0 where
  pub range : in_range p.state ≡ true
  pub size : length p.array ≡ (kind_of p.state.chip.part).size
