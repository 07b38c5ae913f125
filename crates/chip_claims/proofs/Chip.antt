-- The claims on the part, each of exactly the type that specs/ names. No axiom is used.
use Rattle.demand2.proofs.Demand2.{demand-2}
use Rattle.demand2.proofs.Cut.{cut-joined}
use Rattle.demand3.proofs.Demand3.{two-parts}
use Rattle.demand3.proofs.Asked.{same-state}
use Rattle.demand3_runs.proofs.Witness.{occurs}
use Rattle.chip_claims.proofs.CutStops.{cut-stops}
use Rattle.ranges.proofs.InRange.{run-fit}
use Rattle.reachable.proofs.Reachable.{power-reachable, reachable-on, reachable-keeps}
use Rattle.reachable.proofs.Holds.{reachable-holds}
use Rattle.chip_claims.specs.Demand3.{Demand3, ReplayDemand3, PowerDemand3, ComputedForm}
use Rattle.chip_claims.specs.States.{ReachableStates, HandedOut, StaysFit, FitAgain, CutAnywhere}
use Rattle.chip_claims.specs.AtRuns.{AtRuns}
use Rattle.chip_claims.proofs.Derived.{replay-from, power-from, form-from, handed-from, fit-from}
use Rattle.chip_claims.proofs.AtRuns.{runs-from}

-- Demand 3.
pub demand-3 : Demand3
demand-3 = record { alike = two-parts; one = same-state }

-- Demand 3 of two outcomes of the operation.
pub replay-demand-3 : ReplayDemand3
replay-demand-3 = replay-from demand-2 demand-3

-- What reachable states keep.
pub reachable-states : ReachableStates
reachable-states =
    record { power = power-reachable; rows = λ p es ls r h. reachable-on p r es ls h; keeps = reachable-keeps; holds = reachable-holds }

-- Demand 3 from power-up on.
pub power-demand-3 : PowerDemand3
power-demand-3 = power-from demand-3 reachable-states

-- Demand 3 in the form that computes.
pub computed-form : ComputedForm
computed-form = form-from demand-3

-- What the operations hand out.
pub handed_out : HandedOut
handed_out = handed-from reachable-states

-- The ranges after any samples.
pub stays_fit : StaysFit
stays_fit = record { fit = λ p es ls g. run-fit es ls p g }

-- A part that was accepted is accepted again.
pub fit-again : FitAgain
fit-again = fit-from demand-2 stays_fit

-- A capture in pieces.
pub cut-anywhere : CutAnywhere
cut-anywhere = record { joined = cut-joined demand-2 }

-- All of it at captures that were computed.
pub at-runs : AtRuns
at-runs =
    runs-from occurs replay-demand-3 power-demand-3 computed-form handed_out fit-again cut-anywhere cut-stops
