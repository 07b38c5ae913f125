-- What is claimed of the states that a part comes to, and of captures that are cut (document 01, State and time; Refusal numbers, 4 and 5).
-- For a person from the line: whatever you do to a chip after switching it on, it stays in a condition that the sheet describes, and a
-- replay that went through once is never followed by refusal 4 or 5. A capture of at most 65,536 samples may be played in pieces.
use Rattle.std.specs.Prelude.{ℕ, ◌+◌, List, ◌≡◌, length, take, drop}
use Rattle.ground.specs.Kind.{kind_of}
use Rattle.ground.specs.Verdict.{accepted, meant}
use Rattle.part.specs.declared.state.State.{State}
use Rattle.refusals.specs.Refusals.{power_of}
use Rattle.power.specs.declared.Replayed.{Replayed}
use Rattle.power.specs.Promises.{PowersUp}
use Rattle.sample.specs.Run.{Part, run_of}
use Rattle.twin.specs.Promises.{Replays}
use Rattle.ranges.specs.Fit.{Fit}
use Rattle.power.specs.Power.{at_power}
use Rattle.reachable.specs.Reachable.{Reachable, Keeps, Holds}
use Rattle.demand2.specs.Demand2.{Accepts, Joined}
use Rattle.chip_claims.specs.Demand3.{over}

-- The reachable parts: power-up gives one, rows of one length lead from one to one, and each keeps what Keeps and Holds list (State and time).
pub record ReachableStates : Type 0 where
  pub power : (part select stored : ℕ) (array : List ℕ) → power_of part select stored ≡ accepted 0
      → length array ≡ (kind_of part).size → Reachable (at_power part select stored array)
  pub rows : (p : Part) (es ls : List ℕ) → Reachable p → length es ≡ length ls → Reachable (run_of es ls p)
  pub keeps : (p : Part) → Reachable p → Keeps p.state
  pub holds : (p : Part) → Reachable p → Holds p

-- What the operations hand out is reachable: the state of an accepted power-up with an array of the part's size, and after a replay of a
-- reachable part, refused or not, its state and array (State and time; Refusal numbers).
pub record HandedOut : Type 0 where
  pub power : (part select stored n : ℕ) (array : List ℕ) (r : Replayed) → PowersUp part select stored r → meant r.reply ≡ accepted n
      → length array ≡ (kind_of part).size → Keeps r.state × Reachable (over r.state array)
  pub replay : (p : Part) (es ls row : List ℕ) (r : Replayed) (array' row' : List ℕ) → Reachable p
      → Replays p.state es ls p.array row r array' row'
      → Keeps r.state × Holds (over r.state array') × Reachable (over r.state array')

-- A part that passes the tests of refusals 4 and 5 passes them after any samples, reachable or not (State and time, ranges).
pub record StaysFit : Type 0 where
  pub fit : (p : Part) (es ls : List ℕ) → Fit p → Fit (run_of es ls p)

-- So an accepted replay is never followed by refusal 4 or 5 (Refusal numbers, 4 and 5).
pub record FitAgain : Type 0 where
  pub fit : (s : State) (es ls array row : List ℕ) (n : ℕ) (r : Replayed) (array' row' : List ℕ)
      → Accepts s es ls array row n r array' row' → Fit (over r.state array')

-- An accepted capture cut at a sample: the replays of its pieces, state and array carried on, are accepted, and joined they are the replay of
-- the whole (demand 2; State and time, each sample).
pub record CutAnywhere : Type 0 where
  pub joined : (s : State) (es ls array row row₁ row₂ : List ℕ) (k m : ℕ) (r r₁ r₂ : Replayed)
      (array' array₁ array₂ said said₁ said₂ : List ℕ)
      → Accepts s es ls array row (k + m) r array' said → length row₁ ≡ k → length row₂ ≡ m
      → Replays s (take k es) (take k ls) array row₁ r₁ array₁ said₁
      → Replays r₁.state (drop k es) (drop k ls) array₁ row₂ r₂ array₂ said₂
      → Joined k m r r₁ r₂ array' array₂ said said₁ said₂
