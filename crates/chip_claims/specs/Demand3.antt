-- Demand 3 as a claim (document 01, State and time, a byte being sent; Leaving no slack: stated of the sheet's rules). What it says of two
-- parts is TwoParts of demand3/specs/Differ, in words at its head. Here stands of which parts it is said, and that is all that is asked: a
-- page load of 64 bytes and 64 marks, as the type of the state has it, and two arrays of one length that are equal but for one address. The
-- arrays may have any length, the state may be any, and so may the samples, also such as a replay would refuse.
-- For a person from the line: take two chips in the same condition that differ in one byte of memory, and send both the same traffic. You
-- cannot tell them apart until one of them is asked for that byte, and the first difference is at a bit in which the two bytes differ; of
-- what follows it nothing is said.
use Rattle.std.specs.Prelude.{ℕ, true, List, ◌≡◌}
use Rattle.part.specs.declared.state.State.{State}
use Rattle.refusals.specs.Refusals.{judged_of}
use Rattle.power.specs.declared.Replayed.{Replayed}
use Rattle.sample.specs.Run.{Part, part_step}
use Rattle.demand2.specs.Demand2.{Accepts}
use Rattle.demand3.specs.Sending.{nothing}
use Rattle.demand3.specs.Differ.{never, sample, first_reach, first_diff, first_cover, EqualBut, FullLoad, SameButOut, SplitAt, TwoParts}
use Rattle.demand3_runs.specs.Under.{holds_for}
use Rattle.reachable.specs.Reachable.{Reachable}

-- A part with a state and an array.
abbrev pub over : State → List ℕ → Part
over s xs = record { state = s; array = xs }

-- Demand 3; and states that are the same but for the byte being sent, and in it too, are one (demand 3; Leaving no slack).
pub record Demand3 : Type 0 where
  pub alike : (a : ℕ) (s : State) (xs ys es ls : List ℕ) → FullLoad s → EqualBut a xs ys → TwoParts a es ls (over s xs) (over s ys)
  pub one : (s t : State) → SameButOut s t → s.device.talk.out ≡ t.device.talk.out → s ≡ t

-- What two accepted replays came to: where their answer rows first differ and how, what is left unequal if they do not, and what a covering
-- write made equal (demand 3).
pub record Compared (a : ℕ) (s : State) (xs ys es ls : List ℕ) (r q : Replayed) (xs' ys' said said₂ : List ℕ) : Type 0 where
  pub first : first_diff 0 said said₂ ≡ first_reach a 0 es ls (over s xs) (over s ys) nothing nothing
  pub reached : (k : ℕ) → first_reach a 0 es ls (over s xs) (over s ys) nothing nothing ≡ sample k → SplitAt k said said₂
  pub unreached : first_reach a 0 es ls (over s xs) (over s ys) nothing nothing ≡ never
      → (said ≡ said₂) × SameButOut r.state q.state × EqualBut a xs' ys'
  pub one : first_reach a 0 es ls (over s xs) (over s ys) nothing nothing ≡ never
      → r.state.device.talk.out ≡ q.state.device.talk.out → r.state ≡ q.state
  pub covered : (k : ℕ) → first_cover a 0 es ls (over s xs) ≡ sample k → (said ≡ said₂) × (r.state ≡ q.state) × (xs' ≡ ys')

-- Demand 3 once more, of two outcomes of the operation: one state, arrays equal but for an address, the same rows. The verdict is the same for
-- both, and where it is acceptance the outcomes compare so, whatever the answer rows held (demand 3; What goes in and what comes out).
pub record ReplayDemand3 : Type 0 where
  pub verdict : (a : ℕ) (s : State) (xs ys es ls row : List ℕ) → EqualBut a xs ys
      → judged_of s es ls ys row ≡ judged_of s es ls xs row
  pub compared : (a : ℕ) (s : State) (xs ys es ls row row₂ : List ℕ) (n m : ℕ) (r q : Replayed) (xs' ys' said said₂ : List ℕ)
      → FullLoad s → EqualBut a xs ys → Accepts s es ls xs row n r xs' said → Accepts s es ls ys row₂ m q ys' said₂
      → Compared a s xs ys es ls r q xs' ys' said said₂

-- Demand 3 of a part that power-up and samples brought to where it is: there nothing is asked of its page load (demand 3; State and time).
pub record PowerDemand3 : Type 0 where
  pub alike : (a : ℕ) (p : Part) (ys es ls : List ℕ) → Reachable p → EqualBut a p.array ys → TwoParts a es ls p (over p.state ys)

-- Demand 3 in the form that computes, which wrong parts are tried with: the sheet's step keeps it, under what demand 3 asks (demand 3).
pub record ComputedForm : Type 0 where
  pub holds : (a : ℕ) (s : State) (xs ys es ls : List ℕ) → FullLoad s → EqualBut a xs ys
      → holds_for part_step a es ls (over s xs) (over s ys) ≡ true
