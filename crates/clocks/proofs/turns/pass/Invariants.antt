-- `clocks::turns::pass` meets its contract: whatever stood before it stands after each sample.
use Prim.Native.Nat.{ℕ}
use mathlib.Core.Bool.{Bool}
use mathlib.Core.List.{List}
use mathlib.Core.Path.{◌≡◌}
use lib.ListN.{length}
use Rattle.part.specs.declared.state.Device.{Device}
use Rattle.part.specs.declared.state.Load.{Load}
use Rattle.part.specs.declared.state.State.{State}
use Rattle.address.specs.Talk.{sends_in}
use Rattle.clocks.specs.Stands.{Stands}
use Rattle.clocks.specs.declared.turns.Clocks.{Clocks}
use Rattle.clocks.specs.declared.rooms.Times.{Times}
use Rattle.clocks.proofs.turns.pass.Given as goal

-- What the loop keeps of its promise before each sample.
pub record Kept (sends : Bool) (base : ℕ) (es ls : List ℕ) (from : ℕ) (c : Clocks) (row : List ℕ) (i : ℕ) (c' : Clocks) (row' : List ℕ) : Type 0 where
  pub first : i ≡ from → c' ≡ c
  pub long : length row' ≡ length row
  pub stands : (s : State) (array row₀ : List ℕ) (first : ℕ) (t : Times) (d : Device) (m : Load) → sends ≡ sends_in d.talk.phase
      → Stands s es ls array row₀ first base t d m c row from → Stands s es ls array row₀ first base t d m c' row' i

abbrev pub invariant-loop-i : goal.invariant-loop-i
invariant-loop-i l =
    (length l.elapsed ≡ length l.levels)
    × (length l.initial.row ≡ length l.levels)
    × (l.at ≡ l.i)
    × Kept l.sends l.base l.elapsed l.levels l.from l.initial.now l.initial.row l.i l.now l.row
