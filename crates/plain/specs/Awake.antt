-- What the outer loop keeps, in which the part is awake.
use Rattle.std.specs.Prelude.{ℕ, List, ◌≡◌, length}
use Rattle.ground.specs.Kind.{kind_of}
use Rattle.ground.specs.declared.kinds.Kind.{Kind}
use Rattle.part.specs.declared.state.State.{State}
use Rattle.clocks.specs.Stands.{Stands}
use Rattle.plain.specs.declared.awake.Gone.{Gone}

-- Whatever stood before the outer loop stands after it.
pub record Goes_on (kind : Kind) (select base : ℕ) (es ls array : List ℕ) (w : Gone) (row : List ℕ) (w' : Gone) (row' : List ℕ) : Type 0 where
  pub long : length row' ≡ length row
  pub stands : (s : State) (row₀ : List ℕ) (first : ℕ) → kind ≡ kind_of s.chip.part → select ≡ s.chip.select
      → Stands s es ls array row₀ first base w.times w.device w.load w.now row w.at
      → Stands s es ls array row₀ first base w'.times w'.device w'.load w'.now row' w'.at
