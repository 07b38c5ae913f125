-- A part as it stands on the bench (document 01, What goes in and what comes out).
use Rattle.std.specs.Prelude.{ℕ, List}
use Rattle.part.specs.declared.state.State.{State}

-- A part on the bench: its state, and the array beside it.
pub record Part : Type 0 where
  pub state : State
  pub array : List ℕ

-- A state with an array beside it, as a part on the bench.
abbrev pub part_of : State → List ℕ → Part
part_of s array = record { state = s; array = array }
