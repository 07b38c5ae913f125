-- What the functions of one sample promise: the state and the array after it.
use Rattle.std.specs.Prelude.{ℕ, Bool, List, ◌≡◌}
use Rattle.page.specs.Page.{marked}
use Rattle.part.specs.declared.state.Load.{Load}
use Rattle.part.specs.declared.state.Place.{Place}
use Rattle.part.specs.declared.state.State.{State}
use Rattle.wire.specs.declared.Sign.{Sign}
use Rattle.sample.specs.Sample.{step_of, array_of, heard_by, written_by, saved_by}

-- One sample: the state and the array after it (State and time, each sample).
pub record Steps (e level : ℕ) (s : State) (array : List ℕ) (r : State) (array' : List ℕ) : Type 0 where
  pub state : r ≡ step_of e level array s
  pub kept : array' ≡ array_of e level array s

-- One sign: the state and the array after it (Bytes on the wire).
pub record Hears (sign : Sign) (wp : Bool) (s : State) (array : List ℕ) (r : State) (array' : List ℕ) : Type 0 where
  pub state : r ≡ heard_by sign wp array s
  pub kept : array' ≡ written_by sign s array

-- A load laid over its page if any byte came, and whether one did (Bytes on the wire, stop).
pub record Saves (p : Place) (l : Load) (array : List ℕ) (r : Bool) (array' : List ℕ) : Type 0 where
  pub wrote : r ≡ marked l
  pub kept : array' ≡ saved_by (marked l) p l array
