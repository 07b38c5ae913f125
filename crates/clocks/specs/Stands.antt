-- What holds before each sample of the loops in which the part is awake.
use Rattle.std.specs.Prelude.{ℕ, ◌≤◌, ◌<◌, Bool, false, List, ◌≡◌, length, get_or}
use Rattle.ground.specs.Kind.{kind_of}
use Rattle.part.specs.Bench.{part_of}
use Rattle.part.specs.declared.state.Device.{Device}
use Rattle.part.specs.declared.state.Load.{Load}
use Rattle.part.specs.declared.state.State.{State}
use Rattle.address.specs.Talk.{sends_in}
use Rattle.clocks.specs.Goes.{Goes, moved_of}
use Rattle.clocks.specs.Clocks.{wire_at, spoken_of, turn_of}
use Rattle.clocks.specs.Rooms.{Room, timers_at, base_of}
use Rattle.clocks.specs.declared.turns.Clocks.{Clocks}
use Rattle.clocks.specs.declared.turns.Turn.{Turn}
use Rattle.clocks.specs.declared.rooms.Times.{Times}

-- The state that the loops' variables say.
abbrev pub state_at : State → Times → Device → Load → Clocks → State
state_at s t d m c = moved_of s (timers_at s.timers.hold t c.room) (wire_at c) (spoken_of d c) m

-- From the sample `from` the loops have come to the sample `i`; base is the answer byte but for the part's own SDA.
pub record Stands (s : State) (es ls array row₀ : List ℕ) (from base : ℕ) (t : Times) (d : Device) (m : Load) (c : Clocks) (row : List ℕ) (i : ℕ) : Type 0 where
  pub long : length es ≡ length ls
  pub wide : length row₀ ≡ length ls
  pub rests : base ≡ base_of (kind_of s.chip.part).high false t.write
  pub times : Room t.write t.running t.left t.all
  pub fits : c.room ≤ t.all
  pub goes : Goes es ls from (part_of s array) row₀ i (part_of (state_at s t d m c) array) row

-- The inner loop keeps what holds: whatever stood before it stands after it; and it passes a plain sample.
pub record Clocked (sends : Bool) (base : ℕ) (es ls : List ℕ) (from : ℕ) (c : Clocks) (row : List ℕ) (to : ℕ) (c' : Clocks) (row' : List ℕ) : Type 0 where
  pub onward : from ≤ to
  pub moves : turn_of c (get_or es from 0) (get_or ls from 0) ≡ Turn.Plain → from < length ls → from < to
  pub long : length row' ≡ length row
  pub stands : (s : State) (array row₀ : List ℕ) (first : ℕ) (t : Times) (d : Device) (m : Load) → sends ≡ sends_in d.talk.phase
      → Stands s es ls array row₀ first base t d m c row from → Stands s es ls array row₀ first base t d m c' row' to
