-- Samples with VCC low, reset going on.
use Rattle.std.specs.Prelude.{ℕ, Bool, true, false, List, ◌≡◌, length}
use Rattle.ground.specs.Numbers.{reset_hold}
use Rattle.ground.specs.Kind.{kind_of}
use Rattle.page.specs.Page.{empty_load}
use Rattle.part.specs.Bench.{part_of}
use Rattle.part.specs.declared.state.Device.{Device}
use Rattle.part.specs.declared.state.Lines.{Lines}
use Rattle.part.specs.declared.state.Timers.{Timers}
use Rattle.part.specs.declared.state.Watchdog.{Watchdog}
use Rattle.part.specs.declared.state.Wire.{Wire}
use Rattle.part.specs.declared.state.State.{State}
use Rattle.wire.specs.Sign.{clean_frame}
use Rattle.part.specs.State.{with_control}
use Rattle.ends.specs.Ends.{ended_of}
use Rattle.sample.specs.Sample.{latched_by}
use Rattle.clocks.specs.Goes.{Goes, moved_of}
use Rattle.dark.specs.declared.Dim.{Dim}

-- The timers while VCC is low, but for the write time.
abbrev pub held_at : ℕ → Watchdog → Timers
held_at write w = record { write = write; hold = reset_hold; reset = true; low = true; watchdog = w }

-- A wire with no bit taken.
abbrev pub quiet_at : Lines → Wire
quiet_at lines = record { lines = lines; frame = clean_frame }

-- The device after its talk ended and its latches fell.
abbrev pub fallen_of : Device → Device
fallen_of d = ended_of (with_control d (latched_by false d.control))

-- A state that another sample with VCC low leaves as it is, but for the write time and the lines.
pub record Dark (s : State) : Type 0 where
  pub timers : s.timers ≡ held_at s.timers.write s.timers.watchdog
  pub wire : s.wire ≡ quiet_at s.wire.lines
  pub device : s.device ≡ fallen_of s.device
  pub load : s.load ≡ empty_load

-- The state with another write time and other lines.
abbrev pub dark_at : State → ℕ → Lines → State
dark_at s write lines =
    moved_of s
    (record { write = write; hold = s.timers.hold; reset = s.timers.reset; low = s.timers.low; watchdog = s.timers.watchdog })
    (record { lines = lines; frame = s.wire.frame })
    s.device
    s.load

-- Samples with VCC low from a dark state on: nothing is lost of the run, nor of the answers.
pub record Dims (high : Bool) (es ls : List ℕ) (d : Dim) (row : List ℕ) (d' : Dim) (row' : List ℕ) : Type 0 where
  pub goes : (s : State) (array : List ℕ) → Dark s → high ≡ (kind_of s.chip.part).high
      → Goes es ls d.at (part_of (dark_at s d.write d.lines) array) row d'.at (part_of (dark_at s d'.write d'.lines) array) row'
  pub long : length row' ≡ length row
