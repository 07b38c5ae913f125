-- What the loops see in a sample, and what it is to them.
use Rattle.std.specs.Prelude.{ℕ, ◌-◌, ◌<◌, Bool, true, false, ◌&&◌, ◌≡◌, ltb, eqb}
use Rattle.ground.specs.Numbers.{most_bits}
use Rattle.part.specs.declared.state.Phase.TheVariants.{Idle}
use Rattle.part.specs.declared.state.Device.{Device}
use Rattle.part.specs.declared.state.Talk.{Talk}
use Rattle.part.specs.declared.state.Wire.{Wire}
use Rattle.wire.specs.Sign.{pushed, all_but_one, sign_of, wire_of}
use Rattle.wire.specs.declared.Sign.{Sign}
use Rattle.wire.specs.declared.Sign.TheVariants.{Quiet, Start, Stop, Bit, Byte, Ninth}
use Rattle.part.specs.State.{with_talk}
use Rattle.address.specs.Talk.{rested, sends_in}
use Rattle.bits.specs.Bits.{bit_of}
use Rattle.levels.specs.Level.{scl_of, sda_of, vcc_of}
use Rattle.clocks.specs.declared.turns.Clocks.{Clocks}
use Rattle.clocks.specs.declared.turns.Turn.{Turn}

-- The wire that the clocks' numbers say.
abbrev pub wire_at : Clocks → Wire
wire_at c = record { lines = record { scl = c.scl; sda = c.sda }; frame = record { held = c.held; bit = c.bit; bits = c.bits; shift = c.shift } }

-- The clocks' numbers of a wire and a talk.
abbrev pub clocks_of : Wire → Talk → ℕ → Clocks
clocks_of w k room =
    record {
      room = room;
      scl = w.lines.scl;
      sda = w.lines.sda;
      held = w.frame.held;
      bit = w.frame.bit;
      bits = w.frame.bits;
      shift = w.frame.shift;
      high = k.high;
      out = k.out;
      own = k.own;
    }

-- The same with no bit held.
abbrev pub free_at : Bool → Bool → ℕ → ℕ → Talk → ℕ → Clocks
free_at scl sda bits shift k room =
    clocks_of (record { lines = record { scl = scl; sda = sda }; frame = record { held = false; bit = false; bits = bits; shift = shift } }) k room

-- The SDA line in a sample.
abbrev pub line_at : Clocks → ℕ → Bool
line_at c level = sda_of level && c.own

-- The clocks after an eighth fall, which leaves the byte in the frame, or after a ninth, each with the talk that it left.
abbrev pub fallen_by : Bool → Clocks → Talk → ℕ → ℕ → Clocks
fallen_by true c k e level = free_at false (line_at c level) most_bits (pushed c.shift c.bit) k (c.room - e)
fallen_by false c k e level = free_at false (line_at c level) 0 0 k (c.room - e)

-- The same by the bits before the fall.
abbrev pub fallen_at : Clocks → Talk → ℕ → ℕ → Clocks
fallen_at c k e level = fallen_by (eqb c.bits all_but_one) c k e level

-- The clocks after a start or a stop: nothing is said.
abbrev pub cut_at : Bool → ℕ → Clocks
cut_at sda room = free_at true sda 0 0 (rested Idle) room

-- A device with the talk that the clocks have come to: its phase stays.
abbrev pub spoken_of : Device → Clocks → Device
spoken_of d c = with_talk d (record { phase = d.talk.phase; high = c.high; out = c.out; own = c.own })

-- The sign that a sample shows.
abbrev pub seen_at : Clocks → ℕ → Sign
seen_at c level = sign_of (wire_at c) (scl_of level) (line_at c level)

-- What a sign is to the loops: the inner one takes what is no more than a bit below the eighth.
abbrev pub turn_by : Sign → Turn
turn_by Quiet = Turn.Plain
turn_by Bit = Turn.Plain
turn_by (Byte v) = Turn.Eighth
turn_by (Ninth b) = Turn.Ninth
turn_by Start = Turn.Start
turn_by (Stop n) = Turn.Stop

-- That of a sample with VCC good in which no timer ends; any other is left alone.
abbrev pub turn_when : Bool → Turn → Turn
turn_when true t = t
turn_when false t = Turn.Other

-- What a sample is to the loops.
unfoldable pub turn_of : Clocks → ℕ → ℕ → Turn
turn_of c e level = turn_when (ltb e c.room && vcc_of level) (turn_by (seen_at c level))

-- A sample that is such to them.
pub record Comes (c : Clocks) (e level : ℕ) (t : Turn) : Type 0 where
  pub soon : e < c.room
  pub good : vcc_of level ≡ true
  pub shown : turn_by (seen_at c level) ≡ t

-- What no more than a bit below the eighth does to the device.
abbrev pub small_by : Sign → Device → Device
small_by Quiet d = d
small_by Bit d = bit_of d
small_by (Byte v) d = d
small_by (Ninth b) d = d
small_by Start d = d
small_by (Stop n) d = d

-- The clocks after a plain sample: time, wire and talk.
pub record Turned (c : Clocks) (sends : Bool) (e level : ℕ) (c' : Clocks) : Type 0 where
  pub room : c'.room ≡ c.room - e
  pub wire : wire_at c' ≡ wire_of (wire_at c) (scl_of level) (line_at c level)
  pub talk : (d : Device) → sends ≡ sends_in d.talk.phase → spoken_of d c' ≡ small_by (seen_at c level) (spoken_of d c)
