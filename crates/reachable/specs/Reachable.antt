-- The states that a part comes to from power-up, and what each of them keeps
-- (document 01, State and time; Bytes on the wire; Control register).
-- For a person from the line: switch on a known part, with an array of its size, and give it any samples whatever. It
-- pulls SDA low only to acknowledge a byte or to send a 0, and while it does so it sees no start and no stop. It holds
-- bytes for the array only while they come in, with WEL set and the place not locked, all of them in one page; it holds
-- a byte for the control register only while that is addressed, and never beside them. A sample that ends the sending of
-- a byte leaves SDA released. A stop that cuts a byte off comes before that byte's eighth fall. What the ranges of refusal
-- 4 ask of a state holds after every sample.
use Rattle.std.specs.Prelude.{ℕ, ◌<◌, Bool, true, false, ◌&&◌, List, ◌≡◌, ltb, length, get_or}
use Rattle.ground.specs.Numbers.{page_size, most_bits}
use Rattle.ground.specs.Cases.{highest}
use Rattle.ground.specs.Kind.{kind_of}
use Rattle.lock.specs.Lock.{locked_of}
use Rattle.page.specs.Page.{page_of, in_page, empty_load, marked}
use Rattle.ground.specs.declared.kinds.Kind.{Kind}
use Rattle.part.specs.declared.state.Phase.{Phase}
use Rattle.part.specs.declared.state.Phase.TheVariants.{Idle, Silent, Slave, High, Low, Data, Register, Send, SendRegister}
use Rattle.part.specs.declared.state.Device.{Device}
use Rattle.part.specs.declared.state.Load.{Load}
use Rattle.part.specs.declared.state.State.{State}
use Rattle.wire.specs.declared.Sign.TheVariants.{Start, Stop}
use Rattle.ground.specs.Verdict.{accepted}
use Rattle.refusals.specs.Refusals.{power_of, in_range}
use Rattle.ends.specs.Ends.{keeps_for_stop}
use Rattle.sample.specs.Sample.{opens_of, sign_in}
use Rattle.sample.specs.Run.{Part, part_step, run_of}
use Rattle.power.specs.Power.{at_power}

-- A part after some rows of one length from an accepted power-up, its array of the right size; the samples may be any
-- (State and time; Refusal numbers, 1 to 3, 5 and 6).
pub record Reachable (p : Part) : Type 0 where
  pub part : ℕ
  pub select : ℕ
  pub stored : ℕ
  pub array : List ℕ
  pub es : List ℕ
  pub ls : List ℕ
  pub given : power_of part select stored ≡ accepted 0
  pub size : length array ≡ (kind_of part).size
  pub rows : length es ≡ length ls
  pub reached : run_of es ls (at_power part select stored array) ≡ p

-- The phases in which no byte was acknowledged since the start, or none is heard (Bytes on the wire, after a start).
abbrev pub waits : Phase → Bool
waits Idle = true
waits Silent = true
waits Slave = true
waits High = false
waits Low = false
waits Data = false
waits Register = false
waits Send = false
waits SendRegister = false

-- The phases of a read (Bytes on the wire, read).
abbrev pub speaks : Phase → Bool
speaks Idle = false
speaks Silent = false
speaks Slave = false
speaks High = false
speaks Low = false
speaks Data = false
speaks Register = false
speaks Send = true
speaks SendRegister = true

-- A byte is being sent: a read, from a ninth fall to the eighth after it (Bytes on the wire, read).
abbrev pub sends_now : State → Bool
sends_now s = speaks s.device.talk.phase && ltb s.wire.frame.bits most_bits

-- What a set mark says: data comes in, WEL is set, the counter's page is not locked (Bytes on the wire, array data).
pub record Loading (k : Kind) (d : Device) : Type 0 where
  pub phase : d.talk.phase ≡ Data
  pub latch : d.control.wel ≡ true
  pub unlocked : locked_of k d.control.stored d.counter ≡ false

-- A whole page load: 64 bytes with 64 marks, nothing in it where no mark is set (State and time, the page load).
pub record KeptLoad (l : Load) : Type 0 where
  pub bytes : length l.bytes ≡ page_size
  pub marks : length l.marks ≡ page_size
  pub empty : marked l ≡ false → l ≡ empty_load

-- What stands while a register byte pends: its phase, the register chosen, no load (Control register).
pub record Pending (s : State) : Type 0 where
  pub phase : s.device.talk.phase ≡ Register
  pub chosen : s.device.control.chosen ≡ true
  pub alone : marked s.load ≡ false

-- Why the part pulls SDA low: it acknowledges, from an eighth fall to the ninth, or it sends a 0 (Bytes on the wire).
pub data Lowers : State → Type 0 where
  acknowledges : {s : State} → s.wire.frame.bits ≡ most_bits → waits s.device.talk.phase ≡ false → Lowers s
  sends_zero : {s : State} → sends_now s ≡ true → highest s.device.talk.out ≡ false → Lowers s

-- What every reachable state keeps (State and time; Bytes on the wire; Control register).
pub record Keeps (s : State) : Type 0 where
  -- Marks are set only while data comes in, WEL set, the counter's place not locked; that the marks lie in the
  -- counter's page: Holds.mark and Holds.page (Bytes on the wire, array data).
  pub loading : marked s.load ≡ true → Loading (kind_of s.chip.part) s.device
  -- A register byte pends only in its phase and never beside a load (Control register).
  pub pending : s.device.control.pending ≡ true → Pending s
  -- The byte that pends is 0 where none does (Bytes on the wire, any start and any stop).
  pub none : s.device.control.pending ≡ false → s.device.control.value ≡ 0
  -- The page load is whole, and empty without a mark (State and time, the page load; Bytes on the wire, any start).
  pub whole : KeptLoad s.load
  -- Own SDA is low only from an eighth fall to the ninth or while sending a 0 (Bytes on the wire).
  pub own : s.device.talk.own ≡ false → Lowers s
  -- While a byte is being sent, own SDA is its highest bit (Bytes on the wire, read).
  pub sent : sends_now s ≡ true → s.device.talk.own ≡ highest s.device.talk.out
  -- The byte being sent is 0 where none is (State and time, a byte being sent).
  pub silent : sends_now s ≡ false → s.device.talk.out ≡ 0
  -- The eight ranges hold (State and time, ranges; Refusal numbers, 4).
  pub range : in_range s ≡ true
  -- With SCL high, own SDA low has been seen on the line (State and time, 4).
  pub line : s.device.talk.own ≡ false → s.wire.lines.scl ≡ true → s.wire.lines.sda ≡ false

-- What holds of every reachable part with its array, and of every sample given (State and time; Bytes on the wire).
pub record Holds (p : Part) : Type 0 where
  -- The array has the size of the part (Refusal numbers, 5).
  pub size : length p.array ≡ (kind_of p.state.chip.part).size
  -- No start is seen while the part holds SDA low (State and time, 4).
  pub start : (e level : ℕ) → p.state.device.talk.own ≡ false
      → sign_in level (opens_of e level p.state) ≡ Start → ⊥
  -- Nor is a stop (State and time, 4).
  pub stop : (e level n : ℕ) → p.state.device.talk.own ≡ false
      → sign_in level (opens_of e level p.state) ≡ Stop n → ⊥
  -- A stop that could cut a byte off is never seen from that byte's eighth fall to its ninth: the part acknowledges there
  -- (State and time, 4; request 2026-02).
  pub before-eighth : (e level n : ℕ) → keeps_for_stop p.state.device.talk.phase ≡ true
      → sign_in level (opens_of e level p.state) ≡ Stop n → n < most_bits
  -- A mark that comes to be set is that of the counter's place in its page (Bytes on the wire, array data).
  pub mark : (e level i : ℕ) → get_or p.state.load.marks i false ≡ false
      → get_or (part_step e level p).state.load.marks i false ≡ true → i ≡ in_page p.state.device.counter
  -- A sample that leaves a mark set keeps the counter in its page: all marks lie there (Bytes on the wire, array data).
  pub page : (e level : ℕ) → marked (part_step e level p).state.load ≡ true
      → page_of (part_step e level p).state.device.counter ≡ page_of p.state.device.counter
  -- A sample that ends the sending of a byte leaves SDA released (Bytes on the wire, read; State and time, 3).
  pub released : (e level : ℕ) → sends_now p.state ≡ true → sends_now (part_step e level p).state ≡ false
      → (part_step e level p).state.device.talk.own ≡ true
