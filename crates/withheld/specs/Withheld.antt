-- Why a hearing part withholds its acknowledge of a byte (document 01, Bytes on the wire; Control register; request 2026-02).
use Rattle.std.specs.Prelude.{ℕ, ◌-◌, Bool, true, false, ◌&&◌, Option, Some, None}
use Rattle.ground.specs.declared.kinds.Kind.{Kind}
use Rattle.part.specs.declared.state.Phase.{Phase}
use Rattle.part.specs.declared.state.Phase.TheVariants.{Idle, Silent, Slave, High, Low, Data, Register, Send, SendRegister}
use Rattle.part.specs.declared.state.Control.{Control}
use Rattle.part.specs.declared.state.Device.{Device}
use Rattle.part.specs.declared.state.Place.{Place}
use Rattle.lock.specs.Lock.{block_code, extent_of, locked_of}
use Rattle.lock.specs.declared.Extent.{Extent}
use Rattle.device.specs.Bytes.{byte_of}
use Rattle.withheld.specs.declared.Why.{Why}
use Rattle.withheld.specs.declared.Why.TheVariants.{WelLow, PageLocked, SecondByte}

-- A locked page as a reason: the block code, the first page that it locks and the last (Control register, BP2 BP1 BP0).
abbrev pub lock_reason : ℕ → Extent → Why
lock_reason code x = PageLocked code x.from (x.to - 1)

-- An array byte by WEL and by whether the counter's page is locked: the latch comes first (Bytes on the wire, array data).
abbrev pub data_reason_by : Bool → Bool → ℕ → Extent → Option Why
data_reason_by false locked code x = Some WelLow
data_reason_by true true code x = Some (lock_reason code x)
data_reason_by true false code x = None

-- The same of a control register and a counter, with the code that is stored (Bytes on the wire, array data; Control register).
unfoldable pub data_reason : Kind → Control → Place → Option Why
data_reason k c p = data_reason_by c.wel (locked_of k c.stored p) (block_code c.stored) (extent_of k (block_code c.stored))

-- A register byte by whether one pends: a second is not acknowledged (Control register, the first register byte).
abbrev pub register_reason_by : Bool → Option Why
register_reason_by true = Some SecondByte
register_reason_by false = None

-- The reason by phase: address bytes are always acknowledged (Bytes on the wire, write and array data; Control register).
abbrev pub reason_in : Phase → Kind → Device → Option Why
reason_in Idle k d = None
reason_in Silent k d = None
reason_in Slave k d = None
reason_in High k d = None
reason_in Low k d = None
reason_in Data k d = data_reason k d.control d.counter
reason_in Register k d = register_reason_by d.control.pending
reason_in Send k d = None
reason_in SendRegister k d = None

-- Why the byte that comes next to a device is not acknowledged (Bytes on the wire; Control register; request 2026-02).
unfoldable pub reason_of : Kind → Device → Option Why
reason_of k d = reason_in d.talk.phase k d

-- Whether a reason is given at all.
abbrev pub given : Option Why → Bool
given None = false
given (Some why) = true

-- The phases that hear a byte from outside after a matching slave byte (Bytes on the wire, write; request 2026-07, withheld).
abbrev pub hears_in : Phase → Bool
hears_in Idle = false
hears_in Silent = false
hears_in Slave = false
hears_in High = true
hears_in Low = true
hears_in Data = true
hears_in Register = true
hears_in Send = false
hears_in SendRegister = false

-- Whether the acknowledge of a byte is withheld: it is heard, and SDA is left high after its eighth fall (request 2026-07, withheld).
abbrev pub withheld_of : Kind → ℕ → Device → ℕ → Bool
withheld_of k select d v = hears_in d.talk.phase && (byte_of k select d v).talk.own
