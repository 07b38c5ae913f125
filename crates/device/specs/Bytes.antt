-- What a byte does at its eighth fall, phase by phase (document 01, Bytes on the wire; Control register).
use Rattle.std.specs.Prelude.{ℕ, Bool, true, false, not, ◌&&◌, ◌≡◌}
use Rattle.lock.specs.Lock.{locked_of}
use Rattle.page.specs.Page.{next_in_page, filled_of}
use Rattle.ground.specs.declared.kinds.Kind.{Kind}
use Rattle.part.specs.declared.state.Phase.{Phase}
use Rattle.part.specs.declared.state.Phase.TheVariants.{Idle, Silent, Slave, High, Low, Data, Register, Send, SendRegister}
use Rattle.part.specs.declared.state.Device.{Device}
use Rattle.part.specs.declared.state.Load.{Load}
use Rattle.part.specs.State.{with_talk, with_counter, with_control, with_chosen}
use Rattle.address.specs.Address.{slave_of, high_of, low_of}
use Rattle.address.specs.Talk.{pends, none_pends, acknowledged, rested}

-- Whether an array byte is taken: WEL set and the counter in no locked block (Bytes on the wire, array data).
unfoldable pub taken_of : Kind → Device → Bool
taken_of k d = d.control.wel && not (locked_of k d.control.stored d.counter)

-- An array byte: taken, it is acknowledged and the counter steps; not taken, silence, RWEL staying (Bytes on the wire).
abbrev pub data_by : Bool → Device → Device
data_by true d = with_counter (with_talk d (acknowledged Data)) (next_in_page d.counter)
data_by false d = with_talk d (rested Silent)

-- A register byte: the first is acknowledged and pends, a second cancels it and silences the part (Control register).
abbrev pub register_by : Bool → Device → ℕ → Device
register_by false d v = with_control (with_talk d (acknowledged Register)) (pends d.control v)
register_by true d v = with_control (with_talk d (rested Silent)) (none_pends d.control)

-- The register has been sent: the choice is dropped and the part is silent (Bytes on the wire, read).
abbrev pub register_sent : Device → Device
register_sent d = with_control (with_talk d (rested Silent)) (with_chosen d.control false)

-- The eighth fall of a byte, by phase (Bytes on the wire: what a byte does before a stop, it does at its eighth fall).
abbrev pub byte_in : Phase → Kind → ℕ → Device → ℕ → Device
byte_in Idle k s d v = d
byte_in Silent k s d v = d
byte_in Slave k s d v = slave_of s d v
byte_in High k s d v = high_of d v
byte_in Low k s d v = low_of k d v
byte_in Data k s d v = data_by (taken_of k d) d
byte_in Register k s d v = register_by d.control.pending d v
byte_in Send k s d v = with_talk d (rested Send)
byte_in SendRegister k s d v = register_sent d

-- The device after a byte's eighth fall (Bytes on the wire).
unfoldable pub byte_of : Kind → ℕ → Device → ℕ → Device
byte_of k s d v = byte_in d.talk.phase k s d v

-- A byte put in the load if it is taken (Bytes on the wire, array data).
abbrev pub kept_by : Bool → Device → ℕ → Load → Load
kept_by true d v l = filled_of l d.counter v
kept_by false d v l = l

-- The phase in which a byte is array data (Bytes on the wire, array data).
abbrev pub expects_data : Phase → Bool
expects_data Idle = false
expects_data Silent = false
expects_data Slave = false
expects_data High = false
expects_data Low = false
expects_data Data = true
expects_data Register = false
expects_data Send = false
expects_data SendRegister = false

-- The page load after a byte's eighth fall: only array data that is taken fills it (Bytes on the wire, array data).
unfoldable pub kept_of : Kind → Device → ℕ → Load → Load
kept_of k d v l = kept_by (expects_data d.talk.phase && taken_of k d) d v l

-- Whether a byte goes into the load: filled if so, and left as it was if not (Bytes on the wire, array data).
abbrev pub Fills : Kind → Device → Bool → Type 0
Fills k d b = (v : ℕ) (l : Load) → kept_of k d v l ≡ kept_by b d v l
