-- What the tables of `Address`, and of `Bits`, `Bytes` and `Ends` above it, are made of (document 01, Bytes on the wire; Control register).
use Rattle.std.specs.Prelude.{ℕ, ◌+◌, ◌*◌, ◌/◌, ◌%◌, Bool, true, false, ◌&&◌, eqb}
use Rattle.ground.specs.Numbers.{byte_values, slave_code}
use Rattle.ground.specs.Cases.{highest, middle}
use Rattle.part.specs.State.{with_own, with_pending}
use Rattle.part.specs.declared.state.Phase.{Phase}
use Rattle.part.specs.declared.state.Phase.TheVariants.{Idle, Silent, Slave, High, Low, Data, Register, Send, SendRegister}
use Rattle.part.specs.declared.state.BusAddress.{BusAddress}
use Rattle.part.specs.declared.state.Talk.{Talk}
use Rattle.part.specs.declared.state.Control.{Control}

-- A register byte pends (Control register, the first register byte).
abbrev pub pends : Control → ℕ → Control
pends c v = with_pending c true v

-- No register byte pends, and its value is 0 (Bytes on the wire, any start and any stop; Control register, a second byte).
abbrev pub none_pends : Control → Control
none_pends c = with_pending c false 0

-- SDA pulled low for an acknowledge, with the phase after it (Bytes on the wire, acknowledged from the eighth fall).
abbrev pub acknowledged : Phase → Talk
acknowledged p = record { phase = p; high = 0; out = 0; own = false }

-- SDA released and nothing being sent, in a phase (Bytes on the wire, silent; any start and any stop; read).
abbrev pub rested : Phase → Talk
rested p = record { phase = p; high = 0; out = 0; own = true }

-- An acknowledge ends: SDA is released, all else stays (Bytes on the wire, to the ninth fall).
abbrev pub released : Talk → Talk
released t = with_own t true

-- Whether a byte is being sent in a phase (Bytes on the wire, read).
abbrev pub sends_in : Phase → Bool
sends_in Idle = false
sends_in Silent = false
sends_in Slave = false
sends_in High = false
sends_in Low = false
sends_in Data = false
sends_in Register = false
sends_in Send = true
sends_in SendRegister = true

-- The byte being sent, one bit on (Bytes on the wire, read: one bit per fall).
abbrev pub shifted_of : ℕ → ℕ
shifted_of out = out * 2 % byte_values

-- A byte being sent: its highest bit is out (Bytes on the wire, read).
abbrev pub sending : Phase → ℕ → Talk
sending p v = record { phase = p; high = 0; out = v; own = highest v }

-- The 16-bit address of its two bytes (Bytes on the wire, write).
abbrev pub address_of : ℕ → ℕ → BusAddress
address_of high low = record { 0 = high * byte_values + low }

-- A slave byte of 1010, 0 and the part's select (Bytes on the wire, after a start).
abbrev pub matches : ℕ → ℕ → Bool
matches select v = eqb (v / 8) slave_code && eqb (middle v) select
