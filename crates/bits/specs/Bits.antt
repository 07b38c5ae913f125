-- What a bit below the eighth and a ninth bit do, phase by phase (document 01, Bytes on the wire, read).
use Rattle.std.specs.Prelude.{ℕ, Bool, true, false, List}
use Rattle.page.specs.Page.{next_in_array, byte_at}
use Rattle.ground.specs.declared.kinds.Kind.{Kind}
use Rattle.part.specs.declared.state.Phase.{Phase}
use Rattle.part.specs.declared.state.Phase.TheVariants.{Idle, Silent, Slave, High, Low, Data, Register, Send, SendRegister}
use Rattle.part.specs.declared.state.Device.{Device}
use Rattle.control.specs.Register.{reads_of}
use Rattle.part.specs.State.{with_talk, with_counter}
use Rattle.address.specs.Talk.{rested, released, sending, shifted_of}

-- The next bit of a byte being sent goes out, in a phase that sends (Bytes on the wire, read: one bit per fall).
abbrev pub next_bit : Phase → Device → Device
next_bit p d = with_talk d (sending p (shifted_of d.talk.out))

-- A fall that commits a bit below the eighth, by phase (Bytes on the wire, read).
abbrev pub bit_in : Phase → Device → Device
bit_in Idle d = d
bit_in Silent d = d
bit_in Slave d = d
bit_in High d = d
bit_in Low d = d
bit_in Data d = d
bit_in Register d = d
bit_in Send d = next_bit Send d
bit_in SendRegister d = next_bit SendRegister d

-- The device after a fall that commits a bit below the eighth (Bytes on the wire, read).
unfoldable pub bit_of : Device → Device
bit_of d = bit_in d.talk.phase d

-- The array byte at the counter is fetched, the counter steps, the highest bit goes out (Bytes on the wire, read).
abbrev pub fetch : Kind → List ℕ → Device → Device
fetch k array d = with_counter (with_talk d (sending Send (byte_at array d.counter))) (next_in_array k d.counter)

-- The register as it reads is taken and its highest bit goes out, the counter staying (Bytes on the wire, read).
abbrev pub fetch_register : Device → Device
fetch_register d = with_talk d (sending SendRegister (reads_of d.control))

-- A ninth fall while sending the array: a low bit fetches, a high one silences the part (Bytes on the wire, read).
abbrev pub answered_by : Bool → Kind → List ℕ → Device → Device
answered_by false k array d = fetch k array d
answered_by true k array d = with_talk d (rested Silent)

-- The ninth fall, by phase: an acknowledge ends, or a byte is fetched (Bytes on the wire).
abbrev pub ninth_in : Phase → Kind → List ℕ → Bool → Device → Device
ninth_in Idle k array b d = d
ninth_in Silent k array b d = d
ninth_in Slave k array b d = with_talk d (released d.talk)
ninth_in High k array b d = with_talk d (released d.talk)
ninth_in Low k array b d = with_talk d (released d.talk)
ninth_in Data k array b d = with_talk d (released d.talk)
ninth_in Register k array b d = with_talk d (released d.talk)
ninth_in Send k array b d = answered_by b k array d
ninth_in SendRegister k array b d = fetch_register d

-- The device after the ninth fall, with the ninth bit (Bytes on the wire).
unfoldable pub ninth_of : Kind → List ℕ → Bool → Device → Device
ninth_of k array b d = ninth_in d.talk.phase k array b d
