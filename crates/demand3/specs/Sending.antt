-- What is being sent, beside a run: the byte that was fetched within the given samples, and which bit of it is out
-- (document 01, Bytes on the wire, read; State and time, a byte being sent; demand 3).
use Rattle.std.specs.Prelude.{ℕ, ◌+◌, ◌-◌, ◌/◌, ◌^◌, Bool, true, false, not, ◌&&◌, List}
use Rattle.ground.specs.Cases.{odd}
use Rattle.page.specs.Page.{byte_at}
use Rattle.part.specs.declared.state.Phase.{Phase}
use Rattle.part.specs.declared.state.Phase.TheVariants.{Idle, Silent, Slave, High, Low, Data, Register, Send, SendRegister}
use Rattle.part.specs.declared.state.Device.{Device}
use Rattle.wire.specs.declared.Sign.TheVariants.{Quiet, Start, Stop, Bit, Byte, Ninth}
use Rattle.sample.specs.Sample.{opens_of, Seen, unseen, sees, seen_of}
use Rattle.sample.specs.Run.{Part}

-- Nothing fetched within the samples is being sent, or a byte: the address it was fetched from, its value, the bit that is out.
pub data Sent : Type 0 where
  nothing : Sent
  sends : ℕ → ℕ → ℕ → Sent

-- The part sends array bytes (Bytes on the wire, read).
abbrev pub sends_array : Phase → Bool
sends_array Idle = false
sends_array Silent = false
sends_array Slave = false
sends_array High = false
sends_array Low = false
sends_array Data = false
sends_array Register = false
sends_array Send = true
sends_array SendRegister = false

-- A ninth fall with a low ninth bit fetches the array byte at the counter, its highest bit out. After the slave byte that bit
-- is low because the part acknowledges it itself (Bytes on the wire, read; after a start).
abbrev pub fetched_by : Bool → List ℕ → Device → Sent
fetched_by true array d = sends d.counter.0 (byte_at array d.counter) 0
fetched_by false array d = nothing

-- One bit per fall (Bytes on the wire, read).
abbrev pub next_sent : Sent → Sent
next_sent nothing = nothing
next_sent (sends a b n) = sends a b (n + 1)

-- What is seen does to the sending: reset ends it, a fall puts the next bit out, the eighth ends it, so do a start and a stop
-- (State and time, 3; Bytes on the wire).
abbrev pub sent_by : Seen → List ℕ → Device → Sent → Sent
sent_by unseen array d g = nothing
sent_by (sees Quiet) array d g = g
sent_by (sees Start) array d g = nothing
sent_by (sees (Stop n)) array d g = nothing
sent_by (sees Bit) array d g = next_sent g
sent_by (sees (Byte v)) array d g = nothing
sent_by (sees (Ninth b)) array d g = fetched_by (sends_array d.talk.phase && not b) array d

-- What is being sent after a sample, given what was before it (State and time, each sample).
unfoldable pub sent_of : ℕ → ℕ → Part → Sent → Sent
sent_of e level p g = sent_by (seen_of level (opens_of e level p.state)) p.array p.state.device g

-- Bit n of a byte, counted from the highest (Bytes on the wire, read: the highest bit goes out, one bit per fall).
abbrev pub bit_from : ℕ → ℕ → Bool
bit_from n b = odd (b / 2 ^ (7 - n))
