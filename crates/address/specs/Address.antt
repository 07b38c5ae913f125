-- The slave byte and the two address bytes (document 01, Bytes on the wire).
use Rattle.std.specs.Prelude.{ℕ, Bool, true, false, eqb}
use Rattle.ground.specs.Numbers.{register_address}
use Rattle.ground.specs.Cases.{odd}
use Rattle.page.specs.Page.{place_of}
use Rattle.ground.specs.declared.kinds.Kind.{Kind}
use Rattle.part.specs.declared.state.BusAddress.{BusAddress}
use Rattle.part.specs.declared.state.Phase.TheVariants.{Silent, High, Low, Data, Register, Send, SendRegister}
use Rattle.part.specs.declared.state.Device.{Device}
use Rattle.part.specs.State.{with_talk, with_counter, with_control, with_chosen}
use Rattle.address.specs.Talk.{acknowledged, rested, address_of, matches}

-- A slave byte by cases: a match, a read, the register chosen; no match is silence (Bytes on the wire, after a start).
abbrev pub slave_by : Bool → Bool → Bool → Device → Device
slave_by false r c d = with_talk d (rested Silent)
slave_by true false c d = with_talk d (acknowledged High)
slave_by true true false d = with_talk d (acknowledged Send)
slave_by true true true d = with_talk d (acknowledged SendRegister)

-- The slave byte (Bytes on the wire, after a start).
unfoldable pub slave_of : ℕ → Device → ℕ → Device
slave_of select d v = slave_by (matches select v) (odd v) d.control.chosen d

-- The address's high byte, acknowledged (Bytes on the wire, write).
unfoldable pub high_of : Device → ℕ → Device
high_of d v = with_talk d (record { phase = Low; high = v; out = 0; own = false })

-- A whole address: FFFFh chooses the register, any other sets the counter and drops the choice (Bytes on the wire, write).
abbrev pub address_by : Bool → Kind → Device → BusAddress → Device
address_by true k d a = with_control (with_talk d (acknowledged Register)) (with_chosen d.control true)
address_by false k d a = with_control (with_counter (with_talk d (acknowledged Data)) (place_of k a)) (with_chosen d.control false)

-- The address's low byte, acknowledged (Bytes on the wire, write).
unfoldable pub low_of : Kind → Device → ℕ → Device
low_of k d v = address_by (eqb (address_of d.talk.high v).0 register_address) k d (address_of d.talk.high v)
