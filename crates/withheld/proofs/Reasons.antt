-- What the reasons have to do with the part's rule. Assumes nothing.
use Prim.Native.Nat.{ℕ}
use mathlib.Core.Bool.{Bool, true, false, not, ◌&&◌}
use mathlib.Core.Path.{◌≡◌, refl, sym}
use Rattle.ground.specs.declared.kinds.Kind.{Kind}
use Rattle.part.specs.declared.state.Phase.{Phase}
use Rattle.part.specs.declared.state.Phase.TheVariants.{Idle, Silent, Slave, High, Low, Data, Register, Send, SendRegister}
use Rattle.part.specs.declared.state.Device.{Device}
use Rattle.lock.specs.Lock.{block_code, extent_of, locked_of}
use Rattle.lock.specs.declared.Extent.{Extent}
use Rattle.address.specs.Address.{high_of}
use Rattle.device.specs.Bytes.{taken_of, data_by, register_by, byte_in, byte_of}
use Rattle.device.proofs.Phases.{low-acknowledged}
use Rattle.withheld.specs.Withheld.{data_reason_by, data_reason, register_reason_by, reason_in, reason_of, given, hears_in, withheld_of}

-- Each row of the tables: the reason is given exactly where SDA is left high.
data-given : (wel locked : Bool) (code : ℕ) (x : Extent) (d : Device)
    → given (data_reason_by wel locked code x) ≡ (data_by (wel && not locked) d).talk.own
data-given false locked code x d = refl
data-given true true code x d = refl
data-given true false code x d = refl

register-given : (pending : Bool) (d : Device) (v : ℕ) → given (register_reason_by pending) ≡ (register_by pending d v).talk.own
register-given true d v = refl
register-given false d v = refl

by-phase : (p : Phase) (k : Kind) (select : ℕ) (d : Device) (v : ℕ) → given (reason_in p k d) ≡ hears_in p && (byte_in p k select d v).talk.own
unfolding high_of taken_of data_reason
by-phase Idle k select d v = refl
by-phase Silent k select d v = refl
by-phase Slave k select d v = refl
by-phase High k select d v = refl
by-phase Low k select d v = sym (low-acknowledged k d v)
by-phase Data k select d v =
    data-given d.control.wel (locked_of k d.control.stored d.counter) (block_code d.control.stored) (extent_of k (block_code d.control.stored)) d
by-phase Register k select d v = register-given d.control.pending d v
by-phase Send k select d v = refl
by-phase SendRegister k select d v = refl

-- A reason is given exactly where the byte's acknowledge is withheld, for every kind of part, select, device and byte.
pub reason-where-withheld : (k : Kind) (select : ℕ) (d : Device) (v : ℕ) → given (reason_of k d) ≡ withheld_of k select d v
unfolding reason_of byte_of
reason-where-withheld k select d v = by-phase d.talk.phase k select d v
