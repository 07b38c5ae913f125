-- Where a byte is kept for a stop to act on, its eighth fall acknowledges it, and a stop tells the bits that were committed.
-- Assumes nothing.
use Prim.Native.Nat.{ℕ}
use mathlib.Core.Bool.{Bool, true, false, true≢false}
use mathlib.Core.Path.{◌≡◌, refl}
use lib.Dec.{eqb, ltb}
use Rattle.ground.specs.Cases.{odd}
use Rattle.ground.specs.declared.kinds.Kind.{Kind}
use Rattle.part.specs.declared.state.Phase.{Phase}
use Rattle.part.specs.declared.state.Phase.TheVariants.{Idle, Silent, Slave, High, Low, Data, Register, Send, SendRegister}
use Rattle.part.specs.declared.state.Device.{Device}
use Rattle.part.specs.declared.state.Frame.{Frame}
use Rattle.part.specs.declared.state.Wire.{Wire}
use Rattle.wire.specs.Sign.{all_but_one, fall_sign_by, fall_sign, sign_by, sign_of}
use Rattle.wire.specs.declared.Sign.{Sign}
use Rattle.wire.specs.declared.Sign.TheVariants.{Quiet, Start, Stop, Bit, Byte, Ninth}
use Rattle.address.specs.Talk.{matches}
use Rattle.address.specs.Address.{slave_by, slave_of, high_of}
use Rattle.device.specs.Bytes.{taken_of, data_by, register_by, byte_in, byte_of}
use Rattle.device.proofs.Phases.{low-acknowledged}
use Rattle.ends.specs.Ends.{keeps_for_stop}

-- A slave byte leads to no such phase.
slave-acks : (a r c : Bool) (d : Device) → keeps_for_stop (slave_by a r c d).talk.phase ≡ true → (slave_by a r c d).talk.own ≡ false
slave-acks false r c d x = absurd (true≢false (cc))
slave-acks true false c d x = refl
slave-acks true true false d x = refl
slave-acks true true true d x = refl

-- An array byte that is not taken silences the part.
data-acks : (b : Bool) (d : Device) → keeps_for_stop (data_by b d).talk.phase ≡ true → (data_by b d).talk.own ≡ false
data-acks true d x = refl
data-acks false d x = absurd (true≢false (cc))

-- So does a second register byte.
register-acks : (b : Bool) (d : Device) (v : ℕ) → keeps_for_stop (register_by b d v).talk.phase ≡ true → (register_by b d v).talk.own ≡ false
register-acks true d v x = absurd (true≢false (cc))
register-acks false d v x = refl

-- A byte, by phase.
acks-in : (p : Phase) (k : Kind) (s v : ℕ) (d : Device) → d.talk.phase ≡ p
    → keeps_for_stop (byte_in p k s d v).talk.phase ≡ true → (byte_in p k s d v).talk.own ≡ false
unfolding slave_of high_of
acks-in Idle k s v d e x = absurd (true≢false (cc))
acks-in Silent k s v d e x = absurd (true≢false (cc))
acks-in Slave k s v d e x = slave-acks (matches s v) (odd v) d.control.chosen d x
acks-in High k s v d e x = refl
acks-in Low k s v d e x = low-acknowledged k d v
acks-in Data k s v d e x = data-acks (taken_of k d) d x
acks-in Register k s v d e x = register-acks d.control.pending d v x
acks-in Send k s v d e x = absurd (true≢false (cc))
acks-in SendRegister k s v d e x = absurd (true≢false (cc))

-- A byte that leads to such a phase is acknowledged.
pub byte-acks : (k : Kind) (s v : ℕ) (d : Device) → keeps_for_stop (byte_of k s d v).talk.phase ≡ true → (byte_of k s d v).talk.own ≡ false
unfolding byte_of
byte-acks k s v d x = acks-in d.talk.phase k s v d refl x

-- The bits that a stop tells; of any other sign the given number.
abbrev told_by : Sign → ℕ → ℕ
told_by Quiet n = n
told_by Start n = n
told_by (Stop b) n = b
told_by Bit n = n
told_by (Byte v) n = n
told_by (Ninth b) n = n

-- A fall is no stop.
fall-tells : (h s e : Bool) (f : Frame) → told_by (fall_sign_by h s e f) f.bits ≡ f.bits
fall-tells false s e f = refl
fall-tells true true e f = refl
fall-tells true false true f = refl
fall-tells true false false f = refl

-- A stop tells the committed bits, by the four levels.
bits-told : (a b c d : Bool) (f : Frame) → told_by (sign_by a b c d f) f.bits ≡ f.bits
unfolding fall_sign
bits-told true true true true f = refl
bits-told true true true false f = refl
bits-told true true false true f = refl
bits-told true true false false f = refl
bits-told true false c d f = fall-tells f.held (ltb f.bits all_but_one) (eqb f.bits all_but_one) f
bits-told false true c d f = refl
bits-told false false c d f = refl

-- So does every stop that is seen.
pub stop-bits : (w : Wire) (scl sda : Bool) (n : ℕ) → sign_of w scl sda ≡ Stop n → n ≡ w.frame.bits
unfolding sign_of
stop-bits w scl sda n e =
    rw e at (bits-told w.lines.scl scl w.lines.sda sda w.frame)
