-- What a byte does in each phase. Assumes nothing.
use Prim.Native.Nat.{ℕ}
use mathlib.Core.Bool.{Bool, true, false, ◌&&◌, true≢false}
use mathlib.Core.Path.{◌≡◌, refl, ap, sym}
use lib.Dec.{eqb}
use Rattle.ground.specs.Numbers.{register_address}
use Rattle.ground.specs.declared.kinds.Kind.{Kind}
use Rattle.part.specs.declared.state.BusAddress.{BusAddress}
use Rattle.part.specs.declared.state.Phase.{Phase}
use Rattle.part.specs.declared.state.Phase.TheVariants.{Idle, Silent, Slave, High, Low, Data, Register, Send, SendRegister}
use Rattle.part.specs.declared.state.Device.{Device}
use Rattle.part.specs.declared.state.Load.{Load}
use Rattle.part.specs.State.{with_talk}
use Rattle.address.specs.Talk.{rested, address_of}
use Rattle.address.specs.Address.{slave_of, high_of, address_by, low_of}
use Rattle.device.specs.Bytes.{taken_of, data_by, register_by, register_sent, byte_in, byte_of, kept_by, expects_data, kept_of}

-- A whole address is acknowledged, whichever it is.
address-acknowledged : (b : Bool) (k : Kind) (d : Device) (a : BusAddress) → (address_by b k d a).talk.own ≡ false
address-acknowledged true k d a = refl
address-acknowledged false k d a = refl

-- So is its low byte.
pub low-acknowledged : (k : Kind) (d : Device) (v : ℕ) → (low_of k d v).talk.own ≡ false
unfolding low_of
low-acknowledged k d v =
    address-acknowledged (eqb (address_of d.talk.high v).0 register_address) k d (address_of d.talk.high v)

-- The load by phase, outside array data.
kept-none : (p : Phase) (k : Kind) (d : Device) (v : ℕ) (l : Load) → (p ≡ Data → ⊥) → kept_by (expects_data p && taken_of k d) d v l ≡ l
kept-none Idle k d v l h = refl
kept-none Silent k d v l h = refl
kept-none Slave k d v l h = refl
kept-none High k d v l h = refl
kept-none Low k d v l h = refl
kept-none Data k d v l h = absurd (h refl)
kept-none Register k d v l h = refl
kept-none Send k d v l h = refl
kept-none SendRegister k d v l h = refl

-- Only array data fills the load.
pub kept-stays : (k : Kind) (d : Device) (v : ℕ) (l : Load) → (d.talk.phase ≡ Data → ⊥) → kept_of k d v l ≡ l
unfolding kept_of
kept-stays k d v l h = kept-none d.talk.phase k d v l h

-- Array data fills it if it is taken.
pub kept-data : (k : Kind) (d : Device) (v : ℕ) (l : Load) → d.talk.phase ≡ Data → kept_of k d v l ≡ kept_by (taken_of k d) d v l
unfolding kept_of
kept-data k d v l e = ap (λ (p : Phase). kept_by (expects_data p && taken_of k d) d v l) e

module _ (k : Kind) (s : ℕ) (d : Device) (v : ℕ) where
  -- An idle part does nothing at a byte.
  pub byte-idle : d.talk.phase ≡ Idle → byte_of k s d v ≡ d
  unfolding byte_of
  byte-idle e = ap (λ (p : Phase). byte_in p k s d v) e

  -- A silent part does nothing at a byte.
  pub byte-silent : d.talk.phase ≡ Silent → byte_of k s d v ≡ d
  unfolding byte_of
  byte-silent e = ap (λ (p : Phase). byte_in p k s d v) e

  -- The first byte after a start is the slave byte.
  pub byte-slave : d.talk.phase ≡ Slave → byte_of k s d v ≡ slave_of s d v
  unfolding byte_of
  byte-slave e = ap (λ (p : Phase). byte_in p k s d v) e

  -- Then comes the address's high byte.
  pub byte_high : d.talk.phase ≡ High → byte_of k s d v ≡ high_of d v
  unfolding byte_of
  byte_high e = ap (λ (p : Phase). byte_in p k s d v) e

  -- After it comes the address's low byte.
  pub byte_low : d.talk.phase ≡ Low → byte_of k s d v ≡ low_of k d v
  unfolding byte_of
  byte_low e = ap (λ (p : Phase). byte_in p k s d v) e

  -- A byte for the array is taken or not.
  pub byte-data : d.talk.phase ≡ Data → byte_of k s d v ≡ data_by (taken_of k d) d
  unfolding byte_of
  byte-data e = ap (λ (p : Phase). byte_in p k s d v) e

  -- A byte for the register is the first, or one too many.
  pub byte-register : d.talk.phase ≡ Register → byte_of k s d v ≡ register_by d.control.pending d v
  unfolding byte_of
  byte-register e = ap (λ (p : Phase). byte_in p k s d v) e

  -- The eighth fall of an array byte sent releases SDA.
  pub byte-send : d.talk.phase ≡ Send → byte_of k s d v ≡ with_talk d (rested Send)
  unfolding byte_of
  byte-send e = ap (λ (p : Phase). byte_in p k s d v) e

  -- The eighth fall of the register sent silences the part and drops the choice.
  pub byte-send-register : d.talk.phase ≡ SendRegister → byte_of k s d v ≡ register_sent d
  unfolding byte_of
  byte-send-register e = ap (λ (p : Phase). byte_in p k s d v) e

-- A byte by phase, where array data is expected.
data-in : (p : Phase) (k : Kind) (select : ℕ) (d : Device) (v : ℕ) → expects_data p ≡ true → byte_in p k select d v ≡ data_by (taken_of k d) d
data-in Idle k select d v h = absurd (true≢false (sym h))
data-in Silent k select d v h = absurd (true≢false (sym h))
data-in Slave k select d v h = absurd (true≢false (sym h))
data-in High k select d v h = absurd (true≢false (sym h))
data-in Low k select d v h = absurd (true≢false (sym h))
data-in Data k select d v h = refl
data-in Register k select d v h = absurd (true≢false (sym h))
data-in Send k select d v h = absurd (true≢false (sym h))
data-in SendRegister k select d v h = absurd (true≢false (sym h))

-- Where array data is expected, a byte is that.
pub byte-is-data : (k : Kind) (select : ℕ) (d : Device) (v : ℕ) → expects_data d.talk.phase ≡ true
    → byte_of k select d v ≡ data_by (taken_of k d) d
unfolding byte_of
byte-is-data k select d v h = data-in d.talk.phase k select d v h

-- There it goes into the load if it is taken; elsewhere no byte does.
pub kept_by_lem : (k : Kind) (d : Device) (v : ℕ) (l : Load) (b : Bool) → expects_data d.talk.phase ≡ b
    → kept_of k d v l ≡ kept_by (b && taken_of k d) d v l
unfolding kept_of
kept_by_lem k d v l b h = ap (λ (x : Bool). kept_by (x && taken_of k d) d v l) h
