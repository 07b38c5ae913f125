-- What a bit and a ninth bit do in each phase. Assumes nothing.
use Prim.Native.Nat.{ℕ}
use mathlib.Core.Bool.{Bool, true, false, true≢false}
use mathlib.Core.List.{List}
use mathlib.Core.Path.{◌≡◌, refl, ap, sym}
use Rattle.ground.specs.declared.kinds.Kind.{Kind}
use Rattle.part.specs.declared.state.Phase.{Phase}
use Rattle.part.specs.declared.state.Phase.TheVariants.{Idle, Silent, Slave, High, Low, Data, Register, Send, SendRegister}
use Rattle.part.specs.declared.state.Device.{Device}
use Rattle.part.specs.State.{with_talk}
use Rattle.address.specs.Talk.{released, sends_in}
use Rattle.bits.specs.Bits.{next_bit, bit_in, bit_of, fetch_register, answered_by, ninth_in, ninth_of}

-- The five phases in which a byte is heard.
abbrev pub hears : Phase → Bool
hears Idle = false
hears Silent = false
hears Slave = true
hears High = true
hears Low = true
hears Data = true
hears Register = true
hears Send = false
hears SendRegister = false

-- A bit by phase, where nothing is sent.
bit-none : (p : Phase) (d : Device) → sends_in p ≡ false → bit_in p d ≡ d
bit-none Idle d h = refl
bit-none Silent d h = refl
bit-none Slave d h = refl
bit-none High d h = refl
bit-none Low d h = refl
bit-none Data d h = refl
bit-none Register d h = refl
bit-none Send d h = absurd (true≢false h)
bit-none SendRegister d h = absurd (true≢false h)

-- A bit changes nothing but in the phases that send.
pub bit-stays : (d : Device) → sends_in d.talk.phase ≡ false → bit_of d ≡ d
unfolding bit_of
bit-stays d h = bit-none d.talk.phase d h

-- A bit by phase, where a byte is sent.
bit-next : (p : Phase) (d : Device) → sends_in p ≡ true → bit_in p d ≡ next_bit p d
bit-next Idle d h = absurd (true≢false (sym h))
bit-next Silent d h = absurd (true≢false (sym h))
bit-next Slave d h = absurd (true≢false (sym h))
bit-next High d h = absurd (true≢false (sym h))
bit-next Low d h = absurd (true≢false (sym h))
bit-next Data d h = absurd (true≢false (sym h))
bit-next Register d h = absurd (true≢false (sym h))
bit-next Send d h = refl
bit-next SendRegister d h = refl

-- In the phases that send, a bit brings the next bit out.
pub bit-sent : (d : Device) → sends_in d.talk.phase ≡ true → bit_of d ≡ next_bit d.talk.phase d
unfolding bit_of
bit-sent d h = bit-next d.talk.phase d h

-- The ninth fall by phase, where a byte is heard.
ninth-heard : (p : Phase) (k : Kind) (array : List ℕ) (b : Bool) (d : Device) → hears p ≡ true
    → ninth_in p k array b d ≡ with_talk d (released d.talk)
ninth-heard Idle k array b d h = absurd (true≢false (sym h))
ninth-heard Silent k array b d h = absurd (true≢false (sym h))
ninth-heard Slave k array b d h = refl
ninth-heard High k array b d h = refl
ninth-heard Low k array b d h = refl
ninth-heard Data k array b d h = refl
ninth-heard Register k array b d h = refl
ninth-heard Send k array b d h = absurd (true≢false (sym h))
ninth-heard SendRegister k array b d h = absurd (true≢false (sym h))

-- In the phases that hear, the ninth fall releases SDA.
pub ninth-releases : (k : Kind) (array : List ℕ) (b : Bool) (d : Device) → hears d.talk.phase ≡ true
    → ninth_of k array b d ≡ with_talk d (released d.talk)
unfolding ninth_of
ninth-releases k array b d h = ninth-heard d.talk.phase k array b d h

module _ (k : Kind) (array : List ℕ) (b : Bool) (d : Device) where
  -- An idle part does nothing at a ninth fall.
  pub ninth-idle : d.talk.phase ≡ Idle → ninth_of k array b d ≡ d
  unfolding ninth_of
  ninth-idle e = ap (λ (p : Phase). ninth_in p k array b d) e

  -- A silent part does nothing at a ninth fall.
  pub ninth-silent : d.talk.phase ≡ Silent → ninth_of k array b d ≡ d
  unfolding ninth_of
  ninth-silent e = ap (λ (p : Phase). ninth_in p k array b d) e

  -- While the array is sent, a low ninth bit fetches the byte at the counter, a high one silences the part.
  pub ninth-send : d.talk.phase ≡ Send → ninth_of k array b d ≡ answered_by b k array d
  unfolding ninth_of
  ninth-send e = ap (λ (p : Phase). ninth_in p k array b d) e

  -- The ninth fall after a slave byte that asks for the register fetches it.
  pub ninth-register : d.talk.phase ≡ SendRegister → ninth_of k array b d ≡ fetch_register d
  unfolding ninth_of
  ninth-register e = ap (λ (p : Phase). ninth_in p k array b d) e
