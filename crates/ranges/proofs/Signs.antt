-- What a sign says of the wire it was seen on: the bits committed before and after it, and SCL low after a fall.
-- Assumes nothing.
use Prim.Native.Nat.{ℕ, ◌<◌}
use mathlib.Core.Bool.{Bool, true, false}
use mathlib.Core.Path.{◌≡◌, refl}
use native.Mathlib.Omega.{arith}
use lib.Dec.{eqb, ltb}
use borrow.Author.Tests.{ltb-true, ltb-false, eqb-true, eqb-false}
use Rattle.ground.specs.Numbers.{most_bits}
use Rattle.part.specs.declared.state.Frame.{Frame}
use Rattle.part.specs.declared.state.Wire.{Wire}
use Rattle.wire.specs.Sign.{all_but_one, fall_sign_by, fall_sign, fall_frame_by, fall_frame, sign_by, frame_by, sign_of, wire_of}
use Rattle.wire.specs.declared.Sign.{Sign}
use Rattle.wire.specs.declared.Sign.TheVariants.{Quiet, Start, Stop, Bit, Byte, Ninth}

-- The bits n before and m after a sign, and SCL after it.
abbrev pub Saw : Sign → ℕ → ℕ → Bool → Type 0
Saw Quiet n m scl = m ≡ n
Saw Start n m scl = m ≡ 0
Saw (Stop b) n m scl = m ≡ 0
Saw Bit n m scl = (m < most_bits) × (n < most_bits) × (scl ≡ false)
Saw (Byte v) n m scl = (m ≡ most_bits) × (n < most_bits) × (scl ≡ false)
Saw (Ninth b) n m scl = (m ≡ 0) × (scl ≡ false)

-- A fall of SCL, by its tests.
fall-saw : (h s e t : Bool) (f : Frame)
    → ltb f.bits all_but_one ≡ s → eqb f.bits all_but_one ≡ e → ltb f.bits most_bits ≡ t
    → Saw (fall_sign_by h s e f) f.bits (fall_frame_by h t f).bits false
fall-saw false s e t f p q r = refl
fall-saw true true e true f p q r =
    let a = ltb-true f.bits all_but_one p in
    (omega arith, omega arith, refl)
fall-saw true true e false f p q r =
    let a = ltb-true f.bits all_but_one p in
    let b = ltb-false f.bits most_bits r in
    absurd (omega arith)
fall-saw true false true true f p q r =
    let a = eqb-true f.bits all_but_one q in
    (omega arith, omega arith, refl)
fall-saw true false true false f p q r =
    let a = eqb-true f.bits all_but_one q in
    let b = ltb-false f.bits most_bits r in
    absurd (omega arith)
fall-saw true false false true f p q r =
    let a = ltb-false f.bits all_but_one p in
    let b = eqb-false f.bits all_but_one q in
    let c = ltb-true f.bits most_bits r in
    absurd (omega arith)
fall-saw true false false false f p q r = (refl, refl)

-- So says every fall.
fall-says : (f : Frame) → Saw (fall_sign f) f.bits (fall_frame f).bits false
unfolding fall_sign fall_frame
fall-says f =
    fall-saw f.held (ltb f.bits all_but_one) (eqb f.bits all_but_one) (ltb f.bits most_bits) f refl refl refl

-- A sample by the four levels.
sample-saw : (a b c d : Bool) (f : Frame) → Saw (sign_by a b c d f) f.bits (frame_by a b c d f).bits b
sample-saw true true true true f = refl
sample-saw true true true false f = refl
sample-saw true true false true f = refl
sample-saw true true false false f = refl
sample-saw true false c d f = fall-says f
sample-saw false true c d f = refl
sample-saw false false c d f = refl

-- So says every sample.
pub saw : (w : Wire) (scl sda : Bool) → Saw (sign_of w scl sda) w.frame.bits (wire_of w scl sda).frame.bits scl
unfolding sign_of wire_of
saw w scl sda = sample-saw w.lines.scl scl w.lines.sda sda w.frame
