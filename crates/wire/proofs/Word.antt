-- Laws of clocks and words on the two lines. Assumes nothing.
use Prim.Native.Nat.{ℕ, ◌+◌, ◌/◌, ◌%◌, ◌<◌}
use mathlib.Core.Bool.{Bool, true, false}
use mathlib.Core.List.{List, [], ◌∷◌, ◌++◌}
use mathlib.Core.Path.{◌≡◌, refl, ap, sym, ◌∙◌}
use native.Mathlib.Omega.{arith}
use native.Mathlib.Nat.{div-div-eq-div-mul}
use borrow.Author.Tests.{lt-ltb, eqb-true, eqb-false}
use Rattle.ground.specs.Numbers.{most_bits}
use Rattle.ground.specs.Cases.{odd}
use Rattle.part.specs.declared.state.Frame.{Frame}
use Rattle.part.specs.declared.state.Wire.{Wire}
use Rattle.wire.specs.Sign.{pushed, clean_frame, fall_sign, fall_frame, sign_of, wire_of}
use Rattle.wire.specs.declared.Sign.{Sign}
use Rattle.wire.specs.declared.Sign.TheVariants.{Quiet, Bit, Byte, Ninth}

-- A fall with no bit held shows nothing.
pub fall-quiet : (f : Frame) → f.held ≡ false → fall_sign f ≡ Quiet
unfolding fall_sign
fall-quiet f e = rw e

-- A fall with no bit held leaves the frame.
pub fall-leaves : (f : Frame) → f.held ≡ false → fall_frame f ≡ f
unfolding fall_frame
fall-leaves f e = rw e

-- A fall below the eighth with a bit held shows a bit.
pub fall-bit : (f : Frame) → f.held ≡ true → f.bits < 7 → fall_sign f ≡ Bit
unfolding fall_sign
fall-bit f e h = rw (e, lt-ltb f.bits 7 h)

-- The eighth fall with a bit held shows the byte.
pub fall-byte : (f : Frame) → f.held ≡ true → f.bits ≡ 7 → fall_sign f ≡ Byte (pushed f.shift f.bit)
unfolding fall_sign
fall-byte f e h = rw (e, h)

-- The ninth fall with a bit held shows that bit.
pub fall-ninth : (f : Frame) → f.held ≡ true → f.bits ≡ 8 → fall_sign f ≡ Ninth f.bit
unfolding fall_sign
fall-ninth f e h = rw (e, h)

-- Up to the eighth fall the bit held is added.
pub fall-adds : (f : Frame) → f.held ≡ true → f.bits < most_bits
    → fall_frame f ≡ record { held = false; bit = false; bits = f.bits + 1; shift = pushed f.shift f.bit }
unfolding fall_frame
fall-adds f e h = rw (e, lt-ltb f.bits most_bits h)

-- The ninth fall cleans the frame.
pub fall-cleans : (f : Frame) → f.held ≡ true → f.bits ≡ most_bits → fall_frame f ≡ clean_frame
unfolding fall_frame
fall-cleans f e h = rw (e, h)

-- Half a byte and its lowest bit give the byte.
pub push-half : (s v : ℕ) → s ≡ v / 2 → v < 256 → pushed s (odd v) ≡ v
push-half s v e h = go (odd v) refl
  where
    go : (b : Bool) → odd v ≡ b → pushed s b ≡ v
    go true o = omega (arith, eqb-true (v % 2) 1 o)
    go false o = omega (arith, eqb-false (v % 2) 1 o)

-- Bits pushed one after another.
abbrev pub pushed_all : ℕ → List Bool → ℕ
pushed_all s [] = s
pushed_all s (b ∷ bs) = pushed_all (pushed s b) bs

-- The eight bits of a byte, highest first.
abbrev pub bits_of : ℕ → List Bool
bits_of v = odd (v / 128) ∷ odd (v / 64) ∷ odd (v / 32) ∷ odd (v / 16) ∷ odd (v / 8) ∷ odd (v / 4) ∷ odd (v / 2) ∷ odd v ∷ []

-- The eight bits of a byte, pushed from 0, give the byte.
pub push-byte : (v : ℕ) → v < 256 → pushed_all 0 (bits_of v) ≡ v
push-byte v h =
    rw (
      push-half 0 (v / 128) (omega arith) (omega arith),
      push-half (v / 128) (v / 64) (sym (div-div-eq-div-mul v 64 2)) (omega arith),
      push-half (v / 64) (v / 32) (sym (div-div-eq-div-mul v 32 2)) (omega arith),
      push-half (v / 32) (v / 16) (sym (div-div-eq-div-mul v 16 2)) (omega arith),
      push-half (v / 16) (v / 8) (sym (div-div-eq-div-mul v 8 2)) (omega arith),
      push-half (v / 8) (v / 4) (sym (div-div-eq-div-mul v 4 2)) (omega arith),
      push-half (v / 4) (v / 2) (sym (div-div-eq-div-mul v 2 2)) (omega arith),
      push-half (v / 2) v refl h,
    )

-- A clock: the line while SCL is high, and the line when SCL has fallen.
pub record Clock : Type 0 where
  pub bit : Bool
  pub next : Bool

-- The wire with SCL high in a clock: the line is set while SCL is low, then SCL rises.
abbrev pub raised : Wire → Bool → Wire
raised w b = wire_of (wire_of w false b) true b

-- The frame with a bit held.
abbrev pub holding : Bool → Frame → Frame
holding b f = record { held = true; bit = b; bits = f.bits; shift = f.shift }

module _ (w : Wire) (low : w.lines.scl ≡ false) where
  -- A clock shows nothing while its line is set.
  pub clock-set : (b : Bool) → sign_of w false b ≡ Quiet
  unfolding sign_of
  clock-set b = rw low

  -- It shows nothing at its rise.
  pub clock-rise : (b : Bool) → sign_of (wire_of w false b) true b ≡ Quiet
  unfolding sign_of wire_of
  clock-rise b = refl

  -- The fall of a clock shows what the frame with the clock's bit held commits.
  pub clock-fall : (b c : Bool) → sign_of (raised w b) false c ≡ fall_sign (holding b w.frame)
  unfolding sign_of wire_of
  clock-fall b c = rw low

  -- A clock leaves SCL low, the next line, and the frame after that fall.
  pub clock-wire : (b c : Bool)
      → wire_of (raised w b) false c ≡ record { lines = record { scl = false; sda = c }; frame = fall_frame (holding b w.frame) }
  unfolding wire_of
  clock-wire b c = rw low

-- The wire after a clock.
abbrev pub ticked : Clock → Wire → Wire
ticked c w = wire_of (raised w c.bit) false c.next

-- The wire after clocks.
abbrev pub clocked : List Clock → Wire → Wire
clocked [] w = w
clocked (c ∷ cs) w = clocked cs (ticked c w)

-- The signs at their falls.
abbrev pub falls : List Clock → Wire → List Sign
falls [] w = []
falls (c ∷ cs) w = sign_of (raised w c.bit) false c.next ∷ falls cs (ticked c w)

-- The bits of clocks.
abbrev pub bits_in : List Clock → List Bool
bits_in [] = []
bits_in (c ∷ cs) = c.bit ∷ bits_in cs

-- The frame after bits were held and committed.
abbrev pub framed : List Bool → Frame → Frame
framed [] f = f
framed (b ∷ bs) f = framed bs (fall_frame (holding b f))

-- What their falls show.
abbrev pub shown : List Bool → Frame → List Sign
shown [] f = []
shown (b ∷ bs) f = fall_sign (holding b f) ∷ shown bs (fall_frame (holding b f))

-- Clocks leave SCL low.
pub clocked-low : (cs : List Clock) (w : Wire) → w.lines.scl ≡ false → (clocked cs w).lines.scl ≡ false
unfolding wire_of
clocked-low [] w low = low
clocked-low (c ∷ cs) w low = clocked-low cs (ticked c w) refl

-- Only the bits of clocks make the frame.
pub clocked-frame : (cs : List Clock) (w : Wire) → w.lines.scl ≡ false → (clocked cs w).frame ≡ framed (bits_in cs) w.frame
unfolding wire_of
clocked-frame [] w low = refl
clocked-frame (c ∷ cs) w low =
    clocked-frame cs (ticked c w) refl ∙ ap (λ (x : Wire). framed (bits_in cs) x.frame) (clock-wire w low c.bit c.next)

-- Only the bits of clocks make their signs.
pub clocked-falls : (cs : List Clock) (w : Wire) → w.lines.scl ≡ false → falls cs w ≡ shown (bits_in cs) w.frame
unfolding wire_of
clocked-falls [] w low = refl
clocked-falls (c ∷ cs) w low =
    let f : sign_of (raised w c.bit) false c.next ≡ fall_sign (holding c.bit w.frame) = clock-fall w low c.bit c.next in
    let r : falls cs (ticked c w) ≡ shown (bits_in cs) (fall_frame (holding c.bit w.frame)) =
    clocked-falls cs (ticked c w) refl ∙ ap (λ (x : Wire). shown (bits_in cs) x.frame) (clock-wire w low c.bit c.next) in
    cc

-- Eight bits from the clean frame show a bit seven times and then the byte that they are.
pub shown-byte : (v : ℕ) → v < 256 → shown (bits_of v) clean_frame ≡ Bit ∷ Bit ∷ Bit ∷ Bit ∷ Bit ∷ Bit ∷ Bit ∷ Byte v ∷ []
unfolding fall_sign fall_frame
shown-byte v h = ap (λ (x : ℕ). Bit ∷ Bit ∷ Bit ∷ Bit ∷ Bit ∷ Bit ∷ Bit ∷ Byte x ∷ []) (push-byte v h)

module _ (v : ℕ) (small : v < 256) (w : Wire) (low : w.lines.scl ≡ false) (clean : w.frame ≡ clean_frame) where
  -- Eight clocks with the bits of a byte show a bit seven times and then the byte.
  pub word_byte : (cs : List Clock) → bits_in cs ≡ bits_of v
      → falls cs w ≡ Bit ∷ Bit ∷ Bit ∷ Bit ∷ Bit ∷ Bit ∷ Bit ∷ Byte v ∷ []
  word_byte cs e = clocked-falls cs w low ∙ (rw (e, clean) (shown-byte v small))

  -- They leave a frame of eight bits.
  pub word-frame : (cs : List Clock) → bits_in cs ≡ bits_of v → (clocked cs w).frame ≡ record { held = false; bit = false; bits = 8; shift = v }
  unfolding fall_frame
  word-frame cs e =
      clocked-frame cs w low ∙ (rw (e, clean) (ap (λ (x : ℕ). record { held = false; bit = false; bits = 8; shift = x }) (push-byte v small)))

  -- With a ninth clock they show its bit last.
  pub word-signs : (cs : List Clock) (b : Bool) → bits_in cs ≡ bits_of v ++ b ∷ []
      → falls cs w ≡ Bit ∷ Bit ∷ Bit ∷ Bit ∷ Bit ∷ Bit ∷ Bit ∷ Byte v ∷ Ninth b ∷ []
  unfolding fall_sign fall_frame
  word-signs cs b e =
      clocked-falls cs w low
      ∙ (rw (e, clean) (ap (λ (x : ℕ). Bit ∷ Bit ∷ Bit ∷ Bit ∷ Bit ∷ Bit ∷ Bit ∷ Byte x ∷ Ninth b ∷ []) (push-byte v small)))

  -- With a ninth clock they leave the clean frame.
  pub word-clean : (cs : List Clock) (b : Bool) → bits_in cs ≡ bits_of v ++ b ∷ [] → (clocked cs w).frame ≡ clean_frame
  unfolding fall_frame
  word-clean cs b e = clocked-frame cs w low ∙ (rw (e, clean))

-- After eight bits a clock shows its bit as the ninth.
pub ninth-sign : (w : Wire) (c : Clock) → w.lines.scl ≡ false → w.frame.bits ≡ most_bits
    → sign_of (raised w c.bit) false c.next ≡ Ninth c.bit
ninth-sign w c low e = clock-fall w low c.bit c.next ∙ fall-ninth (holding c.bit w.frame) refl e

-- It leaves SCL low and the clean frame.
pub ninth-wire : (w : Wire) (c : Clock) → w.lines.scl ≡ false → w.frame.bits ≡ most_bits
    → ticked c w ≡ record { lines = record { scl = false; sda = c.next }; frame = clean_frame }
ninth-wire w c low e = clock-wire w low c.bit c.next ∙ (rw (fall-cleans (holding c.bit w.frame) refl e))
