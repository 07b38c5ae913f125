-- What a sample shows on the wire, by what it is to the loops. Assumes nothing.
use Prim.Native.Nat.{ℕ, ◌+◌, ◌<◌, ◌≤◌}
use mathlib.Core.Bool.{Bool, true, false, true≢false}
use mathlib.Core.Path.{◌≡◌, refl, sym, ap, ◌∙◌}
use native.Mathlib.Omega.{arith}
use lib.Dec.{ltb, eqb}
use borrow.Author.Tests.{lt-ltb, le-ltb, ltb-true, ltb-false, eqb-true, eqb-false}
use Rattle.part.specs.declared.state.Frame.{Frame}
use Rattle.part.specs.declared.state.Wire.{Wire}
use Rattle.wire.specs.Sign.{pushed, clean_frame, fall_sign_by, fall_sign, fall_frame, sign_by, frame_by, sign_of, wire_of}
use Rattle.wire.specs.declared.Sign.{Sign}
use Rattle.wire.specs.declared.Sign.TheVariants.{Quiet, Start, Stop, Bit, Byte, Ninth}
use Rattle.clocks.specs.Clocks.{turn_by}
use Rattle.clocks.specs.declared.turns.Turn.{Turn}

abbrev pub frame_from : Bool → Bool → ℕ → ℕ → Frame
frame_from held bit bits shift = record { held = held; bit = bit; bits = bits; shift = shift }

abbrev pub wire_from : Bool → Bool → Frame → Wire
wire_from scl sda f = record { lines = record { scl = scl; sda = sda }; frame = f }

-- A wire before, SCL and the SDA line: the sign, and the wire after.
pub record Sees (w : Wire) (c d : Bool) (sign : Sign) (w' : Wire) : Type 0 where
  pub shown : sign_of w c d ≡ sign
  pub left : wire_of w c d ≡ w'

pub never : {A : Type 0} → false ≡ true → A
never h = absurd (true≢false (sym h))

pub unlike : {A : Type 0} → ◌≡◌ {A = ℕ} 0 1 → A
unlike z = absurd (omega arith)

-- Sign and wire by the four levels.
module _ (f : Frame) where
  pub sees-by : (scl sda c d x y a b : Bool) → scl ≡ x → c ≡ y → sda ≡ a → d ≡ b
      → Sees (wire_from scl sda f) c d (sign_by x y a b f) (wire_from y b (frame_by x y a b f))
  unfolding sign_of wire_of
  sees-by scl sda c d x y a b p q r t = record { shown = rw (p, q, r, t); left = rw (p, q, r, t) }

  -- Both high and plain: nothing changes.
  plain-high : (a b : Bool) → turn_by (sign_by true true a b f) ≡ Turn.Plain
      → (sign_by true true a b f ≡ Quiet) × (frame_by true true a b f ≡ f)
  plain-high true true e = (refl, refl)
  plain-high false false e = (refl, refl)
  plain-high true false e = unlike (cc)
  plain-high false true e = unlike (cc)

  pub high-seen : (scl sda c d : Bool) → scl ≡ true → c ≡ true → turn_by (sign_of (wire_from scl sda f) c d) ≡ Turn.Plain
      → Sees (wire_from scl sda f) c d Quiet (wire_from c d f)
  high-seen scl sda c d p q e =
      let s = sees-by scl sda c d true true sda d p q refl refl in
      let h = plain-high sda d (sym (ap turn_by s.shown) ∙ e) in
      record { shown = s.shown ∙ h.0; left = s.left ∙ rw (h.1, q) }

  -- SCL low before: a rise takes the bit, else nothing.
  pub rise-seen : (scl sda c d : Bool) → scl ≡ false → c ≡ true
      → Sees (wire_from scl sda f) c d Quiet (wire_from c d (frame_from true d f.bits f.shift))
  rise-seen scl sda c d p q = rw (p, q) (sees-by false sda true d false true sda d refl refl refl refl)

  pub low-seen : (scl sda c d : Bool) → scl ≡ false → c ≡ false → Sees (wire_from scl sda f) c d Quiet (wire_from c d f)
  low-seen scl sda c d p q = rw (p, q) (sees-by false sda false d false false sda d refl refl refl refl)

-- A fall by the frame.
few : (h s e : Bool) (f : Frame) → h ≡ true → turn_by (fall_sign_by h s e f) ≡ Turn.Plain → s ≡ true
few false s e f k h = never k
few true true e f k h = refl
few true false true f k h = unlike (cc)
few true false false f k h = unlike (cc)

module _ (scl sda c d held bit : Bool) (bits shift : ℕ) (p : scl ≡ true) (q : c ≡ false) where
  abbrev f : Frame
  f = frame_from held bit bits shift

  abbrev before : Wire
  before = wire_from scl sda f

  fall-seen : Sees before c d (fall_sign f) (wire_from false d (fall_frame f))
  fall-seen = sees-by f scl sda c d true false sda d p q refl refl

  -- With no bit held.
  pub fall-none : held ≡ false → Sees before c d Quiet (wire_from c d f)
  unfolding fall_sign fall_frame
  fall-none h = record { shown = fall-seen.shown ∙ rw h; left = fall-seen.left ∙ rw (h, q) }

  -- A bit below the eighth.
  pub fall-few : held ≡ true → turn_by (sign_of before c d) ≡ Turn.Plain → bits < 7
  unfolding fall_sign
  fall-few h e = ltb-true bits 7 (few held (ltb bits 7) (eqb bits 7) f h (sym (ap turn_by fall-seen.shown) ∙ e))

  pub fall-bit : held ≡ true → bits < 7 → Sees before c d Bit (wire_from c d (frame_from false false (bits + 1) (pushed shift bit)))
  unfolding fall_sign fall_frame
  fall-bit h g =
      record { shown = fall-seen.shown ∙ rw (h, lt-ltb bits 7 g); left = fall-seen.left ∙ rw (h, lt-ltb bits 8 (omega arith), q) }

-- The turns of a fall, and those of a cut.
falls : Turn → Bool
falls Turn.Plain = false
falls Turn.Eighth = true
falls Turn.Ninth = true
falls Turn.Start = false
falls Turn.Stop = false
falls Turn.Other = false

cuts : Turn → Bool
cuts Turn.Plain = false
cuts Turn.Eighth = false
cuts Turn.Ninth = false
cuts Turn.Start = true
cuts Turn.Stop = true
cuts Turn.Other = false

fall-lines : (x y a b : Bool) (f : Frame) → falls (turn_by (sign_by x y a b f)) ≡ true → (x ≡ true) × (y ≡ false)
unfolding falls
fall-lines true true true true f h = unlike (cc)
fall-lines true true true false f h = unlike (cc)
fall-lines true true false true f h = unlike (cc)
fall-lines true true false false f h = unlike (cc)
fall-lines true false a b f h = (refl, refl)
fall-lines false y a b f h = unlike (cc)

eighth-by : (h s e : Bool) (f : Frame) → turn_by (fall_sign_by h s e f) ≡ Turn.Eighth → (h ≡ true) × (s ≡ false) × (e ≡ true)
eighth-by false s e f k = unlike (cc)
eighth-by true true e f k = unlike (cc)
eighth-by true false true f k = (refl, refl, refl)
eighth-by true false false f k = unlike (cc)

ninth-by : (h s e : Bool) (f : Frame) → turn_by (fall_sign_by h s e f) ≡ Turn.Ninth → (h ≡ true) × (s ≡ false) × (e ≡ false)
ninth-by false s e f k = unlike (cc)
ninth-by true true e f k = unlike (cc)
ninth-by true false true f k = unlike (cc)
ninth-by true false false f k = (refl, refl, refl)

fall-cuts-not : (h s e : Bool) (f : Frame) → cuts (turn_by (fall_sign_by h s e f)) ≡ false
unfolding cuts
fall-cuts-not false s e f = refl
fall-cuts-not true true e f = refl
fall-cuts-not true false true f = refl
fall-cuts-not true false false f = refl

no_cut : {A : Type 0} (f : Frame) (t : Turn) → cuts t ≡ true → turn_by (fall_sign f) ≡ t → A
unfolding fall_sign
no_cut f t h e =
    let k = fall-cuts-not f.held (ltb f.bits 7) (eqb f.bits 7) f in
    never (sym k ∙ ap cuts e ∙ h)

start-by : (x y a b : Bool) (f : Frame) → turn_by (sign_by x y a b f) ≡ Turn.Start
    → (sign_by x y a b f ≡ Start) × (wire_from y b (frame_by x y a b f) ≡ wire_from true false clean_frame)
unfolding cuts
start-by true true true true f h = unlike (cc)
start-by true true true false f h = (refl, refl)
start-by true true false true f h = unlike (cc)
start-by true true false false f h = unlike (cc)
start-by true false a b f h = no_cut f Turn.Start refl h
start-by false y a b f h = unlike (cc)

stop-by : (x y a b : Bool) (f : Frame) → turn_by (sign_by x y a b f) ≡ Turn.Stop
    → (sign_by x y a b f ≡ Stop f.bits) × (wire_from y b (frame_by x y a b f) ≡ wire_from true true clean_frame)
unfolding cuts
stop-by true true true true f h = unlike (cc)
stop-by true true true false f h = unlike (cc)
stop-by true true false true f h = (refl, refl)
stop-by true true false false f h = unlike (cc)
stop-by true false a b f h = no_cut f Turn.Stop refl h
stop-by false y a b f h = unlike (cc)

module _ (scl sda c d held bit : Bool) (bits shift : ℕ) where
  abbrev frame : Frame
  frame = frame_from held bit bits shift

  abbrev wire : Wire
  wire = wire_from scl sda frame

  seen : Sees wire c d (sign_by scl c sda d frame) (wire_from c d (frame_by scl c sda d frame))
  seen = sees-by frame scl sda c d scl c sda d refl refl refl refl

  fell : falls (turn_by (sign_of wire c d)) ≡ true → (scl ≡ true) × (c ≡ false)
  fell h = fall-lines scl c sda d frame (sym (ap (λ (x : Sign). falls (turn_by x)) seen.shown) ∙ h)

  -- An eighth fall, and the seven bits before it.
  eighth : turn_by (sign_of wire c d) ≡ Turn.Eighth → (held ≡ true) × (ltb bits 7 ≡ false) × (eqb bits 7 ≡ true)
  unfolding fall_sign falls
  eighth h =
      let l = fell (ap falls h) in
      eighth-by held (ltb bits 7) (eqb bits 7) frame (sym (ap turn_by (fall-seen scl sda c d held bit bits shift l.0 l.1).shown) ∙ h)

  pub eighth-bits : turn_by (sign_of wire c d) ≡ Turn.Eighth → eqb bits 7 ≡ true
  eighth-bits h = (eighth h).2

  pub eighth-seen : turn_by (sign_of wire c d) ≡ Turn.Eighth
      → Sees wire c d (Byte (pushed shift bit)) (wire_from false d (frame_from false false 8 (pushed shift bit)))
  unfolding fall_sign fall_frame falls
  eighth-seen h =
      let l = fell (ap falls h) in
      let s = fall-seen scl sda c d held bit bits shift l.0 l.1 in
      let b = eqb-true bits 7 (eighth-bits h) in
      record { shown = s.shown ∙ rw ((eighth h).0, b); left = s.left ∙ rw ((eighth h).0, b) }

  -- A ninth, and the eight before it.
  ninth : turn_by (sign_of wire c d) ≡ Turn.Ninth → (held ≡ true) × (ltb bits 7 ≡ false) × (eqb bits 7 ≡ false)
  unfolding fall_sign falls
  ninth h =
      let l = fell (ap falls h) in
      ninth-by held (ltb bits 7) (eqb bits 7) frame (sym (ap turn_by (fall-seen scl sda c d held bit bits shift l.0 l.1).shown) ∙ h)

  pub ninth-bits : turn_by (sign_of wire c d) ≡ Turn.Ninth → eqb bits 7 ≡ false
  ninth-bits h = (ninth h).2

  pub ninth-seen : turn_by (sign_of wire c d) ≡ Turn.Ninth → Sees wire c d (Ninth bit) (wire_from false d clean_frame)
  unfolding fall_sign fall_frame falls
  ninth-seen h =
      let l = fell (ap falls h) in
      let s = fall-seen scl sda c d held bit bits shift l.0 l.1 in
      let k = ninth h in
      let g : 7 ≤ bits = ltb-false bits 7 k.1 in
      let n : bits ≡ 7 → ⊥ = eqb-false bits 7 k.2 in
      let m : 8 ≤ bits = omega arith in
      record { shown = s.shown ∙ rw (k.0, k.1, k.2); left = s.left ∙ rw (k.0, le-ltb bits 8 m) }

  pub start_seen : turn_by (sign_of wire c d) ≡ Turn.Start → Sees wire c d Start (wire_from true false clean_frame)
  start_seen h =
      let k = start-by scl c sda d frame (sym (ap turn_by seen.shown) ∙ h) in
      record { shown = seen.shown ∙ k.0; left = seen.left ∙ k.1 }

  pub stop-seen : turn_by (sign_of wire c d) ≡ Turn.Stop → Sees wire c d (Stop bits) (wire_from true true clean_frame)
  stop-seen h =
      let k = stop-by scl c sda d frame (sym (ap turn_by seen.shown) ∙ h) in
      record { shown = seen.shown ∙ k.0; left = seen.left ∙ k.1 }
