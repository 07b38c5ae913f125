-- What two states beside each other show: where a sending has reached an unequal bit their answers differ, in the SDA
-- bit alone, and until then they are equal but for the byte being sent, and a sample leaves them beside each other.
-- Assumes nothing.
use Prim.Native.Nat.{ℕ, ◌+◌, ◌/◌, ◌%◌}
use mathlib.Core.Bool.{Bool, true, false, not, true≢false, beq}
use mathlib.Core.List.{List}
use mathlib.Core.Path.{◌≡◌, refl, ap, sym, ◌∙◌}
use native.Mathlib.Omega.{arith}
use lib.Dec.{eqb}
use borrow.Author.Tests.{eq-eqb, ne_eqb, not-true, not-false}
use Rattle.ground.specs.Cases.{or_zero}
use Rattle.ground.specs.Kind.{kind_of}
use Rattle.timers.specs.Timers.{writes}
use Rattle.part.specs.Bench.{part_of}
use Rattle.part.specs.declared.state.State.{State}
use Rattle.levels.specs.Level.{pin_by, answer_of}
use Rattle.sample.specs.Sample.{step_of}
use Rattle.demand3.specs.Sending.{Sent, nothing, sends, sent_of, bit_from}
use Rattle.demand3.specs.Differ.{reaches, elsewhere, EqualBut, SameButOut}
use Rattle.demand3.proofs.Sent.TwoArrays.{silenced}
use Rattle.demand3.proofs.Sent.OneSample.{sending_state, BothSend, Beside, equal, apart, step-equal, step-apart}

-- Bits that are equal are one bit.
same-one : (b c : Bool) → beq b c ≡ true → b ≡ c
same-one true true e = refl
same-one true false e = sym e
same-one false true e = e
same-one false false e = refl

-- States that are equal without the byte being sent are the same in all else.
pub same-but-out : (s t : State) → silenced s ≡ silenced t → SameButOut s t
same-but-out s t e =
    record {
      chip = ap (λ (x : State). x.chip) e;
      timers = ap (λ (x : State). x.timers) e;
      wire = ap (λ (x : State). x.wire) e;
      load = ap (λ (x : State). x.load) e;
      counter = ap (λ (x : State). x.device.counter) e;
      control = ap (λ (x : State). x.device.control) e;
      phase = ap (λ (x : State). x.device.talk.phase) e;
      high = ap (λ (x : State). x.device.talk.high) e;
      own = ap (λ (x : State). x.device.talk.own) e;
    }

-- A byte from elsewhere reaches nothing.
reach-none : (a : ℕ) (g h : Sent) → elsewhere a g ≡ true → reaches a g h ≡ false
reach-none a nothing h e = refl
reach-none a (sends b v m) nothing e = refl
reach-none a (sends b v m) (sends c w n) e = rw (not-true (eqb b a) e)

-- Two bytes from the address, the same bit being out, reach an unequal one.
reach-bit : (a v w n : ℕ) → reaches a (sends a v n) (sends a w n) ≡ not (beq (bit_from n v) (bit_from n w))
reach-bit a v w n = rw (eq-eqb a a refl, eq-eqb n n refl)

-- An answer byte of its three bits.
abbrev told : Bool → Bool → Bool → ℕ
told b r w = or_zero b 1 + or_zero r 2 + or_zero w 4

-- The first of them is its lowest bit, and the others are the rest of it.
told-parts : (b r w : Bool) → (told b r w % 2 ≡ or_zero b 1) × (told b r w / 2 ≡ or_zero r 1 + or_zero w 2)
told-parts true true true = (refl, refl)
told-parts true true false = (refl, refl)
told-parts true false true = (refl, refl)
told-parts true false false = (refl, refl)
told-parts false true true = (refl, refl)
told-parts false true false = (refl, refl)
told-parts false false true = (refl, refl)
told-parts false false false = (refl, refl)

-- Two answers with an unequal first bit differ in it.
told_line : (b c r w : Bool) → beq b c ≡ false → told b r w % 2 ≡ told c r w % 2 → ⊥
told_line true true r w d e = true≢false d
told_line true false r w d e = omega (arith, (told-parts true r w).0, (told-parts false r w).0)
told_line false true r w d e = omega (arith, (told-parts true r w).0, (told-parts false r w).0)
told_line false false r w d e = true≢false d

-- Two answers that are equal in the others differ just where the first bit is unequal.
told-differ : (b c r w t : Bool) → beq b c ≡ t → not (eqb (told b r w) (told c r w)) ≡ not t
told-differ b c r w true e =
    ap not (eq-eqb (told b r w) (told c r w) (ap (λ (x : Bool). told x r w) (same-one b c e)))
told-differ b c r w false e =
    ap not (ne_eqb (told b r w) (told c r w) (λ f. told_line b c r w e (ap (λ (n : ℕ). n % 2) f)))

-- Where the answers of two states differ in the SDA bit alone.
pub record LineApart (s t : State) : Type 0 where
  pub others : answer_of s / 2 ≡ answer_of t / 2
  pub line : answer_of s % 2 ≡ answer_of t % 2 → ⊥

module _ {a : ℕ} {s t : State} {g h : Sent} where
  -- Two states that both send reach an unequal bit where the bits that are out are unequal.
  both-reach : (c : BothSend a s t g h)
      → reaches a g h ≡ not (beq (bit_from c.bit c.one) (bit_from c.bit c.other))
  both-reach c = rw (c.sent, c.also) (reach-bit a c.one c.other c.bit)

  -- Until then the bit that is out is one.
  one_bit : (c : BothSend a s t g h) → reaches a g h ≡ false → bit_from c.bit c.one ≡ bit_from c.bit c.other
  one_bit c r =
      let b : Bool = bit_from c.bit c.one in
      let d : Bool = bit_from c.bit c.other in
      same-one b d (not-false (beq b d) (sym (both-reach c) ∙ r))

  -- Two states beside each other answer differently just where they reach an unequal bit.
  pub beside-answers : Beside a s t g h → not (eqb (answer_of s) (answer_of t)) ≡ reaches a g h
  unfolding answer_of
  beside-answers (equal e f o) = ap not (eq-eqb (answer_of s) (answer_of t) (ap answer_of e)) ∙ sym (reach-none a g h o)
  beside-answers (apart c) =
      let b : Bool = bit_from c.bit c.one in
      let d : Bool = bit_from c.bit c.other in
      let r : Bool = pin_by (kind_of c.base.chip.part).high c.base.timers.reset in
      (rw (c.here, c.there) (told-differ b d r (writes c.base.timers) (beq b d) refl)) ∙ sym (both-reach c)

  -- Where they reach one, they differ in the SDA bit alone.
  pub beside-line : Beside a s t g h → reaches a g h ≡ true → LineApart s t
  unfolding answer_of
  beside-line (equal e f o) x = absurd (true≢false (sym x ∙ reach-none a g h o))
  beside-line (apart c) x =
      let b : Bool = bit_from c.bit c.one in
      let d : Bool = bit_from c.bit c.other in
      let r : Bool = pin_by (kind_of c.base.chip.part).high c.base.timers.reset in
      let w : Bool = writes c.base.timers in
      let u = not-true (beq b d) (sym (both-reach c) ∙ x) in
      let same = (told-parts b r w).1 ∙ sym (told-parts d r w).1 in
      rw (c.here, c.there) record { others = same; line = told_line b d r w u }

  -- Until then they are equal but for the byte being sent.
  pub beside-silenced : Beside a s t g h → reaches a g h ≡ false → silenced s ≡ silenced t
  beside-silenced (equal e f o) x = ap silenced e
  beside-silenced (apart c) x =
      rw (c.here, c.there) (ap (λ (b : Bool). silenced (sending_state c.base b 0)) (one_bit c x))

  -- They are equal where what is sent comes from elsewhere.
  pub beside-equal : Beside a s t g h → elsewhere a g ≡ true → s ≡ t
  beside-equal (equal e f o) x = e
  beside-equal (apart c) x = absurd (true≢false (sym (rw (c.sent, eq-eqb a a refl) at x)))

  -- Until they reach an unequal bit, a sample leaves them beside each other.
  pub beside-step : {xs ys : List ℕ} → EqualBut a xs ys → (e level : ℕ) → Beside a s t g h → reaches a g h ≡ false
      → Beside a (step_of e level xs s) (step_of e level ys t)
      (sent_of e level (part_of s xs) g) (sent_of e level (part_of t ys) h)
  beside-step but e level (equal f i o) x = rw (← f, ← i) (step-equal but e level s g o)
  beside-step but e level (apart c) x =
      let b : Bool = bit_from c.bit c.one in
      let u = one_bit c x in
      rw (c.here, c.there, c.sent, c.also, ← u)
      (step-apart but b c.one c.other c.bit c.inside refl u e level c.base c.counted)
