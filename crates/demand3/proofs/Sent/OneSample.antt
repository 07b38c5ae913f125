-- Two states beside each other in one sample: equal, or both sending the byte fetched from one address, the same bit of
-- it being out. While that bit is equal the two see the same sign, and the sample leaves them so. Assumes nothing.
use Prim.Native.Nat.{ℕ, suc, ◌+◌, ◌<◌, ◌≤◌}
use mathlib.Core.Bool.{Bool, true, false, not, ◌&&◌}
use mathlib.Core.List.{List}
use mathlib.Core.Path.{◌≡◌, refl, ap, subst, ◌∙◌}
use native.Mathlib.Numerals.{add-one}
use native.Mathlib.Omega.{arith}
use lib.Dec.{eqb, ltb}
use borrow.Author.Tests.{ltb-true, ltb-false, eqb-true, eqb-false}
use Rattle.ground.specs.Numbers.{most_bits}
use Rattle.ground.specs.Kind.{kind_of}
use Rattle.page.specs.Page.{byte_at}
use Rattle.ground.specs.declared.kinds.Kind.{Kind}
use Rattle.part.specs.Bench.{part_of}
use Rattle.part.specs.declared.state.Control.{Control}
use Rattle.part.specs.declared.state.Frame.{Frame}
use Rattle.part.specs.declared.state.Phase.{Phase}
use Rattle.part.specs.declared.state.Phase.TheVariants.{Idle, Silent, Slave, High, Low, Data, Register, Send, SendRegister}
use Rattle.part.specs.declared.state.State.{State}
use Rattle.part.specs.declared.state.Wire.{Wire}
use Rattle.wire.specs.Sign.{all_but_one, fall_sign_by, fall_sign, fall_frame_by, fall_frame, sign_by, frame_by, sign_of, wire_of}
use Rattle.wire.specs.declared.Sign.{Sign}
use Rattle.wire.specs.declared.Sign.TheVariants.{Quiet, Start, Stop, Bit, Byte, Ninth}
use Rattle.part.specs.State.{with_control, with_device, with_talk}
use Rattle.address.specs.Talk.{sending}
use Rattle.device.specs.Bytes.{byte_of, kept_of}
use Rattle.bits.specs.Bits.{bit_of, fetch, ninth_in, ninth_of}
use Rattle.ends.specs.Ends.{started_of, stopped_of, ended_of}
use Rattle.levels.specs.Level.{scl_of, wp_of}
use Rattle.sample.specs.Sample.{opens_of, reset_of, start_of, stop_of, left_of, byte_step, heard_by, line_of, sign_in, wired_of, sees, seen_by, seen_of, goes_on_by, step_of}
use Rattle.demand3.specs.Sending.{Sent, nothing, sends, sends_array, fetched_by, next_sent, sent_by, sent_of, bit_from}
use Rattle.demand3.specs.Differ.{elsewhere, EqualBut}
use Rattle.demand3.proofs.Sent.SentBits.{shifted, bit-out}

-- The bits committed before and after each sign.
abbrev Counts : Sign → ℕ → ℕ → Type 0
Counts Quiet n m = m ≡ n
Counts Start n m = m ≡ 0
Counts (Stop k) n m = m ≡ 0
Counts Bit n m = (n < 7) × (m ≡ n + 1)
Counts (Byte v) n m = m ≡ n + 1
Counts (Ninth b) n m = m ≡ 0

-- A fall with a bit held, by its tests: they count the bits committed.
held-counts : (s e t : Bool) (f : Frame) → ltb f.bits all_but_one ≡ s → eqb f.bits all_but_one ≡ e
    → ltb f.bits most_bits ≡ t → Counts (fall_sign_by true s e f) f.bits (fall_frame_by true t f).bits
held-counts true e true f p q r = (ltb-true f.bits all_but_one p, refl)
held-counts true e false f p q r = absurd (omega (arith, ltb-true, ltb-false))
held-counts false true true f p q r = refl
held-counts false true false f p q r = absurd (omega (arith, eqb-true, ltb-false))
held-counts false false true f p q r =
    let d = eqb-false f.bits all_but_one q in
    absurd (omega (arith, ltb-false, ltb-true))
held-counts false false false f p q r = refl

-- A fall, by whether a bit is held.
fall-counts : (h : Bool) (f : Frame)
    → Counts (fall_sign_by h (ltb f.bits all_but_one) (eqb f.bits all_but_one) f) f.bits
    (fall_frame_by h (ltb f.bits most_bits) f).bits
fall-counts false f = refl
fall-counts true f =
    held-counts (ltb f.bits all_but_one) (eqb f.bits all_but_one) (ltb f.bits most_bits) f refl refl refl

-- The frame counts the bits of every sign.
sign-counts : (c n a b : Bool) (f : Frame) → Counts (sign_by c n a b f) f.bits (frame_by c n a b f).bits
unfolding fall_sign fall_frame
sign-counts true true true false f = refl
sign-counts true true false true f = refl
sign-counts true true true true f = refl
sign-counts true true false false f = refl
sign-counts true false a b f = fall-counts f.held f
sign-counts false true a b f = refl
sign-counts false false a b f = refl

-- A state that sends an array byte: the level that is out, and what is left of the byte.
abbrev pub sending_state : State → Bool → ℕ → State
sending_state s b x = with_device s (with_talk s.device (record { phase = Send; high = 0; out = x; own = b }))

-- Two states that send what their arrays held at the address, bit for bit, and are equal in all else.
pub record BothSend (a : ℕ) (s t : State) (g h : Sent) : Type 0 where
  pub base : State
  pub one : ℕ
  pub other : ℕ
  pub bit : ℕ
  pub inside : bit ≤ 7
  pub counted : base.wire.frame.bits ≡ bit
  pub here : s ≡ sending_state base (bit_from bit one) (shifted bit one)
  pub there : t ≡ sending_state base (bit_from bit other) (shifted bit other)
  pub sent : g ≡ sends a one bit
  pub also : h ≡ sends a other bit

-- Two states beside each other: equal, what is sent coming from elsewhere, or both sending.
pub data Beside (a : ℕ) (s t : State) (g h : Sent) : Type 0 where
  equal : s ≡ t → g ≡ h → elsewhere a g ≡ true → Beside a s t g h
  apart : BothSend a s t g h → Beside a s t g h

-- The next bit of a byte from elsewhere is from elsewhere.
next-elsewhere : (a : ℕ) (g : Sent) → elsewhere a g ≡ true → elsewhere a (next_sent g) ≡ true
next-elsewhere a nothing e = refl
next-elsewhere a (sends b v n) e = e

module _ {a : ℕ} {xs ys : List ℕ} (but : EqualBut a xs ys) where
  -- A fetch, by whether the counter is the address.
  fetch-by : (b : Bool) (c : State) (k : Kind) → eqb c.device.counter.0 a ≡ b → c.wire.frame.bits ≡ 0
      → Beside a (with_device c (fetch k xs c.device)) (with_device c (fetch k ys c.device))
      (fetched_by true xs c.device) (fetched_by true ys c.device)
  fetch-by true c k e n =
      let v : ℕ = byte_at xs c.device.counter in
      let w : ℕ = byte_at ys c.device.counter in
      let at_a = eqb-true c.device.counter.0 a e in
      apart record {
        base = with_device c (fetch k xs c.device);
        one = v;
        other = w;
        bit = 0;
        inside = omega arith;
        counted = n;
        here = refl;
        there = refl;
        sent = ap (λ (x : ℕ). sends x v 0) at_a;
        also = ap (λ (x : ℕ). sends x w 0) at_a;
      }
  fetch-by false c k e n =
      let same = but.others c.device.counter.0 (eqb-false c.device.counter.0 a e) in
      let f : ℕ → State = λ v. with_device c (with_talk (fetch k xs c.device) (sending Send v)) in
      equal (ap f same) (ap (λ (v : ℕ). sends c.device.counter.0 v 0) same) (ap not e)

  -- A fetch leaves two states beside each other.
  fetches : (c : State) (k : Kind) → c.wire.frame.bits ≡ 0
      → Beside a (with_device c (fetch k xs c.device)) (with_device c (fetch k ys c.device))
      (fetched_by true xs c.device) (fetched_by true ys c.device)
  fetches c k n = fetch-by (eqb c.device.counter.0 a) c k refl n

  -- So does a ninth fall, by phase; for what is being sent the control register does not count.
  ninth-beside : (p : Phase) (b : Bool) (c : State) (k : Kind) (m : Control) → c.wire.frame.bits ≡ 0
      → Beside a (with_device c (ninth_in p k xs b c.device)) (with_device c (ninth_in p k ys b c.device))
      (fetched_by (sends_array p && not b) xs (with_control c.device m))
      (fetched_by (sends_array p && not b) ys (with_control c.device m))
  ninth-beside Idle b c k m n = equal refl refl refl
  ninth-beside Silent b c k m n = equal refl refl refl
  ninth-beside Slave b c k m n = equal refl refl refl
  ninth-beside High b c k m n = equal refl refl refl
  ninth-beside Low b c k m n = equal refl refl refl
  ninth-beside Data b c k m n = equal refl refl refl
  ninth-beside Register b c k m n = equal refl refl refl
  ninth-beside Send true c k m n = equal refl refl refl
  ninth-beside Send false c k m n = fetches c k n
  ninth-beside SendRegister b c k m n = equal refl refl refl

  -- Equal states are beside each other after every sign.
  heard-equal : (sign : Sign) (wp : Bool) (c : State) (m : Control) (n : ℕ) (g : Sent)
      → Counts sign n c.wire.frame.bits → elsewhere a g ≡ true
      → Beside a (heard_by sign wp xs c) (heard_by sign wp ys c)
      (sent_by (sees sign) xs (with_control c.device m) g) (sent_by (sees sign) ys (with_control c.device m) g)
  unfolding ninth_of
  heard-equal Quiet wp c m n g i e = equal refl refl e
  heard-equal Start wp c m n g i e = equal refl refl refl
  heard-equal (Stop k) wp c m n g i e = equal refl refl refl
  heard-equal Bit wp c m n g i e = equal refl refl (next-elsewhere a g e)
  heard-equal (Byte v) wp c m n g i e = equal refl refl refl
  heard-equal (Ninth b) wp c m n g i e = ninth-beside c.device.talk.phase b c (kind_of c.chip.part) m i

  -- Equal states are beside each other after rule 3 or 4.
  goes-equal : (r : Bool) (e level : ℕ) (s : State) (g : Sent) → elsewhere a g ≡ true
      → Beside a (goes_on_by (seen_by r (sign_in level (opens_of e level s))) level xs (opens_of e level s)) (goes_on_by (seen_by r (sign_in level (opens_of e level s))) level ys (opens_of e level s))
      (sent_by (seen_by r (sign_in level (opens_of e level s))) xs s.device g)
      (sent_by (seen_by r (sign_in level (opens_of e level s))) ys s.device g)
  unfolding opens_of sign_in wired_of sign_of wire_of
  goes-equal true e level s g f = equal refl refl refl
  goes-equal false e level s g f =
      let w : Wire = s.wire in
      let o : State = opens_of e level s in
      let i = sign-counts w.lines.scl (scl_of level) w.lines.sda (line_of level s) w.frame in
      heard-equal (sign_in level o) (wp_of level) (wired_of level o) s.device.control w.frame.bits g i f

  -- Equal states are beside each other after a sample.
  pub step-equal : (e level : ℕ) (s : State) (g : Sent) → elsewhere a g ≡ true
      → Beside a (step_of e level xs s) (step_of e level ys s) (sent_of e level (part_of s xs) g) (sent_of e level (part_of s ys) g)
  unfolding step_of sent_of seen_of
  step-equal e level s g f = goes-equal (opens_of e level s).timers.reset e level s g f

module _ {a : ℕ} {xs ys : List ℕ} (but : EqualBut a xs ys)
    (b : Bool) (v w n : ℕ) (l : n ≤ 7) (p : b ≡ bit_from n v) (q : b ≡ bit_from n w) where
  -- States that send an equal bit are beside each other after every sign.
  heard-apart : (sign : Sign) (wp : Bool) (c : State) (m : Control) → Counts sign n c.wire.frame.bits
      → Beside a (heard_by sign wp xs (sending_state c b (shifted n v))) (heard_by sign wp ys (sending_state c b (shifted n w)))
      (sent_by (sees sign) xs (with_control (sending_state c b (shifted n v)).device m) (sends a v n))
      (sent_by (sees sign) ys (with_control (sending_state c b (shifted n w)).device m) (sends a w n))
  unfolding ninth_of bit_of byte_step byte_of kept_of start_of stop_of left_of started_of stopped_of
  heard-apart Quiet wp c m i =
      apart record {
        base = c;
        one = v;
        other = w;
        bit = n;
        inside = l;
        counted = i;
        here = ap (λ (x : Bool). sending_state c x (shifted n v)) p;
        there = ap (λ (x : Bool). sending_state c x (shifted n w)) q;
        sent = refl;
        also = refl;
      }
  heard-apart Start wp c m i = equal refl refl refl
  heard-apart (Stop k) wp c m i = equal refl refl refl
  heard-apart Bit wp c m i =
      apart record {
        base = c;
        one = v;
        other = w;
        bit = suc n;
        inside = i.0;
        counted = i.1 ∙ add-one n;
        here = ap (λ (x : Bool). sending_state c x (shifted (suc n) v)) (bit-out (suc n) v i.0);
        there = ap (λ (x : Bool). sending_state c x (shifted (suc n) w)) (bit-out (suc n) w i.0);
        sent = ap (λ (k : ℕ). sends a v k) (add-one n);
        also = ap (λ (k : ℕ). sends a w k) (add-one n);
      }
  heard-apart (Byte x) wp c m i = equal refl refl refl
  heard-apart (Ninth true) wp c m i = equal refl refl refl
  heard-apart (Ninth false) wp c m i = fetches but c (kind_of c.chip.part) i

  -- They are after rule 3 or 4.
  goes-apart : (r : Bool) (e level : ℕ) (s : State) → s.wire.frame.bits ≡ n
      → Beside a
      (goes_on_by (seen_by r (sign_in level (opens_of e level (sending_state s b (shifted n v))))) level xs (opens_of e level (sending_state s b (shifted n v))))
      (goes_on_by (seen_by r (sign_in level (opens_of e level (sending_state s b (shifted n w))))) level ys (opens_of e level (sending_state s b (shifted n w))))
      (sent_by (seen_by r (sign_in level (opens_of e level (sending_state s b (shifted n v))))) xs
      (sending_state s b (shifted n v)).device (sends a v n))
      (sent_by (seen_by r (sign_in level (opens_of e level (sending_state s b (shifted n w))))) ys
      (sending_state s b (shifted n w)).device (sends a w n))
  unfolding opens_of sign_in wired_of sign_of wire_of reset_of ended_of
  goes-apart true e level s i = equal refl refl refl
  goes-apart false e level s i =
      let o : State = opens_of e level (sending_state s b 0) in
      let f : Wire = s.wire in
      let j = sign-counts f.lines.scl (scl_of level) f.lines.sda (line_of level o) f.frame in
      let k = subst (λ (m : ℕ). Counts (sign_in level o) m (wired_of level o).wire.frame.bits) i j in
      heard-apart (sign_in level o) (wp_of level) (wired_of level o) s.device.control k

  -- They are after a sample.
  pub step-apart : (e level : ℕ) (s : State) → s.wire.frame.bits ≡ n
      → Beside a (step_of e level xs (sending_state s b (shifted n v))) (step_of e level ys (sending_state s b (shifted n w)))
      (sent_of e level (part_of (sending_state s b (shifted n v)) xs) (sends a v n))
      (sent_of e level (part_of (sending_state s b (shifted n w)) ys) (sends a w n))
  unfolding step_of sent_of opens_of seen_of
  step-apart e level s i = goes-apart (opens_of e level s).timers.reset e level s i
