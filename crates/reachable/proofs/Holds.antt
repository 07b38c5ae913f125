-- What holds of every sample that a reachable part is given: no start and no stop while it holds SDA low, no stop from the
-- eighth fall of a byte that it keeps to the ninth, marks only in the counter's page, and SDA released where the sending of
-- a byte ends. Assumes nothing.
use Prim.Native.Nat.{ℕ, ◌<◌, ◌≤◌}
use mathlib.Core.Bool.{Bool, true, false, true≢false, ◌&&◌}
use mathlib.Core.List.{List}
use mathlib.Core.Path.{◌≡◌, refl, ap, sym, ◌∙◌}
use native.Mathlib.Omega.{arith}
use Rattle.std.proofs.lemmas.Bool.{and_right}
use lib.Dec.{eqb, ltb}
use lib.ListN.{get_or, set, get_or-replicate, get_or-eq_default}
use lib.Seq.{get_or-set_other}
use borrow.Author.Tests.{ltb-true, ltb-false, eqb-true, eqb-false}
use Rattle.ground.specs.Numbers.{page_size, most_bits}
use Rattle.ground.specs.Kind.{kind_of}
use Rattle.page.specs.Page.{page_of, in_page, empty_load, marked}
use Rattle.ground.specs.declared.kinds.Kind.{Kind}
use Rattle.part.specs.declared.state.Frame.{Frame}
use Rattle.part.specs.declared.state.Phase.{Phase}
use Rattle.part.specs.declared.state.Phase.TheVariants.{Idle, Silent, Slave, High, Low, Data, Register, Send, SendRegister}
use Rattle.part.specs.declared.state.Device.{Device}
use Rattle.part.specs.declared.state.Load.{Load}
use Rattle.part.specs.declared.state.Place.{Place}
use Rattle.part.specs.declared.state.State.{State}
use Rattle.part.specs.declared.state.Talk.{Talk}
use Rattle.part.specs.declared.state.Wire.{Wire}
use Rattle.page.proofs.Places.{page-stays}
use Rattle.part.specs.State.{with_wire}
use Rattle.wire.specs.Sign.{all_but_one, fall_sign_by, fall_sign, sign_by, sign_of, wire_of}
use Rattle.wire.specs.declared.Sign.{Sign}
use Rattle.wire.specs.declared.Sign.TheVariants.{Quiet, Start, Stop, Bit, Byte, Ninth}
use Rattle.device.specs.Bytes.{taken_of, data_by, byte_in, byte_of, kept_by, expects_data, kept_of}
use Rattle.bits.specs.Bits.{bit_in, bit_of, ninth_in, ninth_of}
use Rattle.bits.proofs.Phases.{bit-stays, ninth-releases}
use Rattle.ends.specs.Ends.{started_of, stopped_of, ended_of, keeps_for_stop}
use Rattle.levels.specs.Level.{scl_of, sda_of, wp_of}
use Rattle.sample.specs.Sample.{opens_of, reset_of, start_of, stop_of, left_of, byte_step, heard_by, line_of, sign_in, wired_of, Seen, unseen, sees, seen_by, seen_of, goes_on_by, step_of}
use Rattle.sample.specs.Run.{Part, part_step}
use Rattle.ranges.proofs.Signs.{Saw, saw}
use Rattle.ranges.proofs.InRange.{range-within}
use Rattle.reachable.specs.Reachable.{Reachable, speaks, sends_now, Holds}
use Rattle.reachable.proofs.Kept.Acknowledges.{stop-bits}
use Rattle.reachable.proofs.Kept.Steps.{Sits}
use Rattle.reachable.proofs.Reachable.{Stands, reachable-stands, sends-now, now-sends}

-- The two signs that begin and end a talk.
abbrev is_end : Sign → Bool
is_end Quiet = false
is_end Start = true
is_end (Stop n) = true
is_end Bit = false
is_end (Byte v) = false
is_end (Ninth b) = false

-- A fall is none of them.
fall-inside : (h s e : Bool) (f : Frame) → is_end (fall_sign_by h s e f) ≡ false
fall-inside false s e f = refl
fall-inside true true e f = refl
fall-inside true false true f = refl
fall-inside true false false f = refl

-- Nor is what is seen on a line that is low, and was low if SCL was high.
low-inside : (a b c d : Bool) (f : Frame) → d ≡ false → (a ≡ true → c ≡ false) → is_end (sign_by a b c d f) ≡ false
unfolding fall_sign
low-inside true true true true f e h = cc
low-inside true true true false f e h = cc (h refl)
low-inside true true false true f e h = cc
low-inside true true false false f e h = refl
low-inside true false c d f e h = fall-inside f.held (ltb f.bits all_but_one) (eqb f.bits all_but_one) f
low-inside false b c d f e h = refl

-- Nor is what a part sees that holds SDA low.
held-inside : (e level : ℕ) (s : State) → Sits s → s.device.talk.own ≡ false
    → is_end (sign_in level (opens_of e level s)) ≡ false
unfolding sign_in opens_of sign_of
held-inside e level s g o =
    low-inside s.wire.lines.scl (scl_of level) s.wire.lines.sda (line_of level s) s.wire.frame
    (and_right (sda_of level) s.device.talk.own o) (g.line o)

-- Marks and counter before and after: a mark comes only at the counter's place, and where one is set the page stays.
record Stays (c : Place) (l : Load) (c' : Place) (l' : Load) : Type 0 where
  mark : (i : ℕ) → get_or l.marks i false ≡ false → get_or l'.marks i false ≡ true → i ≡ in_page c
  page : marked l' ≡ true → page_of c' ≡ page_of c

-- An empty load has no mark.
empty-unmarked : (i : ℕ) → get_or empty_load.marks i false ≡ false
empty-unmarked i = go (ltb i page_size) refl
  where
    go : (b : Bool) → ltb i page_size ≡ b → get_or empty_load.marks i false ≡ false
    go true e = get_or-replicate page_size i false false (ltb-true i page_size e)
    go false e = get_or-eq_default empty_load.marks false (ltb-false i page_size e)

-- So they stay where the load is dropped.
dropped-stays : (c c' : Place) (l : Load) → Stays c l c' empty_load
dropped-stays c c' l =
    record { mark = λ i a b. absurd (true≢false (sym b ∙ empty-unmarked i)); page = λ e. absurd (true≢false (sym e)) }

-- A mark set at one place shows at no other.
set-mark : (ms : List Bool) (i j : ℕ) → get_or ms i false ≡ false → get_or (set ms j true) i false ≡ true → i ≡ j
set-mark ms i j a b = go (eqb i j) refl
  where
    go : (t : Bool) → eqb i j ≡ t → i ≡ j
    go true e = eqb-true i j e
    go false e = absurd (true≢false (sym b ∙ get_or-set_other ms j i true false (eqb-false i j e) ∙ a))

module _ (k : Kind) (d : Device) (l : Load) (x : marked l ≡ true → d.talk.phase ≡ Data) where
  -- Where the load stays, the counter has to stay only in the phase of data.
  load-stays : (c' : Place) → (d.talk.phase ≡ Data → c' ≡ d.counter) → Stays d.counter l c' l
  load-stays c' h = record { mark = λ i a b. cc; page = λ e. ap page_of (h (x e)) }

  -- An array byte.
  data-stays : (b : Bool) (v : ℕ) → Stays d.counter l (data_by b d).counter (kept_by b d v l)
  data-stays true v =
      record { mark = λ i a b. set-mark l.marks i (in_page d.counter) a b; page = λ e. page-stays d.counter }
  data-stays false v = load-stays d.counter (λ e. refl)

  -- A byte, by phase.
  byte-stays : (p : Phase) (s v : ℕ) → d.talk.phase ≡ p
      → Stays d.counter l (byte_in p k s d v).counter (kept_by (expects_data p && taken_of k d) d v l)
  byte-stays Idle s v e = load-stays (byte_in Idle k s d v).counter (λ f. cc)
  byte-stays Silent s v e = load-stays (byte_in Silent k s d v).counter (λ f. cc)
  byte-stays Slave s v e = load-stays (byte_in Slave k s d v).counter (λ f. cc)
  byte-stays High s v e = load-stays (byte_in High k s d v).counter (λ f. cc)
  byte-stays Low s v e = load-stays (byte_in Low k s d v).counter (λ f. cc)
  byte-stays Data s v e = data-stays (taken_of k d) v
  byte-stays Register s v e = load-stays (byte_in Register k s d v).counter (λ f. cc)
  byte-stays Send s v e = load-stays (byte_in Send k s d v).counter (λ f. cc)
  byte-stays SendRegister s v e = load-stays (byte_in SendRegister k s d v).counter (λ f. cc)

-- Each sign.
heard-stays : (sign : Sign) (wp : Bool) (array : List ℕ) (s : State)
    → (marked s.load ≡ true → s.device.talk.phase ≡ Data)
    → Stays s.device.counter s.load (heard_by sign wp array s).device.counter (heard_by sign wp array s).load
unfolding start_of stop_of left_of byte_step byte_of kept_of
heard-stays Quiet wp array s x = load-stays (kind_of s.chip.part) s.device s.load x s.device.counter (λ e. refl)
heard-stays Start wp array s x = dropped-stays s.device.counter (start_of s).device.counter s.load
heard-stays (Stop n) wp array s x = dropped-stays s.device.counter (stop_of wp (left_of n s)).device.counter s.load
heard-stays Bit wp array s x =
    load-stays (kind_of s.chip.part) s.device s.load x (bit_of s.device).counter (λ e. rw (bit-stays s.device (cc)))
heard-stays (Byte v) wp array s x =
    byte-stays (kind_of s.chip.part) s.device s.load x s.device.talk.phase s.chip.select v refl
heard-stays (Ninth b) wp array s x =
    load-stays (kind_of s.chip.part) s.device s.load x (ninth_of (kind_of s.chip.part) array b s.device).counter
    (λ e. rw (ninth-releases (kind_of s.chip.part) array b s.device (cc)))

-- Rules 3 and 4.
goes-stays : (x : Seen) (level : ℕ) (array : List ℕ) (s : State)
    → (marked s.load ≡ true → s.device.talk.phase ≡ Data)
    → Stays s.device.counter s.load (goes_on_by x level array s).device.counter (goes_on_by x level array s).load
unfolding reset_of wired_of
goes-stays unseen level array s h = dropped-stays s.device.counter (reset_of level s).device.counter s.load
goes-stays (sees sign) level array s h = heard-stays sign (wp_of level) array (wired_of level s) h

-- A sample.
step_stays : (e level : ℕ) (array : List ℕ) (s : State) → (marked s.load ≡ true → s.device.talk.phase ≡ Data)
    → Stays s.device.counter s.load (step_of e level array s).device.counter (step_of e level array s).load
unfolding step_of opens_of
step_stays e level array s x = goes-stays (seen_of level (opens_of e level s)) level array (opens_of e level s) x

-- A talk that was sending a byte, after a sample: it still does, so many bits committed, or SDA is released.
data Ends (t : Talk) (m : ℕ) : Type 0 where
  goes_on : speaks t.phase ≡ true → m < most_bits → Ends t m
  releases : t.own ≡ true → Ends t m

-- A bit of it goes on.
bit-speaks : (p : Phase) (d : Device) → speaks p ≡ true → speaks (bit_in p d).talk.phase ≡ true
bit-speaks Idle d e = absurd (true≢false (sym e))
bit-speaks Silent d e = absurd (true≢false (sym e))
bit-speaks Slave d e = absurd (true≢false (sym e))
bit-speaks High d e = absurd (true≢false (sym e))
bit-speaks Low d e = absurd (true≢false (sym e))
bit-speaks Data d e = absurd (true≢false (sym e))
bit-speaks Register d e = absurd (true≢false (sym e))
bit-speaks Send d e = refl
bit-speaks SendRegister d e = refl

-- Its eighth fall releases SDA.
byte-releases : (p : Phase) (k : Kind) (s v : ℕ) (d : Device) → speaks p ≡ true → (byte_in p k s d v).talk.own ≡ true
byte-releases Idle k s v d e = absurd (true≢false (sym e))
byte-releases Silent k s v d e = absurd (true≢false (sym e))
byte-releases Slave k s v d e = absurd (true≢false (sym e))
byte-releases High k s v d e = absurd (true≢false (sym e))
byte-releases Low k s v d e = absurd (true≢false (sym e))
byte-releases Data k s v d e = absurd (true≢false (sym e))
byte-releases Register k s v d e = absurd (true≢false (sym e))
byte-releases Send k s v d e = refl
byte-releases SendRegister k s v d e = refl

-- A ninth fall fetches a byte, or the part is silent.
ninth-ends : (p : Phase) (b : Bool) (k : Kind) (array : List ℕ) (d : Device) (m : ℕ) → speaks p ≡ true → m < most_bits
    → Ends (ninth_in p k array b d).talk m
ninth-ends Idle b k array d m e h = absurd (true≢false (sym e))
ninth-ends Silent b k array d m e h = absurd (true≢false (sym e))
ninth-ends Slave b k array d m e h = absurd (true≢false (sym e))
ninth-ends High b k array d m e h = absurd (true≢false (sym e))
ninth-ends Low b k array d m e h = absurd (true≢false (sym e))
ninth-ends Data b k array d m e h = absurd (true≢false (sym e))
ninth-ends Register b k array d m e h = absurd (true≢false (sym e))
ninth-ends Send false k array d m e h = goes_on refl h
ninth-ends Send true k array d m e h = releases refl
ninth-ends SendRegister b k array d m e h = goes_on refl h

-- Each sign.
heard-ends : (sign : Sign) (wp : Bool) (array : List ℕ) (s : State) (w : Wire)
    → Saw sign s.wire.frame.bits w.frame.bits w.lines.scl
    → speaks s.device.talk.phase ≡ true → s.wire.frame.bits < most_bits
    → Ends (heard_by sign wp array (with_wire s w)).device.talk (heard_by sign wp array (with_wire s w)).wire.frame.bits
unfolding start_of started_of stop_of stopped_of left_of byte_step bit_of byte_of ninth_of
heard-ends Quiet wp array s w e a n = goes_on a (omega arith)
heard-ends Start wp array s w e a n = releases refl
heard-ends (Stop b) wp array s w e a n = releases refl
heard-ends Bit wp array s w e a n = goes_on (bit-speaks s.device.talk.phase s.device a) e.0
heard-ends (Byte v) wp array s w e a n =
    releases (byte-releases s.device.talk.phase (kind_of s.chip.part) s.chip.select v s.device a)
heard-ends (Ninth b) wp array s w e a n =
    ninth-ends s.device.talk.phase b (kind_of s.chip.part) array s.device w.frame.bits a (omega (arith, e.0))

-- Rules 3 and 4, by whether reset is active.
goes-ends : (b : Bool) (level : ℕ) (array : List ℕ) (s : State) → speaks s.device.talk.phase ≡ true
    → s.wire.frame.bits < most_bits
    → Ends (goes_on_by (seen_by b (sign_in level s)) level array s).device.talk
    (goes_on_by (seen_by b (sign_in level s)) level array s).wire.frame.bits
unfolding reset_of ended_of sign_in wired_of wire_of
goes-ends true level array s a n = releases refl
goes-ends false level array s a n =
    heard-ends (sign_in level s) (wp_of level) array s (wire_of s.wire (scl_of level) (line_of level s))
    (saw s.wire (scl_of level) (line_of level s)) a n

-- A sample.
step-ends : (e level : ℕ) (array : List ℕ) (s : State) → speaks s.device.talk.phase ≡ true
    → s.wire.frame.bits < most_bits
    → Ends (step_of e level array s).device.talk (step_of e level array s).wire.frame.bits
unfolding step_of opens_of seen_of
step-ends e level array s a n = goes-ends (opens_of e level s).timers.reset level array (opens_of e level s) a n

-- Where the sending has ended, SDA is released.
ended-released : (s : State) → Ends s.device.talk s.wire.frame.bits → sends_now s ≡ false → s.device.talk.own ≡ true
ended-released s (goes_on a b) e = absurd (true≢false (sym (sends-now s a b) ∙ e))
ended-released s (releases a) e = a

-- A stop that is seen has not all eight bits of a byte committed that is kept for it: the part would hold SDA low.
stop-within : (e level n : ℕ) (s : State) → Sits s → s.wire.frame.bits ≤ most_bits → keeps_for_stop s.device.talk.phase ≡ true
    → sign_in level (opens_of e level s) ≡ Stop n → n < most_bits
unfolding sign_in opens_of
stop-within e level n s g b x f =
    let t = stop-bits s.wire (scl_of level) (line_of level s) n f in
    go (eqb n most_bits) refl t
  where
    go : (y : Bool) → eqb n most_bits ≡ y → n ≡ s.wire.frame.bits → n < most_bits
    go true y t =
        absurd (true≢false (sym (ap is_end f) ∙ held-inside e level s g (g.acks x (sym t ∙ eqb-true n most_bits y))))
    go false y t = let z = eqb-false n most_bits y in omega arith

-- So it is of every part that stands so.
stands-holds : (p : Part) → Stands p → Holds p
unfolding part_step
stands-holds p t =
    let g = t.sits in
    record {
      size = t.fit.size;
      start = λ e level o f. true≢false (sym (ap is_end f) ∙ held-inside e level p.state g o);
      stop = λ e level n o f. true≢false (sym (ap is_end f) ∙ held-inside e level p.state g o);
      before-eighth = λ e level n x f. stop-within e level n p.state g (range-within p.state t.fit.range).bits x f;
      mark = λ e level i a b. (step_stays e level p.array p.state (λ y. (g.talks.opens y).phase)).mark i a b;
      page = λ e level m. (step_stays e level p.array p.state (λ y. (g.talks.opens y).phase)).page m;
      released = λ e level x y.
          let t = now-sends p.state x in
          ended-released (step_of e level p.array p.state) (step-ends e level p.array p.state t.0 t.1) y;
    }

-- So it is of every reachable part.
pub reachable-holds : (p : Part) → Reachable p → Holds p
reachable-holds p r = stands-holds p (reachable-stands p r)
