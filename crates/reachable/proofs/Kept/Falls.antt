-- What the three falls that commit a bit keep of a device and its load: a bit, an eighth fall, a ninth, each by phase.
-- Assumes nothing.
use Prim.Native.Nat.{ℕ, ◌*◌, ◌%◌, ◌<◌}
use mathlib.Core.Bool.{Bool, true, false, not, true≢false, ◌&&◌}
use mathlib.Core.List.{List}
use mathlib.Core.Path.{◌≡◌, refl, ◌∙◌}
use native.Mathlib.Omega.{arith}
use lib.Dec.{eqb}
use borrow.Author.Tests.{not-true}
use Rattle.ground.specs.Numbers.{most_bits, register_address, byte_values}
use Rattle.ground.specs.Cases.{odd}
use Rattle.lock.specs.Lock.{locked_of}
use Rattle.page.specs.Page.{place_of, next_in_page, next_in_array, byte_at}
use Rattle.ground.specs.declared.kinds.Kind.{Kind}
use Rattle.part.specs.declared.state.BusAddress.{BusAddress}
use Rattle.part.specs.declared.state.Phase.{Phase}
use Rattle.part.specs.declared.state.Phase.TheVariants.{Idle, Silent, Slave, High, Low, Data, Register, Send, SendRegister}
use Rattle.part.specs.declared.state.Talk.{Talk}
use Rattle.part.specs.declared.state.Device.{Device}
use Rattle.part.specs.declared.state.Load.{Load}
use Rattle.part.specs.declared.state.Place.{Place}
use Rattle.ground.proofs.Tests.{and_split}
use Rattle.page.proofs.Places.{page-stays}
use Rattle.lock.proofs.Laws.{lock-of-page}
use Rattle.control.specs.Register.{reads_of}
use Rattle.part.specs.State.{with_chosen, with_talk}
use Rattle.address.specs.Talk.{acknowledged, rested, sending, released, address_of, matches}
use Rattle.address.specs.Address.{slave_by, slave_of, high_of, address_by, low_of}
use Rattle.device.specs.Bytes.{taken_of, data_by, register_by, byte_in, byte_of, kept_by, expects_data, kept_of}
use Rattle.ends.specs.Ends.{keeps_for_stop}
use Rattle.bits.specs.Bits.{bit_in, bit_of, answered_by, ninth_in, ninth_of}
use Rattle.reachable.specs.Reachable.{waits, speaks}
use Rattle.reachable.proofs.Kept.Talks.{Voice, rests, answers, sends, Pends, Talks, still, voice-stays, voice-released, whole-filled}

module _ (k : Kind) (n m : ℕ) (d : Device) (l : Load) (g : Talks k n d l) where
  -- A device that stays in a phase that sends nothing, no acknowledge under way, while the bits go on.
  stayed : speaks d.talk.phase ≡ false → (n ≡ most_bits → waits d.talk.phase ≡ true) → Talks k m d l
  stayed h w =
      record {
        voice = voice-stays d.talk n m h w g.voice;
        pends = g.pends;
        opens = g.opens;
        whole = g.whole;
      }

  -- A talk that turns from a phase that takes no data leaves no byte pending and no mark.
  turned : (t : Talk) (p : Place) (b : Bool) → keeps_for_stop d.talk.phase ≡ false → (t.phase ≡ Register → b ≡ true)
      → Voice t m → Talks k m (record { talk = t; counter = p; control = with_chosen d.control b }) l
  turned t p b x z v =
      record {
        voice = v;
        pends = record { phase = λ e. cc (g.pends.phase e); chosen = z; none = g.pends.none };
        opens = λ e. absurd (true≢false (cc (g.opens e).phase));
        whole = g.whole;
      }

  -- So does one that turns to such a phase with the counter and the choice staying.
  turns : (t : Talk) → keeps_for_stop d.talk.phase ≡ false → keeps_for_stop t.phase ≡ false → Voice t m → Talks k m (with_talk d t) l
  turns t x y v = turned t d.counter d.control.chosen x (λ e. cc) v

  -- The part falls silent.
  hushed : keeps_for_stop d.talk.phase ≡ false → Talks k m (with_talk d (rested Silent)) l
  hushed x = turns (rested Silent) x refl (still (rested Silent) m refl refl refl)

  -- A bit, by phase.
  bit_in_lem : (p : Phase) → d.talk.phase ≡ p → n < most_bits → m < most_bits → Talks k m (bit_in p d) l
  bit_in_lem Idle e b c = stayed (cc) (λ x. absurd (omega arith))
  bit_in_lem Silent e b c = stayed (cc) (λ x. absurd (omega arith))
  bit_in_lem Slave e b c = stayed (cc) (λ x. absurd (omega arith))
  bit_in_lem High e b c = stayed (cc) (λ x. absurd (omega arith))
  bit_in_lem Low e b c = stayed (cc) (λ x. absurd (omega arith))
  bit_in_lem Data e b c = stayed (cc) (λ x. absurd (omega arith))
  bit_in_lem Register e b c = stayed (cc) (λ x. absurd (omega arith))
  bit_in_lem Send e b c = turns (sending Send (d.talk.out * 2 % byte_values)) (cc) refl (sends refl c refl)
  bit_in_lem SendRegister e b c = turns (sending SendRegister (d.talk.out * 2 % byte_values)) (cc) refl (sends refl c refl)

  -- The acknowledge ends, all else stays.
  released-talks : speaks d.talk.phase ≡ false → Talks k m (with_talk d (released d.talk)) l
  released-talks h =
      record {
        voice = voice-released d.talk n m h g.voice;
        pends = g.pends;
        opens = λ e. record { phase = (g.opens e).phase; latch = (g.opens e).latch; unlocked = (g.opens e).unlocked };
        whole = g.whole;
      }

  -- A ninth fall of a read.
  answered-talks : (b : Bool) (array : List ℕ) → d.talk.phase ≡ Send → m < most_bits
      → Talks k m (answered_by b k array d) l
  answered-talks false array e c =
      turned (sending Send (byte_at array d.counter)) (next_in_array k d.counter) d.control.chosen (cc) (λ x. cc)
      (sends refl c refl)
  answered-talks true array e c = hushed (cc)

  -- A ninth fall, by phase.
  ninth-in : (p : Phase) (b : Bool) (array : List ℕ) → d.talk.phase ≡ p → m < most_bits
      → Talks k m (ninth_in p k array b d) l
  ninth-in Idle b array e c = stayed (cc) (λ x. cc)
  ninth-in Silent b array e c = stayed (cc) (λ x. cc)
  ninth-in Slave b array e c = released-talks (cc)
  ninth-in High b array e c = released-talks (cc)
  ninth-in Low b array e c = released-talks (cc)
  ninth-in Data b array e c = released-talks (cc)
  ninth-in Register b array e c = released-talks (cc)
  ninth-in Send b array e c = answered-talks b array e c
  ninth-in SendRegister b array e c = turns (sending SendRegister (reads_of d.control)) (cc) refl (sends refl c refl)

  -- A slave byte.
  slave-talks : (a r c : Bool) → d.talk.phase ≡ Slave → m ≡ most_bits → Talks k m (slave_by a r c d) l
  slave-talks false r c e z = hushed (cc)
  slave-talks true false c e z = turns (acknowledged High) (cc) refl (answers z refl refl refl)
  slave-talks true true false e z = turns (acknowledged Send) (cc) refl (answers z refl refl refl)
  slave-talks true true true e z = turns (acknowledged SendRegister) (cc) refl (answers z refl refl refl)

  -- A whole address.
  address-talks : (b : Bool) (a : BusAddress) → d.talk.phase ≡ Low → m ≡ most_bits → Talks k m (address_by b k d a) l
  address-talks true a e z =
      turned (acknowledged Register) d.counter true (cc) (λ x. refl) (answers z refl refl refl)
  address-talks false a e z =
      turned (acknowledged Data) (place_of k a) false (cc) (λ x. cc) (answers z refl refl refl)

  -- The register in a phase other than its own, left from the phase of array data.
  data-pends : (p : Phase) → d.talk.phase ≡ Data → (p ≡ Register → true ≡ false) → Pends p d.control
  data-pends p e h =
      record {
        phase = λ x. cc (g.pends.phase x);
        chosen = λ x. cc (h x);
        none = g.pends.none;
      }

  -- An array byte; one that is not taken comes with no mark set.
  data-talks : (b : Bool) (v : ℕ) → d.talk.phase ≡ Data → taken_of k d ≡ b → m ≡ most_bits
      → Talks k m (data_by b d) (kept_by b d v l)
  unfolding taken_of
  data-talks true v e t z =
      let h = and_split d.control.wel (not (locked_of k d.control.stored d.counter)) t in
      let u = not-true (locked_of k d.control.stored d.counter) h.1 in
      let f = lock-of-page k d.control.stored (next_in_page d.counter) d.counter (page-stays d.counter) in
      record {
        voice = answers z refl refl refl;
        pends = data-pends Data e (λ x. cc);
        opens = λ x. record { phase = refl; latch = h.0; unlocked = f ∙ u };
        whole = whole-filled l d.counter v g.whole;
      }
  data-talks false v e t z =
      record {
        voice = still (rested Silent) m refl refl refl;
        pends = data-pends Silent e (λ x. cc);
        opens = λ x. absurd (true≢false (cc ((g.opens x).latch, (g.opens x).unlocked)));
        whole = g.whole;
      }

  -- A register byte: the first pends, a second cancels it.
  register-talks : (b : Bool) (v : ℕ) → d.talk.phase ≡ Register → d.control.pending ≡ b → m ≡ most_bits
      → Talks k m (register_by b d v) l
  register-talks true v e t z =
      record {
        voice = still (rested Silent) m refl refl refl;
        pends = record { phase = λ x. cc; chosen = λ x. cc; none = λ x. refl };
        opens = λ x. absurd (true≢false (cc (g.opens x).phase));
        whole = g.whole;
      }
  register-talks false v e t z =
      record {
        voice = answers z refl refl refl;
        pends = record { phase = λ x. refl; chosen = λ x. g.pends.chosen e; none = λ x. cc };
        opens = λ x. absurd (true≢false (cc (g.opens x).phase));
        whole = g.whole;
      }

  -- A byte, by phase.
  byte-in : (p : Phase) (s v : ℕ) → d.talk.phase ≡ p → n < most_bits → m ≡ most_bits
      → Talks k m (byte_in p k s d v) (kept_by (expects_data p && taken_of k d) d v l)
  unfolding slave_of high_of low_of
  byte-in Idle s v e b z = stayed (cc) (λ x. absurd (omega arith))
  byte-in Silent s v e b z = stayed (cc) (λ x. absurd (omega arith))
  byte-in Slave s v e b z = slave-talks (matches s v) (odd v) d.control.chosen e z
  byte-in High s v e b z =
      turns (record { phase = Low; high = v; out = 0; own = false }) (cc) refl (answers z refl refl refl)
  byte-in Low s v e b z =
      address-talks (eqb (address_of d.talk.high v).0 register_address) (address_of d.talk.high v) e z
  byte-in Data s v e b z = data-talks (taken_of k d) v e refl z
  byte-in Register s v e b z = register-talks d.control.pending v e refl z
  byte-in Send s v e b z = turns (rested Send) (cc) refl (rests (λ x. z) refl refl)
  byte-in SendRegister s v e b z =
      turned (rested Silent) d.counter false (cc) (λ x. cc) (still (rested Silent) m refl refl refl)

  -- After a bit below the eighth.
  pub bit-talks : n < most_bits → m < most_bits → Talks k m (bit_of d) l
  unfolding bit_of
  bit-talks b c = bit_in_lem d.talk.phase refl b c

  -- After an eighth fall.
  pub byte-talks : (s v : ℕ) → n < most_bits → m ≡ most_bits → Talks k m (byte_of k s d v) (kept_of k d v l)
  unfolding byte_of kept_of
  byte-talks s v b z = byte-in d.talk.phase s v refl b z

  -- After a ninth fall.
  pub ninth-talks : (b : Bool) (array : List ℕ) → m < most_bits → Talks k m (ninth_of k array b d) l
  unfolding ninth_of
  ninth-talks b array c = ninth-in d.talk.phase b array refl c
