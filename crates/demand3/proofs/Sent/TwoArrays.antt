-- Two arrays that are equal but for one address, given the same sample of one state: they stay so, and a write that
-- covers the address makes them equal. The page load stays whole. Assumes nothing.
use Prim.Native.Nat.{ℕ, zero, suc, ◌<◌, ◌≤◌}
use mathlib.Core.Bool.{Bool, true, false, true≢false, ◌&&◌}
use mathlib.Core.List.{List, [], ◌∷◌}
use mathlib.Core.Path.{◌≡◌, refl, sym, ◌∙◌}
use native.Mathlib.Omega.{arith}
use lib.Dec.{eqb, ltb}
use lib.ListN.{length, get_or, get_or-eq_default, length-set}
use lib.Seq.{ext_get_or}
use borrow.Author.Tests.{ltb-true, ltb-false, eqb-true, eqb-false}
use Rattle.ground.specs.Numbers.{page_size}
use Rattle.ground.specs.Kind.{kind_of}
use Rattle.page.specs.Page.{page_of, in_page, at, store_of, marked, filled_of, any_marked}
use Rattle.part.specs.declared.state.Device.{Device}
use Rattle.part.specs.declared.state.Load.{Load}
use Rattle.part.specs.declared.state.Phase.{Phase}
use Rattle.part.specs.declared.state.Phase.TheVariants.{Idle, Silent, Slave, High, Low, Data, Register, Send, SendRegister}
use Rattle.part.specs.declared.state.Place.{Place}
use Rattle.part.specs.declared.state.State.{State}
use Rattle.part.specs.State.{with_device, with_talk, with_out}
use Rattle.ground.specs.declared.kinds.Kind.{Kind}
use Rattle.ground.proofs.Tests.{and_split}
use Rattle.page.proofs.Stored.{store_length, store_at}
use Rattle.wire.specs.declared.Sign.{Sign}
use Rattle.wire.specs.declared.Sign.TheVariants.{Quiet, Start, Stop, Bit, Byte, Ninth}
use Rattle.device.specs.Bytes.{taken_of, kept_by, expects_data, kept_of}
use Rattle.levels.specs.Level.{wp_of}
use Rattle.ends.specs.Ends.{cuts_off}
use Rattle.sample.specs.Sample.{opens_of, reset_of, start_of, stop_of, load_left, left_of, byte_step, heard_by, saved_by, written_by, sign_in, wired_of, Seen, unseen, sees, seen_of, goes_on_by, step_of, keeps_by, array_of}
use Rattle.demand3.specs.Differ.{covers_by, covers, EqualBut, FullLoad}

-- A mark that is set is one of the marks.
some-mark : (ms : List Bool) (i : ℕ) → get_or ms i false ≡ true → any_marked ms ≡ true
some-mark [] i e = e
some-mark (true ∷ ms) i e = refl
some-mark (false ∷ ms) zero e = absurd (true≢false (sym e))
some-mark (false ∷ ms) (suc i) e = some-mark ms i e

module _ (s : State) (whole : FullLoad s) where
  -- A store of the same load leaves two bytes that were equal equal.
  store_same : (p : Place) (xs ys : List ℕ) (i : ℕ) → length xs ≡ length ys → get_or xs i 0 ≡ get_or ys i 0
      → get_or (store_of p s.load xs) i 0 ≡ get_or (store_of p s.load ys) i 0
  store_same p xs ys i n e = go (ltb i (length xs)) refl
    where
      go : (b : Bool) → ltb i (length xs) ≡ b → get_or (store_of p s.load xs) i 0 ≡ get_or (store_of p s.load ys) i 0
      go true t =
          let h = ltb-true i (length xs) t in
          let k : i < length ys = omega arith in
          store_at p s.load xs (at i) whole.marks whole.bytes h
          ∙ (rw e (sym (store_at p s.load ys (at i) whole.marks whole.bytes k)))
      go false t =
          let h = ltb-false i (length xs) t in
          let k : length (store_of p s.load xs) ≤ i = omega (arith, store_length p s.load xs) in
          let l : length (store_of p s.load ys) ≤ i = omega (arith, store_length p s.load ys) in
          get_or-eq_default (store_of p s.load xs) 0 k ∙ sym (get_or-eq_default (store_of p s.load ys) 0 l)

  -- So it leaves two arrays equal but for an address equal but for it.
  saved-kept : {a : ℕ} {xs ys : List ℕ} (b : Bool) (p : Place) → EqualBut a xs ys
      → EqualBut a (saved_by b p s.load xs) (saved_by b p s.load ys)
  saved-kept true p e =
      record {
        lengths = store_length p s.load _ ∙ e.lengths ∙ sym (store_length p s.load _);
        others = λ i d. store_same p _ _ i e.lengths (e.others i d);
      }
  saved-kept false p e = e

  -- A store that covers the address makes two such arrays equal.
  saved-equal : {a : ℕ} {xs ys : List ℕ} (p : Place) → EqualBut a xs ys
      → (eqb (page_of (at a)) (page_of p) && get_or s.load.marks (in_page (at a)) false) ≡ true
      → saved_by (marked s.load) p s.load xs ≡ saved_by (marked s.load) p s.load ys
  saved-equal {a} {xs} {ys} p e c =
      let in-page : Bool = eqb (page_of (at a)) (page_of p) in
      let set : Bool = get_or s.load.marks (in_page (at a)) false in
      let m : marked s.load ≡ true = some-mark s.load.marks (in_page (at a)) (and_split in-page set c).1 in
      let n = (saved-kept true p e).lengths in
      rw m (ext_get_or 0 (store_of p s.load xs) (store_of p s.load ys) n (λ i h. go i (eqb i a) refl h))
    where
      go : (i : ℕ) (b : Bool) → eqb i a ≡ b → i < length (store_of p s.load xs)
          → get_or (store_of p s.load xs) i 0 ≡ get_or (store_of p s.load ys) i 0
      go i true t h =
          let n = store_length p s.load xs in
          let k : a < length xs = omega (arith, eqb-true i a t) in
          let l : a < length ys = omega (arith, e.lengths) in
          rw (eqb-true i a t)
          ((rw c at (store_at p s.load xs (at a) whole.marks whole.bytes k))
          ∙ sym (rw c at (store_at p s.load ys (at a) whole.marks whole.bytes l)))
      go i false t h = (saved-kept true p e).others i (eqb-false i a t)

-- What a stop's bits leave of a load is whole.
left_by_lem : (cut : Bool) (l : Load) → (length l.bytes ≡ page_size) × (length l.marks ≡ page_size)
    → (length (load_left cut l).bytes ≡ page_size) × (length (load_left cut l).marks ≡ page_size)
left_by_lem true l w = (refl, refl)
left_by_lem false l w = w

-- So is that of a state.
pub left-whole : (n : ℕ) (s : State) → FullLoad s → FullLoad (left_of n s)
unfolding left_of
left-whole n s w =
    let l = left_by_lem (cuts_off s.device.talk.phase n) s.load (w.bytes, w.marks) in
    record { bytes = l.0; marks = l.1 }

-- Arrays equal but for an address stay so, whatever the sign.
written-kept : {a : ℕ} {xs ys : List ℕ} (sign : Sign) (s : State) → FullLoad s → EqualBut a xs ys
    → EqualBut a (written_by sign s xs) (written_by sign s ys)
written-kept Quiet s w e = e
written-kept Start s w e = e
written-kept (Stop n) s w e = saved-kept (left_of n s) (left-whole n s w) (marked (left_of n s).load) (left_of n s).device.counter e
written-kept Bit s w e = e
written-kept (Byte v) s w e = e
written-kept (Ninth b) s w e = e

-- So they do by rule 3 or 4.
keeps-kept : {a : ℕ} {xs ys : List ℕ} (x : Seen) (level : ℕ) (s : State) → FullLoad s → EqualBut a xs ys
    → EqualBut a (keeps_by x level xs s) (keeps_by x level ys s)
unfolding wired_of
keeps-kept unseen level s w e = e
keeps-kept (sees sign) level s w e =
    written-kept sign (wired_of level s) record { bytes = w.bytes; marks = w.marks } e

-- Arrays equal but for an address stay so in a sample of one state.
pub arrays-kept : {a : ℕ} {xs ys : List ℕ} (e level : ℕ) (s : State) → FullLoad s → EqualBut a xs ys
    → EqualBut a (array_of e level xs s) (array_of e level ys s)
unfolding array_of opens_of
arrays-kept e level s w b =
    let o : State = opens_of e level s in
    keeps-kept (seen_of level o) level o record { bytes = w.bytes; marks = w.marks } b

module _ {a : ℕ} {xs ys : List ℕ} (e level : ℕ) (s : State) (w : FullLoad s) (but : EqualBut a xs ys) where
  -- A sign whose write covers the address makes the arrays equal.
  written-equal : (sign : Sign) → covers_by (sees sign) a s ≡ true
      → written_by sign (wired_of level (opens_of e level s)) xs ≡ written_by sign (wired_of level (opens_of e level s)) ys
  unfolding wired_of opens_of left_of
  written-equal Quiet c = absurd (true≢false (sym c))
  written-equal Start c = absurd (true≢false (sym c))
  written-equal (Stop n) c = saved-equal (left_of n s) (left-whole n s w) s.device.counter but c
  written-equal Bit c = absurd (true≢false (sym c))
  written-equal (Byte v) c = absurd (true≢false (sym c))
  written-equal (Ninth b) c = absurd (true≢false (sym c))

  -- So it does by rule 3 or 4.
  keeps-equal : (x : Seen) → covers_by x a s ≡ true → keeps_by x level xs (opens_of e level s) ≡ keeps_by x level ys (opens_of e level s)
  keeps-equal unseen c = absurd (true≢false (sym c))
  keeps-equal (sees sign) c = written-equal sign c

  -- A sample whose write covers the address makes the arrays equal.
  pub arrays-equal : covers a e level record { state = s; array = xs } ≡ true
      → array_of e level xs s ≡ array_of e level ys s
  unfolding array_of covers
  arrays-equal c = keeps-equal (seen_of level (opens_of e level s)) c

-- A state without the byte being sent.
abbrev pub silenced : State → State
silenced s = with_device s (with_talk s.device (with_out s.device.talk 0))

-- The byte being sent does not count for what a sign writes.
written-silent : (sign : Sign) (e level : ℕ) (s : State) (xs : List ℕ)
    → written_by sign (wired_of level (opens_of e level s)) xs
    ≡ written_by sign (wired_of level (opens_of e level (silenced s))) xs
unfolding wired_of opens_of left_of
written-silent Quiet e level s xs = refl
written-silent Start e level s xs = refl
written-silent (Stop n) e level s xs = refl
written-silent Bit e level s xs = refl
written-silent (Byte v) e level s xs = refl
written-silent (Ninth b) e level s xs = refl

-- Nor does it by rule 3 or 4.
keeps-silent : (x : Seen) (e level : ℕ) (s : State) (xs : List ℕ)
    → keeps_by x level xs (opens_of e level s) ≡ keeps_by x level xs (opens_of e level (silenced s))
keeps-silent unseen e level s xs = refl
keeps-silent (sees sign) e level s xs = written-silent sign e level s xs

-- The byte being sent does not count for the array after a sample.
pub array-silent : (e level : ℕ) (s : State) (xs : List ℕ) → array_of e level xs s ≡ array_of e level xs (silenced s)
unfolding array_of opens_of seen_of sign_in
array-silent e level s xs = keeps-silent (seen_of level (opens_of e level s)) e level s xs

-- What holds of a load, and of it with a byte put in, holds after a byte that is taken or not.
taken-load : (P : Load → Type 0) (b : Bool) (d : Device) (v : ℕ) (l : Load) → P l → P (filled_of l d.counter v)
    → P (kept_by b d v l)
taken-load P true d v l f g = g
taken-load P false d v l f g = f

-- So it holds after a byte, whatever the phase.
kept-load : (P : Load → Type 0) (p : Phase) (k : Kind) (d : Device) (v : ℕ) (l : Load) → P l
    → P (filled_of l d.counter v) → P (kept_by (expects_data p && taken_of k d) d v l)
kept-load P Idle k d v l f g = f
kept-load P Silent k d v l f g = f
kept-load P Slave k d v l f g = f
kept-load P High k d v l f g = f
kept-load P Low k d v l f g = f
kept-load P Data k d v l f g = taken-load P (taken_of k d) d v l f g
kept-load P Register k d v l f g = f
kept-load P Send k d v l f g = f
kept-load P SendRegister k d v l f g = f

-- A load stays whole, whatever the sign.
heard-whole : (sign : Sign) (wp : Bool) (xs : List ℕ) (s : State) → FullLoad s → FullLoad (heard_by sign wp xs s)
unfolding start_of stop_of byte_step kept_of
heard-whole Quiet wp xs s w = w
heard-whole Start wp xs s w = record { bytes = refl; marks = refl }
heard-whole (Stop n) wp xs s w = record { bytes = refl; marks = refl }
heard-whole Bit wp xs s w = record { bytes = w.bytes; marks = w.marks }
heard-whole (Byte v) wp xs s w =
    let i : ℕ = in_page s.device.counter in
    let p : Phase = s.device.talk.phase in
    let b = length-set s.load.bytes i v ∙ w.bytes in
    let m = length-set s.load.marks i true ∙ w.marks in
    record {
      bytes = kept-load (λ l. length l.bytes ≡ page_size) p (kind_of s.chip.part) s.device v s.load w.bytes b;
      marks = kept-load (λ l. length l.marks ≡ page_size) p (kind_of s.chip.part) s.device v s.load w.marks m;
    }
heard-whole (Ninth b) wp xs s w = record { bytes = w.bytes; marks = w.marks }

-- It stays whole by rule 3 or 4.
goes-whole : (x : Seen) (level : ℕ) (xs : List ℕ) (s : State) → FullLoad s → FullLoad (goes_on_by x level xs s)
unfolding reset_of wired_of
goes-whole unseen level xs s w = record { bytes = refl; marks = refl }
goes-whole (sees sign) level xs s w =
    heard-whole sign (wp_of level) xs (wired_of level s) record { bytes = w.bytes; marks = w.marks }

-- A load stays whole in a sample.
pub whole-kept : (e level : ℕ) (xs : List ℕ) (s : State) → FullLoad s → FullLoad (step_of e level xs s)
unfolding step_of opens_of
whole-kept e level xs s w =
    let o : State = opens_of e level s in
    goes-whole (seen_of level o) level xs o record { bytes = w.bytes; marks = w.marks }
