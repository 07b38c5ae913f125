-- What a device and its page load keep, over plain variables: the kind, the bits committed, the device, the load;
-- and that a start and a stop keep it. Assumes nothing.
use Prim.Native.Nat.{ℕ, zero, suc, ◌<◌}
use mathlib.Core.Bool.{Bool, true, false, true≢false}
use mathlib.Core.List.{List, [], ◌∷◌}
use mathlib.Core.Path.{◌≡◌, refl, sym, ◌∙◌}
use native.Mathlib.Omega.{arith}
use lib.ListN.{length, set, length-set}
use Rattle.ground.specs.Numbers.{most_bits}
use Rattle.ground.specs.Cases.{highest}
use Rattle.page.specs.Page.{in_page, empty_load, marked, filled_of, any_marked}
use Rattle.ground.specs.declared.kinds.Kind.{Kind}
use Rattle.part.specs.declared.state.Phase.{Phase}
use Rattle.part.specs.declared.state.Phase.TheVariants.{Idle, Silent, Slave, Register}
use Rattle.part.specs.declared.state.Talk.{Talk}
use Rattle.part.specs.declared.state.Control.{Control}
use Rattle.part.specs.declared.state.Device.{Device}
use Rattle.part.specs.declared.state.Load.{Load}
use Rattle.part.specs.declared.state.Place.{Place}
use Rattle.control.specs.Register.{carried_out}
use Rattle.control.specs.declared.Order.{Order}
use Rattle.address.specs.Talk.{none_pends, rested, released}
use Rattle.ends.specs.Ends.{started_of, dropped, stopped_of}
use Rattle.reachable.specs.Reachable.{waits, speaks, Loading, KeptLoad}

-- What the part does on SDA with so many bits committed: it rests, acknowledges, or sends a byte.
pub data Voice : Talk → ℕ → Type 0 where
  rests : {t : Talk} {n : ℕ} → (speaks t.phase ≡ true → n ≡ most_bits) → t.out ≡ 0 → t.own ≡ true → Voice t n
  answers : {t : Talk} {n : ℕ} → n ≡ most_bits → waits t.phase ≡ false → t.out ≡ 0 → t.own ≡ false → Voice t n
  sends : {t : Talk} {n : ℕ} → speaks t.phase ≡ true → n < most_bits → t.own ≡ highest t.out → Voice t n

-- What the control register keeps in a phase.
pub record Pends (p : Phase) (c : Control) : Type 0 where
  pub phase : c.pending ≡ true → p ≡ Register
  pub chosen : p ≡ Register → c.chosen ≡ true
  pub none : c.pending ≡ false → c.value ≡ 0

-- All of it together.
pub record Talks (k : Kind) (n : ℕ) (d : Device) (l : Load) : Type 0 where
  pub voice : Voice d.talk n
  pub pends : Pends d.talk.phase d.control
  pub opens : marked l ≡ true → Loading k d
  pub whole : KeptLoad l

-- A talk that sends nothing and pulls nothing low.
pub still : (t : Talk) (n : ℕ) → speaks t.phase ≡ false → t.out ≡ 0 → t.own ≡ true → Voice t n
still t n h a b = rests (λ e. absurd (true≢false (sym e ∙ h))) a b

-- A talk that stays while the bits go on, sending nothing.
pub voice-stays : (t : Talk) (n m : ℕ) → speaks t.phase ≡ false → (n ≡ most_bits → waits t.phase ≡ true)
    → Voice t n → Voice t m
voice-stays t n m h w (rests a b c) = still t m h b c
voice-stays t n m h w (answers a b c d) = absurd (true≢false (sym (w a) ∙ b))
voice-stays t n m h w (sends a b c) = absurd (true≢false (sym a ∙ h))

-- A talk whose acknowledge ends.
pub voice-released : (t : Talk) (n m : ℕ) → speaks t.phase ≡ false → Voice t n → Voice (released t) m
voice-released t n m h (rests a b c) = still (released t) m h b refl
voice-released t n m h (answers a b c d) = still (released t) m h c refl
voice-released t n m h (sends a b c) = absurd (true≢false (sym a ∙ h))

-- Marks after one is set.
some-set : (ms : List Bool) (i : ℕ) → i < length ms → any_marked (set ms i true) ≡ true
some-set [] i h = absurd (omega arith)
some-set (m ∷ ms) zero h = refl
some-set (true ∷ ms) (suc i) h = refl
some-set (false ∷ ms) (suc i) h = some-set ms i (omega arith)

-- A filled load is whole, and not empty.
pub whole-filled : (l : Load) (p : Place) (v : ℕ) → KeptLoad l → KeptLoad (filled_of l p v)
whole-filled l p v w =
    record {
      bytes = simp length-set w.bytes;
      marks = simp length-set w.marks;
      empty = λ e. absurd (true≢false (sym (some-set l.marks (in_page p) (omega arith)) ∙ e));
    }

-- A device that rests in a phase that sends nothing, no byte pending, its load empty.
pub fresh : (k : Kind) (n : ℕ) (p : Phase) (c : Place) (r : Control) → speaks p ≡ false → (p ≡ Register → true ≡ false)
    → r.pending ≡ false → r.value ≡ 0 → Talks k n (record { talk = rested p; counter = c; control = r }) empty_load
fresh k n p c r h x y z =
    record {
      voice = still (rested p) n h refl refl;
      pends = record { phase = λ e. cc; chosen = λ e. cc (x e); none = λ e. z };
      opens = λ e. absurd (true≢false (sym e));
      whole = record { bytes = refl; marks = refl; empty = λ e. refl };
    }

module _ (k : Kind) (n : ℕ) (d : Device) where
  -- After a start.
  pub start-talks : (writing : Bool) → Talks k n (started_of writing d) empty_load
  unfolding started_of
  start-talks true = fresh k n Silent d.counter (none_pends d.control) refl (λ e. cc) refl refl
  start-talks false = fresh k n Slave d.counter (none_pends d.control) refl (λ e. cc) refl refl

  -- After a stop.
  pub stop-talks : (order : Order) → Talks k n (stopped_of order d) empty_load
  unfolding stopped_of
  stop-talks order =
      fresh k n Idle d.counter (dropped (carried_out order d.control)) refl (λ e. cc) refl refl
