-- What a sample leaves of the clocks. Assumes nothing.
use Prim.Native.Nat.{ℕ, ◌-◌}
use mathlib.Core.Bool.{Bool, true, false, ◌&&◌}
use mathlib.Core.Path.{◌≡◌, refl, sym, ap, ◌∙◌}
use lib.Dec.{ltb}
use borrow.Author.Tests.{ltb-true}
use Rattle.ground.specs.Cases.{highest}
use Rattle.part.specs.declared.state.Device.{Device}
use Rattle.wire.specs.declared.Sign.{Sign}
use Rattle.wire.specs.declared.Sign.TheVariants.{Quiet, Bit}
use Rattle.part.specs.State.{with_talk}
use Rattle.address.specs.Talk.{sends_in, shifted_of}
use Rattle.bits.specs.Bits.{bit_of}
use Rattle.bits.proofs.Phases.{bit-stays, bit-sent}
use Rattle.levels.specs.Level.{scl_of, vcc_of}
use Rattle.clocks.specs.Clocks.{wire_at, spoken_of, line_at, seen_at, turn_by, turn_when, turn_of, Comes, small_by, Turned}
use Rattle.clocks.specs.declared.turns.Clocks.{Clocks}
use Rattle.clocks.specs.declared.turns.Turn.{Turn}
use Rattle.clocks.proofs.Seeing.{Sees, unlike}

-- What the loops do not leave alone has VCC good, and no timer ends in it.
comes-by : (a b : Bool) (t u : Turn) → turn_when (a && b) t ≡ u → (u ≡ Turn.Other → ⊥) → (a ≡ true) × (b ≡ true) × (t ≡ u)
comes-by true true t u e n = (refl, refl, e)
comes-by true false t u e n = absurd (n (sym e))
comes-by false b t u e n = absurd (n (sym e))

pub comes : (c : Clocks) (e level : ℕ) (t : Turn) → turn_of c e level ≡ t → (t ≡ Turn.Other → ⊥) → Comes c e level t
unfolding turn_of
comes c e level t h n =
    let k = comes-by (ltb e c.room) (vcc_of level) (turn_by (seen_at c level)) t h n in
    record { soon = ltb-true e c.room k.0; good = k.1; shown = k.2 }

-- As it is for each that they take.
module _ (c : Clocks) (e level : ℕ) {t : Turn} where
  pub comes-plain : t ≡ turn_of c e level → t ≡ Turn.Plain → Comes c e level Turn.Plain
  comes-plain h q = comes c e level Turn.Plain (sym h ∙ q) (λ k. unlike (cc))

  pub comes-eighth : t ≡ turn_of c e level → t ≡ Turn.Eighth → Comes c e level Turn.Eighth
  comes-eighth h q = comes c e level Turn.Eighth (sym h ∙ q) (λ k. unlike (cc))

  pub comes-ninth : t ≡ turn_of c e level → t ≡ Turn.Ninth → Comes c e level Turn.Ninth
  comes-ninth h q = comes c e level Turn.Ninth (sym h ∙ q) (λ k. unlike (cc))

  pub comes-start : t ≡ turn_of c e level → t ≡ Turn.Start → Comes c e level Turn.Start
  comes-start h q = comes c e level Turn.Start (sym h ∙ q) (λ k. unlike (cc))

  pub comes-stop : t ≡ turn_of c e level → t ≡ Turn.Stop → Comes c e level Turn.Stop
  comes-stop h q = comes c e level Turn.Stop (sym h ∙ q) (λ k. unlike (cc))

module _ {now next : Clocks} {sends : Bool} {e level : ℕ} (c d : Bool) (p : c ≡ scl_of level) (q : d ≡ line_at now level) where
  pub turned-quiet : next.room ≡ now.room - e → Sees (wire_at now) c d Quiet (wire_at next) → ((x : Device) → spoken_of x next ≡ spoken_of x now)
      → Turned now sends e level next
  turned-quiet r s k =
      let z : seen_at now level ≡ Quiet = rw (← p, ← q) s.shown in
      record { room = r; wire = sym (rw (← p, ← q) s.left); talk = λ x h. k x ∙ ap (λ (y : Sign). small_by y (spoken_of x now)) (sym z) }

  pub turned_bit : next.room ≡ now.room - e → Sees (wire_at now) c d Bit (wire_at next)
      → ((x : Device) → sends ≡ sends_in x.talk.phase → spoken_of x next ≡ bit_of (spoken_of x now)) → Turned now sends e level next
  turned_bit r s k =
      let z : seen_at now level ≡ Bit = rw (← p, ← q) s.shown in
      record { room = r; wire = sym (rw (← p, ← q) s.left); talk = λ x h. k x h ∙ ap (λ (y : Sign). small_by y (spoken_of x now)) (sym z) }

-- A bit while nothing is sent, and while a byte is.
pub heard-talk : (x : Device) (now : Clocks) (sends : Bool) → sends ≡ sends_in x.talk.phase → sends ≡ false → spoken_of x now ≡ bit_of (spoken_of x now)
heard-talk x now sends h k = sym (bit-stays (spoken_of x now) (sym h ∙ k))

pub sent-talk : (x : Device) (now : Clocks) (sends : Bool) (out : ℕ) (own : Bool) → sends ≡ sends_in x.talk.phase → sends ≡ true
    → out ≡ shifted_of now.out → own ≡ highest out
    → with_talk x (record { phase = x.talk.phase; high = 0; out = out; own = own }) ≡ bit_of (spoken_of x now)
sent-talk x now sends out own h k f g = rw (g, f) (sym (bit-sent (spoken_of x now) (sym h ∙ k)))
