-- One part through the rows, beside itself: while a byte fetched within them is being sent, the part gives on SDA the bit
-- of it that is out. Assumes nothing.
use Prim.Native.Nat.{ℕ}
use mathlib.Core.Bool.{Bool, true, false, true≢false, beq, and-false}
use mathlib.Core.List.{List, [], ◌∷◌}
use mathlib.Core.Path.{◌≡◌, refl, sym}
use borrow.Author.Tests.{eq-eqb}
use Rattle.sample.specs.Run.{Part, part_step, run_of}
use Rattle.demand3.specs.Sending.{Sent, nothing, sends, bit_from}
use Rattle.demand3.specs.Differ.{reaches, EqualBut, sent_after}
use Rattle.demand3.proofs.Sent.OneSample.{Beside, equal, apart}
use Rattle.demand3.proofs.Sent.Reached.{beside-step}

-- A bit is equal to itself.
same_self : (b : Bool) → beq b b ≡ true
same_self true = refl
same_self false = refl

-- What is being sent is unequal to itself in no bit.
reach-self : (a : ℕ) (g : Sent) → reaches a g g ≡ false
reach-self a nothing = refl
reach-self a (sends b v n) = rw (eq-eqb n n refl, same_self (bit_from n v), and-false)

-- An array is equal to itself.
but-self : (a : ℕ) (xs : List ℕ) → EqualBut a xs xs
but-self a xs = record { lengths = refl; others = λ i d. refl }

-- A part stays beside itself through any rows.
beside-self : (a : ℕ) (es ls : List ℕ) (r : Part) (g : Sent) → Beside a r.state r.state g g
    → Beside a (run_of es ls r).state (run_of es ls r).state (sent_after es ls r g) (sent_after es ls r g)
unfolding part_step
beside-self a [] ls r g x = x
beside-self a (e ∷ es) [] r g x = x
beside-self a (e ∷ es) (l ∷ ls) r g x =
    beside-self a es ls (part_step e l r) _ (beside-step (but-self a r.array) e l x (reach-self a g))

-- After rows in which a byte was fetched, the bit of it that is out is what the part gives on SDA.
pub shown : (es ls : List ℕ) (r : Part) (b v n : ℕ) → sent_after es ls r nothing ≡ sends b v n
    → (run_of es ls r).state.device.talk.own ≡ bit_from n v
shown es ls r b v n f = by (beside-self b es ls r nothing (equal refl refl refl))
  where
    by : Beside b (run_of es ls r).state (run_of es ls r).state (sent_after es ls r nothing) (sent_after es ls r nothing)
        → (run_of es ls r).state.device.talk.own ≡ bit_from n v
    by (equal e i o) = absurd (true≢false (sym (rw (f, eq-eqb b b refl) at o)))
    by (apart c) =
        let m : c.bit ≡ n = cc c.sent in
        let w : c.one ≡ v = cc c.sent in
        rw (c.here, m, w)
