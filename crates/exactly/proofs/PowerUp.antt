-- Refusals 1 to 3, exactly when. Assumes nothing.
use Prim.Native.Nat.{ℕ, ◌≤◌, ◌<◌}
use mathlib.Core.Bool.{Bool, true, false}
use mathlib.Core.Logic.Iff
use mathlib.Core.Logic.{◌↔◌}
use mathlib.Core.Path.{◌≡◌, refl, ap, sym, subst, ◌∙◌}
use native.Mathlib.Omega.{arith}
use lib.Dec.{leb}
use Rattle.std.specs.Prelude.{Option, Some, None}
use Rattle.ground.specs.Kind.{kind_of, known}
use Rattle.ground.specs.Size.{size_meant, size_by, SizesPart}
use Rattle.ground.specs.Verdict.{Verdict, accepted, refused}
use Rattle.ground.proofs.Verdicts.{apart}
use Rattle.refusals.specs.Refusals.{storable, power_by, power_of}
use Rattle.exactly.specs.Words.{KnownPart, SizeOf, LatchBit}
use Rattle.exactly.specs.PowerUp.{PowerUp}
use Rattle.exactly.proofs.Decides.{holds, fails, decides-le}
use Rattle.exactly.proofs.Words.{known-size, size-known, size_is, decides-part, decides-stored}
use Rattle.exactly.proofs.Steps.{step, Above, above-accepted, above_step, most-accepted, most_step, stop, stopped, past, passed, through, says}

-- The table is three tests, one after the other.
steps : (a b c : Bool) → power_by a b c ≡ step a 1 (step b 2 (step c 3 (accepted 0)))
steps false b c = refl
steps true false c = refl
steps true true false = refl
steps true true true = refl

module _ (part select stored : ℕ) where
  abbrev third : Verdict
  third = step (storable stored) 3 (accepted 0)

  abbrev second : Verdict
  second = step (leb select 3) 2 third

  by-steps : power_of part select stored ≡ step (known part) 1 second
  unfolding power_of
  by-steps = steps (known part) (leb select 3) (storable stored)

  above-one : Above 1 second
  above-one = above_step (leb select 3) 1 2 third (omega arith) (above_step (storable stored) 1 3 (accepted 0) (omega arith) (above-accepted 1 0))

  above-two : Above 2 third
  above-two = above_step (storable stored) 2 3 (accepted 0) (omega arith) (above-accepted 2 0)

  one : (p : ℕ) → (power_of part select stored ≡ refused 1 p) ↔ ((p ≡ 0) × ¬ KnownPart part)
  one p = (
    λ e. let t = stop (known part) 1 p second above-one (sym by-steps ∙ e) in (t.1, (decides-part part).no t.0),
    λ h. by-steps ∙ stopped (known part) 1 p second (fails (decides-part part) h.1) h.0,
  )

  two : (p : ℕ) → (power_of part select stored ≡ refused 2 p) ↔ ((p ≡ 0) × KnownPart part × (3 < select))
  two p = (
    λ e.
        let t = past (known part) 1 2 p second (omega arith) (sym by-steps ∙ e) in
        let u = stop (leb select 3) 2 p third above-two t.1 in
        (u.1, (decides-part part).yes t.0, (decides-le select 3).no u.0),
    λ h.
        by-steps
        ∙ passed (known part) 1 second (holds (decides-part part) h.1)
        ∙ stopped (leb select 3) 2 p third (fails (decides-le select 3) h.2) h.0,
  )

  three : (p : ℕ) → (power_of part select stored ≡ refused 3 p) ↔ ((p ≡ 0) × KnownPart part × (select ≤ 3) × LatchBit stored)
  three p = (
    λ e.
        let t = past (known part) 1 3 p second (omega arith) (sym by-steps ∙ e) in
        let u = past (leb select 3) 2 3 p third (omega arith) t.1 in
        let v = stop (storable stored) 3 p (accepted 0) (above-accepted 3 0) u.1 in
        (v.1, (decides-part part).yes t.0, (decides-le select 3).yes u.0, (decides-stored stored).no v.0),
    λ h.
        by-steps
        ∙ passed (known part) 1 second (holds (decides-part part) h.1)
        ∙ passed (leb select 3) 2 third (holds (decides-le select 3) h.2)
        ∙ stopped (storable stored) 3 p (accepted 0) (fails (decides-stored stored) h.3) h.0,
  )

  taken : (n : ℕ) → (power_of part select stored ≡ accepted n) ↔ ((n ≡ 0) × KnownPart part × (select ≤ 3) × ¬ LatchBit stored)
  taken n = (
    λ e.
        let t = through (known part) 1 n second (sym by-steps ∙ e) in
        let u = through (leb select 3) 2 n third t.1 in
        let v = through (storable stored) 3 n (accepted 0) u.1 in
        (cc v.1, (decides-part part).yes t.0, (decides-le select 3).yes u.0, (decides-stored stored).yes v.0),
    λ h.
        by-steps
        ∙ passed (known part) 1 second (holds (decides-part part) h.1)
        ∙ passed (leb select 3) 2 third (holds (decides-le select 3) h.2)
        ∙ passed (storable stored) 3 (accepted 0) (holds (decides-stored stored) h.3)
        ∙ ap accepted (sym h.0),
  )

  no_other : (k p : ℕ) → power_of part select stored ≡ refused k p → (1 ≤ k) × (k ≤ 3)
  no_other k p e =
      let f = sym by-steps ∙ e in (
        above_step (known part) 0 1 second (omega arith) (λ j q g. let h = above-one j q g in omega arith) k p f,
        most_step (known part) 3 1 second (omega arith)
            (most_step (leb select 3) 3 2 third (omega arith) (most_step (storable stored) 3 3 (accepted 0) (omega arith) (most-accepted 3 0)))
            k p f,
      )

-- The size of a part.
size_none : (part : ℕ) (r : Option ℕ) → SizesPart part r → (r ≡ None) ↔ (¬ KnownPart part)
unfolding size_meant
size_none part r x = (forth r x.said, back r x.said)
  where
    forth : (q : Option ℕ) → size_meant q ≡ size_by (known part) (kind_of part).size → q ≡ None → ¬ KnownPart part
    forth q s e k =
        let u : size_meant None ≡ accepted (kind_of part).size = ap size_meant (sym e) ∙ s ∙ rw (holds (decides-part part) k) in
        apart 1 0 (kind_of part).size u

    back : (q : Option ℕ) → size_meant q ≡ size_by (known part) (kind_of part).size → ¬ KnownPart part → q ≡ None
    back (Some n) s h =
        let u : accepted n ≡ refused 1 0 = s ∙ rw (fails (decides-part part) h) in
        absurd (apart 1 0 n (sym u))
    back None s h = refl

size-some : (part n : ℕ) (r : Option ℕ) → SizesPart part r → (r ≡ Some n) ↔ SizeOf part n
unfolding size_meant
size-some part n r x = (λ e. forth r x.said e (known part) refl, λ h. back r x.said (size_is part n h) (size-known part n h))
  where
    forth : (q : Option ℕ) → size_meant q ≡ size_by (known part) (kind_of part).size → q ≡ Some n → (b : Bool) → known part ≡ b
        → SizeOf part n
    forth q s e true k =
        let p = (decides-part part).yes k in
        let u : accepted n ≡ accepted (kind_of part).size = ap size_meant (sym e) ∙ s ∙ rw k in
        let v : n ≡ (kind_of part).size = cc in
        subst (SizeOf part) (sym v) (known-size part p)
    forth q s e false k =
        let u : accepted n ≡ refused 1 0 = ap size_meant (sym e) ∙ s ∙ rw k in
        absurd (apart 1 0 n (sym u))

    back : (q : Option ℕ) → size_meant q ≡ size_by (known part) (kind_of part).size → n ≡ (kind_of part).size → KnownPart part → q ≡ Some n
    back (Some m) s h k =
        let u : accepted m ≡ accepted (kind_of part).size = s ∙ rw (holds (decides-part part) k) in
        let v : m ≡ (kind_of part).size = cc in
        ap Some (v ∙ sym h)
    back None s h k =
        let u : refused 1 0 ≡ accepted (kind_of part).size = s ∙ rw (holds (decides-part part) k) in
        absurd (apart 1 0 (kind_of part).size u)

-- The claim for power-up.
pub power-up : PowerUp
power-up =
    record {
      one = λ part select stored p r x. Iff.trans (says r.reply _ (refused 1 p) x.reply) (one part select stored p);
      two = λ part select stored p r x. Iff.trans (says r.reply _ (refused 2 p) x.reply) (two part select stored p);
      three = λ part select stored p r x. Iff.trans (says r.reply _ (refused 3 p) x.reply) (three part select stored p);
      accepted = λ part select stored n r x. Iff.trans (says r.reply _ (accepted n) x.reply) (taken part select stored n);
      no_other = λ part select stored k p r x e. no_other part select stored k p ((says r.reply _ (refused k p) x.reply).0 e);
      size-one = size_none;
      size-else = size-some;
    }
