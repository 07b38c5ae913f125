-- The verdict on a dump is the least of its faults. Assumes nothing.
use Prim.Native.Nat.{ℕ, suc, ◌≤◌}
use mathlib.Core.Bool.{Bool, true, false, ◌&&◌}
use mathlib.Core.List.Memᴰ
use mathlib.Core.List.{List, [], ◌∷◌, Memᴰ}
use mathlib.Core.Logic.{◌⊎◌, inl, inr, ⊎_elim}
use mathlib.Core.Path.{◌≡◌, refl, sym, ◌∙◌}
use native.Mathlib.Omega.{arith}
use lib.Dec.{eqb, ltb, leb}
use lib.ListN.{length}
use borrow.Author.Tests.{ltb-true, ltb-false, leb-true, leb-false, eqb-true, le-leb, eq-eqb}
use Rattle.ground.proofs.Tests.{and_split, or_split}
use Rattle.ground.specs.Verdict.{accepted, refused}
use Rattle.dumps.specs.Samples.{samples_in}
use Rattle.dumps.specs.Faults.{Fault, faults_of, comes_first, first_by, first, least_from, verdict_by, dump_verdict}
use Rattle.dump_cases.specs.Least.{LeastFault}

-- Two faults in their order, as facts on numbers.
abbrev Before : Fault → Fault → Type 0
Before f g = (f.line ≤ g.line) × (g.line ≤ f.line → f.number ≤ g.number)

comes-before : (f g : Fault) → comes_first f g ≡ true → Before f g
comes-before f g e = by-line (ltb f.line g.line) refl
  where
    by-line : (b : Bool) → ltb f.line g.line ≡ b → Before f g
    by-line true t = let h = ltb-true f.line g.line t in (omega arith, λ k. absurd (omega arith))
    by-line false t =
        let s = and_split (eqb f.line g.line) (leb f.number g.number) (rw t at e) in
        let l = eqb-true f.line g.line s.0 in
        (omega arith, λ k. leb-true f.number g.number s.1)

before-comes : (f g : Fault) → Before f g → comes_first f g ≡ true
before-comes f g h = by-line (ltb f.line g.line) refl
  where
    by-line : (b : Bool) → ltb f.line g.line ≡ b → comes_first f g ≡ true
    by-line true t = rw t
    by-line false t =
        let k = ltb-false f.line g.line t in
        let l : f.line ≡ g.line = omega (arith, h.0) in
        rw (t, eq-eqb f.line g.line l, le-leb f.number g.number (h.1 (omega arith)))

-- Of two faults one comes first.
not-before : (f g : Fault) → comes_first f g ≡ false → Before g f
not-before f g e =
    let s = or_split (ltb f.line g.line) (eqb f.line g.line && leb f.number g.number) e in
    let h = ltb-false f.line g.line s.0 in
    (omega arith, λ k. by_number (leb f.number g.number) refl s.1 (omega arith))
  where
    by_number : (b : Bool) → leb f.number g.number ≡ b → eqb f.line g.line && leb f.number g.number ≡ false
        → f.line ≡ g.line → g.number ≤ f.number
    by_number true t n l =
        let z : true ≡ false = sym (rw (eq-eqb f.line g.line l, t)) ∙ n in
        let y : ◌≡◌ {A = ℕ} 0 1 = cc in absurd (omega arith)
    by_number false t n l = let h = leb-false f.number g.number t in omega arith

before_self : (f : Fault) → Before f f
before_self f = (omega arith, λ k. omega arith)

before-trans : (f g h : Fault) → Before f g → Before g h → Before f h
before-trans f g h a b =
    let p = a.0 in
    let q = b.0 in
    (omega arith, λ k. let x = a.1 (omega arith) in let y = b.1 (omega arith) in omega arith)

-- The first of two is one of them and before both.
record Firsts (f g m : Fault) : Type 0 where
  pub one : (m ≡ f) ⊎ (m ≡ g)
  pub left : Before m f
  pub right : Before m g

firsts : (f g : Fault) → Firsts f g (first f g)
unfolding first
firsts f g = by (comes_first f g) refl
  where
    by : (b : Bool) → comes_first f g ≡ b → Firsts f g (first_by (comes_first f g) f g)
    by true e = rw e (record { one = inl refl; left = before_self f; right = comes-before f g e })
    by false e = rw e (record { one = inr refl; left = not-before f g e; right = before_self g })

-- The least of faults is one of them and before all.
record Leasts (fs : List Fault) (m : Fault) : Type 0 where
  pub among : Memᴰ m fs
  pub before : (g : Fault) → Memᴰ g fs → Before m g

least : (f : Fault) (gs : List Fault) → Leasts (f ∷ gs) (least_from f gs)
least f [] =
    record {
      among = Memᴰ.head refl;
      before = λ g m. ⊎_elim (λ e. rw e (before_self f)) (λ n. absurd (Memᴰ.not-nil n)) (Memᴰ.cases_cons m);
    }
least f (g ∷ gs) = joins f g gs (first f g) (firsts f g) (least (first f g) gs)
  where
    joins : (f g : Fault) (gs : List Fault) (m : Fault) → Firsts f g m → Leasts (m ∷ gs) (least_from m gs) → Leasts (f ∷ g ∷ gs) (least_from m gs)
    joins f g gs m w k =
        let d : Fault = least_from m gs in
        let near : Before d m = k.before m (Memᴰ.head refl) in
        record {
          among =
              ⊎_elim
              (λ e. ⊎_elim (λ p. Memᴰ.head (e ∙ p)) (λ p. Memᴰ.tail (Memᴰ.head (e ∙ p))) w.one)
              (λ n. Memᴰ.tail (Memᴰ.tail n))
              (Memᴰ.cases_cons k.among);
          before = λ h n.
              ⊎_elim
              (λ e. rw e (before-trans d m f near w.left))
              (λ p. ⊎_elim (λ e. rw e (before-trans d m g near w.right)) (λ q. k.before h (Memᴰ.tail q)) (Memᴰ.cases_cons p))
              (Memᴰ.cases_cons n);
        }

-- The verdict by the list of faults.
sound-by : (fs : List Fault) (count n : ℕ) → verdict_by fs count ≡ accepted n → (fs ≡ []) × (n ≡ count)
sound-by [] count n e = (refl, cc)
sound-by (f ∷ fs) count n e = let z : ◌≡◌ {A = ℕ} 0 1 = cc in absurd (omega arith)

-- A list of faults with a refusal, and its least.
record FirstOf (fs : List Fault) (k p : ℕ) : Type 0 where
  pub fault : Fault
  pub among : Memᴰ fault fs
  pub number : fault.number ≡ k
  pub place : suc fault.line ≡ p
  pub least : (g : Fault) → Memᴰ g fs → comes_first fault g ≡ true

faulty-by : (fs : List Fault) (count k p : ℕ) → verdict_by fs count ≡ refused k p → FirstOf fs k p
faulty-by [] count k p e = let z : ◌≡◌ {A = ℕ} 0 1 = cc in absurd (omega arith)
faulty-by (f ∷ fs) count k p e =
    let d = least_from f fs in
    let w = least f fs in
    record {
      fault = d;
      among = w.among;
      number = cc;
      place = cc;
      least = λ g m. before-comes d g (w.before g m);
    }

refuses-by : (fs : List Fault) (count : ℕ) (f : Fault) → Memᴰ f fs → (k : ℕ) × (p : ℕ) × (verdict_by fs count ≡ refused k p)
refuses-by [] count f m = absurd (Memᴰ.not-nil m)
refuses-by (g ∷ gs) count f m = ((least_from g gs).number, suc (least_from g gs).line, refl)

-- The claim.
pub least-fault : LeastFault
unfolding dump_verdict
least-fault =
    record {
      sound = λ dump n e. sound-by (faults_of dump) (length (samples_in dump)) n e;
      accepts = λ dump e. rw e;
      faulty = λ dump k p e.
          let w = faulty-by (faults_of dump) (length (samples_in dump)) k p e in
          record { fault = w.fault; among = w.among; number = w.number; place = w.place; least = w.least };
      refuses = λ dump f m. refuses-by (faults_of dump) (length (samples_in dump)) f m;
    }
