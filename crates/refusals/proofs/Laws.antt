-- Laws of the verdicts on a capture that other crates cite. Assumes nothing.
use Prim.Native.Nat.{ℕ}
use mathlib.Core.Bool.{Bool, true, false}
use mathlib.Core.List.{List}
use mathlib.Core.Path.{◌≡◌, refl, sym, ◌∙◌}
use lib.Dec.{leb, eqb}
use lib.ListN.{length}
use borrow.Author.Tests.{eqb-true, eq-eqb}
use Rattle.ground.specs.Numbers.{most_samples}
use Rattle.ground.specs.Kind.{kind_of}
use Rattle.part.specs.declared.state.State.{State}
use Rattle.ground.specs.Verdict.{Verdict, accepted, refused, number_of, meant}
use Rattle.std.specs.Prelude.{Result, Ok, Err}
use Rattle.ground.specs.declared.Refusal.{Refusal}
use Rattle.limits.specs.Samples.{samples_of}
use Rattle.refusals.specs.Refusals.{rows_by, answers_by, rows_of, capture_of, judged_of, in_range}
use Rattle.ground.proofs.Verdicts.{is-accepted, is-refused, apart}

-- What an accepted capture has passed in the table of refusals 4 to 7, and what its samples said.
pub record Passed (state array rows few : Bool) (v : Verdict) (n : ℕ) : Type 0 where
  pub state-good : state ≡ true
  pub array-good : array ≡ true
  pub rows-good : rows ≡ true
  pub few-enough : few ≡ true
  pub samples : v ≡ accepted n

passed : (a b d e : Bool) (v : Verdict) (n : ℕ) → rows_by a b d e v ≡ accepted n → Passed a b d e v n
passed false b d e v n h = absurd (apart 4 0 n h)
passed true false d e v n h = absurd (apart 5 0 n h)
passed true true false e v n h = absurd (apart 6 0 n h)
passed true true true false v n h = absurd (apart 7 0 n h)
passed true true true true v n h =
    record { state-good = refl; array-good = refl; rows-good = refl; few-enough = refl; samples = h }

-- Where refusals 4 to 7 are refused, what follows does not count; where they are not, it is the verdict.
stops : (a b d e : Bool) (v : Verdict) (m k p : ℕ) → rows_by a b d e (accepted m) ≡ refused k p → rows_by a b d e v ≡ refused k p
stops false b d e v m k p h = h
stops true false d e v m k p h = h
stops true true false e v m k p h = h
stops true true true false v m k p h = h
stops true true true true v m k p h = absurd (apart k p m (sym h))

goes : (a b d e : Bool) (v : Verdict) (m n : ℕ) → rows_by a b d e (accepted m) ≡ accepted n → rows_by a b d e v ≡ v
goes false b d e v m n h = absurd (apart 4 0 n h)
goes true false d e v m n h = absurd (apart 5 0 n h)
goes true true false e v m n h = absurd (apart 6 0 n h)
goes true true true false v m n h = absurd (apart 7 0 n h)
goes true true true true v m n h = refl

-- The same for refusal 8.
answered : (f : Bool) (v : Verdict) (n : ℕ) → answers_by f v ≡ accepted n → (f ≡ true) × (v ≡ accepted n)
answered false v n h = absurd (apart 8 0 n h)
answered true v n h = (refl, h)

module _ (s : State) (es ls array : List ℕ) where
  abbrev PassedBy : Verdict → ℕ → Type 0
  PassedBy v n =
      Passed
      (in_range s)
      (eqb (length array) (kind_of s.chip.part).size)
      (eqb (length es) (length ls))
      (leb (length ls) most_samples)
      v
      n

  rows-passed : (v : Verdict) (n : ℕ) → rows_of s es ls array v ≡ accepted n → PassedBy v n
  rows-passed v n h =
      passed
      (in_range s)
      (eqb (length array) (kind_of s.chip.part).size)
      (eqb (length es) (length ls))
      (leb (length ls) most_samples)
      v
      n
      h

  rows_alike : (v : Verdict) (n : ℕ) → rows_of s es ls array v ≡ accepted n → length es ≡ length ls
  rows_alike v n h = eqb-true (length es) (length ls) (rows-passed v n h).rows-good

  -- A reply that is refused by 4 to 7 is the whole verdict; after one that is accepted the verdict is that on what follows, and the two
  -- rows are of one length.
  module _ (r : Result ℕ Refusal) (m : ℕ) (h : meant r ≡ rows_of s es ls array (accepted m)) where
    pub rows-stop : (v : Verdict) (k : Refusal) → r ≡ Err k → meant r ≡ rows_of s es ls array v
    rows-stop v k g =
        let e = is-refused r (rows_of s es ls array (accepted m)) k h g in
        h ∙ e
        ∙ sym
        (stops
        (in_range s)
        (eqb (length array) (kind_of s.chip.part).size)
        (eqb (length es) (length ls))
        (leb (length ls) most_samples)
        v
        m
        (number_of k.reason)
        k.place
        e)

    pub rows-go : (v : Verdict) (n : ℕ) → r ≡ Ok n → rows_of s es ls array v ≡ v
    rows-go v n g =
        goes
        (in_range s)
        (eqb (length array) (kind_of s.chip.part).size)
        (eqb (length es) (length ls))
        (leb (length ls) most_samples)
        v
        m
        n
        (is-accepted r (rows_of s es ls array (accepted m)) n h g)

    pub rows-one : (n : ℕ) → r ≡ Ok n → length es ≡ length ls
    rows-one n g = rows_alike (accepted m) n (is-accepted r (rows_of s es ls array (accepted m)) n h g)

  -- The rows of an accepted capture are of one length.
  pub capture-rows : (n : ℕ) → capture_of s es ls array ≡ accepted n → length es ≡ length ls
  unfolding capture_of
  capture-rows n h = rows_alike (samples_of 0 es ls (accepted (length ls))) n h

  module _ (row : List ℕ) (n : ℕ) (h : judged_of s es ls array row ≡ accepted n) where
    -- What an accepted replay has passed before refusal 8.
    early : PassedBy (answers_by (eqb (length row) (length ls)) (samples_of 0 es ls (accepted (length ls)))) n
    unfolding judged_of
    early = rows-passed (answers_by (eqb (length row) (length ls)) (samples_of 0 es ls (accepted (length ls)))) n h

    late : (eqb (length row) (length ls) ≡ true) × (samples_of 0 es ls (accepted (length ls)) ≡ accepted n)
    late = answered (eqb (length row) (length ls)) (samples_of 0 es ls (accepted (length ls))) n early.samples

    pub judged-passed : PassedBy (samples_of 0 es ls (accepted (length ls))) n
    judged-passed =
        record {
          state-good = early.state-good;
          array-good = early.array-good;
          rows-good = early.rows-good;
          few-enough = early.few-enough;
          samples = late.1;
        }

    -- So its rows are all of one length.
    pub rows-equal : (length es ≡ length ls) × (length row ≡ length ls)
    rows-equal = (eqb-true (length es) (length ls) early.rows-good, eqb-true (length row) (length ls) late.0)

  -- A replay whose answer row is as long as its level row is refused just where the capture is.
  pub judged-capture : (row : List ℕ) → length row ≡ length ls → judged_of s es ls array row ≡ capture_of s es ls array
  unfolding judged_of capture_of
  judged-capture row h = rw (eq-eqb (length row) (length ls) h)
