-- Refusals 4 to 10, exactly when. Assumes nothing.
use Prim.Native.Nat.{ℕ, ◌+◌, ◌≤◌, ◌<◌}
use mathlib.Core.Bool.{Bool, true, false}
use mathlib.Core.List.{List, [], ◌∷◌}
use mathlib.Core.Logic.Iff
use mathlib.Core.Logic.{◌↔◌}
use mathlib.Core.Path.{◌≡◌, refl, ap, sym, ◌∙◌}
use native.Mathlib.Omega.{arith}
use lib.Dec.{eqb, leb}
use lib.ListN.{length, get_or}
use Rattle.ground.specs.Kind.{kind_of}
use Rattle.ground.specs.Verdict.{Verdict, accepted, refused}
use Rattle.ground.proofs.Verdicts.{apart}
use Rattle.part.specs.declared.state.State.{State}
use Rattle.limits.specs.Samples.{sample_by, samples_of}
use Rattle.refusals.specs.Refusals.{in_range, rows_by, answers_by, judged_of}
use Rattle.exactly.specs.Words.{SizeOf, WithinRanges}
use Rattle.exactly.specs.Replay.{RowsFit, GoodBefore, Replay}
use Rattle.exactly.proofs.Decides.{Decides, holds, fails, decides-le, decides_eq}
use Rattle.exactly.proofs.Words.{decides-size, decides-state}
use Rattle.exactly.proofs.Steps.{step, Above, Most, above_step, most_step, stop, stopped, past, passed, through, says}
use Rattle.exactly.proofs.Samples.{Told, good, long, high, told, nine-back, ten-back, good-back}

-- The table is five tests, one after the other, and then the samples.
steps : (a b c d e : Bool) (v : Verdict) → rows_by a b c d (answers_by e v) ≡ step a 4 (step b 5 (step c 6 (step d 7 (step e 8 v))))
steps false b c d e v = refl
steps true false c d e v = refl
steps true true false d e v = refl
steps true true true false e v = refl
steps true true true true false v = refl
steps true true true true true v = refl

-- Samples are refused with 9 or 10.
sample-numbers : (a b : Bool) (i k p : ℕ) (rest : Verdict) → (rest ≡ refused k p → (9 ≤ k) × (k ≤ 10))
    → sample_by a b i rest ≡ refused k p → (9 ≤ k) × (k ≤ 10)
sample-numbers false b i k p rest h e = let f : 9 ≡ k = cc in (omega arith, omega arith)
sample-numbers true false i k p rest h e = let f : 10 ≡ k = cc in (omega arith, omega arith)
sample-numbers true true i k p rest h e = h e

samples-numbers : (es ls : List ℕ) (i n k p : ℕ) → samples_of i es ls (accepted n) ≡ refused k p → (9 ≤ k) × (k ≤ 10)
samples-numbers [] ls i n k p e = absurd (apart k p n (sym e))
samples-numbers (x ∷ es) [] i n k p e = absurd (apart k p n (sym e))
samples-numbers (x ∷ es) (l ∷ ls) i n k p e =
    sample-numbers (leb x 100000) (leb l 15) i k p (samples_of (i + 1) es ls (accepted n)) (samples-numbers es ls (i + 1) n k p) e

module _ (s : State) (es ls array row : List ℕ) where
  abbrev samples : Verdict
  samples = samples_of 0 es ls (accepted (length ls))

  abbrev eighth : Verdict
  eighth = step (eqb (length row) (length ls)) 8 samples

  abbrev seventh : Verdict
  seventh = step (leb (length ls) 65536) 7 eighth

  abbrev sixth : Verdict
  sixth = step (eqb (length es) (length ls)) 6 seventh

  abbrev fifth : Verdict
  fifth = step (eqb (length array) (kind_of s.chip.part).size) 5 sixth

  by-steps : judged_of s es ls array row ≡ step (in_range s) 4 fifth
  unfolding judged_of
  by-steps = steps (in_range s) (eqb (length array) (kind_of s.chip.part).size) (eqb (length es) (length ls)) (leb (length ls) 65536) (eqb (length row) (length ls)) samples

  -- The array of a state within its ranges has to have its part's size.
  abbrev Fits : Type 0
  Fits = SizeOf s.chip.part (length array)

  decides-array : WithinRanges s → Decides (eqb (length array) (kind_of s.chip.part).size) Fits (¬ Fits)
  decides-array w = decides-size s.chip.part (length array) w.part

  -- The numbers that are left after each test.
  above-eight : Above 8 samples
  above-eight k p e = let t = samples-numbers es ls 0 (length ls) k p e in omega arith

  lower : (k m : ℕ) (v : Verdict) → m ≤ k → Above k v → Above m v
  lower k m v h a j q e = let t = a j q e in omega arith

  above-seven : Above 7 eighth
  above-seven = above_step (eqb (length row) (length ls)) 7 8 samples (omega arith) (lower 8 7 samples (omega arith) above-eight)

  above-six : Above 6 seventh
  above-six = above_step (leb (length ls) 65536) 6 7 eighth (omega arith) (lower 7 6 eighth (omega arith) above-seven)

  above-five : Above 5 sixth
  above-five = above_step (eqb (length es) (length ls)) 5 6 seventh (omega arith) (lower 6 5 seventh (omega arith) above-six)

  above-four : Above 4 fifth
  above-four =
      above_step (eqb (length array) (kind_of s.chip.part).size) 4 5 sixth (omega arith) (lower 5 4 sixth (omega arith) above-five)

  -- What holds where a later number is the reply.
  past-four : (k p : ℕ) → 4 < k → judged_of s es ls array row ≡ refused k p → WithinRanges s × (fifth ≡ refused k p)
  past-four k p h e =
      let t = past (in_range s) 4 k p fifth h (sym by-steps ∙ e) in
      ((decides-state s).yes t.0, t.1)

  past-five : (k p : ℕ) → 5 < k → judged_of s es ls array row ≡ refused k p
      → WithinRanges s × Fits × (sixth ≡ refused k p)
  past-five k p h e =
      let t = past-four k p (omega arith) e in
      let u = past (eqb (length array) (kind_of s.chip.part).size) 5 k p sixth h t.1 in
      (t.0, (decides-array t.0).yes u.0, u.1)

  past-six : (k p : ℕ) → 6 < k → judged_of s es ls array row ≡ refused k p
      → WithinRanges s × Fits × (length es ≡ length ls) × (seventh ≡ refused k p)
  past-six k p h e =
      let t = past-five k p (omega arith) e in
      let u = past (eqb (length es) (length ls)) 6 k p seventh h t.2 in
      (t.0, t.1, (decides_eq (length es) (length ls)).yes u.0, u.1)

  past-seven : (k p : ℕ) → 7 < k → judged_of s es ls array row ≡ refused k p
      → WithinRanges s × Fits × (length es ≡ length ls) × (length ls ≤ 65536) × (eighth ≡ refused k p)
  past-seven k p h e =
      let t = past-six k p (omega arith) e in
      let u = past (leb (length ls) 65536) 7 k p eighth h t.3 in
      (t.0, t.1, t.2, (decides-le (length ls) 65536).yes u.0, u.1)

  past-eight : (k p : ℕ) → 8 < k → judged_of s es ls array row ≡ refused k p
      → RowsFit s es ls array row × (samples ≡ refused k p)
  past-eight k p h e =
      let t = past-seven k p (omega arith) e in
      let u = past (eqb (length row) (length ls)) 8 k p samples h t.4 in (
        record { state = t.0; sized = t.1; rows = t.2; few = t.3; answers = (decides_eq (length row) (length ls)).yes u.0 },
        u.1,
      )

  -- What the verdict is where a test passes.
  to-five : WithinRanges s → judged_of s es ls array row ≡ fifth
  to-five w = by-steps ∙ passed (in_range s) 4 fifth (holds (decides-state s) w)

  to-six : WithinRanges s → Fits → judged_of s es ls array row ≡ sixth
  to-six w a = to-five w ∙ passed (eqb (length array) (kind_of s.chip.part).size) 5 sixth (holds (decides-array w) a)

  to-seven : WithinRanges s → Fits → length es ≡ length ls → judged_of s es ls array row ≡ seventh
  to-seven w a b = to-six w a ∙ passed (eqb (length es) (length ls)) 6 seventh (holds (decides_eq (length es) (length ls)) b)

  to-eight : WithinRanges s → Fits → length es ≡ length ls → length ls ≤ 65536 → judged_of s es ls array row ≡ eighth
  to-eight w a b c = to-seven w a b ∙ passed (leb (length ls) 65536) 7 eighth (holds (decides-le (length ls) 65536) c)

  to-samples : RowsFit s es ls array row → judged_of s es ls array row ≡ samples
  to-samples f =
      to-eight f.state f.sized f.rows f.few
      ∙ passed (eqb (length row) (length ls)) 8 samples (holds (decides_eq (length row) (length ls)) f.answers)

  four : (p : ℕ) → (judged_of s es ls array row ≡ refused 4 p) ↔ ((p ≡ 0) × ¬ WithinRanges s)
  four p = (
    λ e. let t = stop (in_range s) 4 p fifth above-four (sym by-steps ∙ e) in (t.1, (decides-state s).no t.0),
    λ h. by-steps ∙ stopped (in_range s) 4 p fifth (fails (decides-state s) h.1) h.0,
  )

  five : (p : ℕ) → (judged_of s es ls array row ≡ refused 5 p) ↔ ((p ≡ 0) × WithinRanges s × ¬ Fits)
  five p = (
    λ e.
        let t = past-four 5 p (omega arith) e in
        let u = stop (eqb (length array) (kind_of s.chip.part).size) 5 p sixth above-five t.1 in
        (u.1, t.0, (decides-array t.0).no u.0),
    λ h.
        to-five h.1
        ∙ stopped (eqb (length array) (kind_of s.chip.part).size) 5 p sixth (fails (decides-array h.1) h.2) h.0,
  )

  six : (p : ℕ) → (judged_of s es ls array row ≡ refused 6 p)
      ↔ ((p ≡ 0) × WithinRanges s × Fits × ¬ (length es ≡ length ls))
  six p = (
    λ e.
        let t = past-five 6 p (omega arith) e in
        let u = stop (eqb (length es) (length ls)) 6 p seventh above-six t.2 in
        (u.1, t.0, t.1, (decides_eq (length es) (length ls)).no u.0),
    λ h.
        to-six h.1 h.2
        ∙ stopped (eqb (length es) (length ls)) 6 p seventh (fails (decides_eq (length es) (length ls)) h.3) h.0,
  )

  seven : (p : ℕ) → (judged_of s es ls array row ≡ refused 7 p)
      ↔ ((p ≡ 0) × WithinRanges s × Fits × (length es ≡ length ls) × (65536 < length ls))
  seven p = (
    λ e.
        let t = past-six 7 p (omega arith) e in
        let u = stop (leb (length ls) 65536) 7 p eighth above-seven t.3 in
        (u.1, t.0, t.1, t.2, (decides-le (length ls) 65536).no u.0),
    λ h.
        to-seven h.1 h.2 h.3
        ∙ stopped (leb (length ls) 65536) 7 p eighth (fails (decides-le (length ls) 65536) h.4) h.0,
  )

  eight : (p : ℕ) → (judged_of s es ls array row ≡ refused 8 p)
      ↔ ((p ≡ 0)
      × WithinRanges s
      × Fits
      × (length es ≡ length ls)
      × (length ls ≤ 65536)
      × ¬ (length row ≡ length ls))
  eight p = (
    λ e.
        let t = past-seven 8 p (omega arith) e in
        let u = stop (eqb (length row) (length ls)) 8 p samples above-eight t.4 in
        (u.1, t.0, t.1, t.2, t.3, (decides_eq (length row) (length ls)).no u.0),
    λ h.
        to-eight h.1 h.2 h.3 h.4
        ∙ stopped (eqb (length row) (length ls)) 8 p samples (fails (decides_eq (length row) (length ls)) h.5) h.0,
  )

  nine : (p : ℕ) → (judged_of s es ls array row ≡ refused 9 p)
      ↔ (RowsFit s es ls array row × (p < length ls) × GoodBefore es ls p × (100000 < get_or es p 0))
  nine p = (
    λ e.
        let t = past-eight 9 p (omega arith) e in
        forth t.0 samples t.1 (told es ls 0 (length ls) t.0.rows),
    λ h. let z : 0 + p ≡ p = omega arith in to-samples h.0 ∙ nine-back es ls 0 (length ls) p h.0.rows h.1 h.2 h.3 ∙ ap (refused 9) z,
  )
    where
      forth : RowsFit s es ls array row → (v : Verdict) → v ≡ refused 9 p → Told es ls 0 (length ls) v
          → RowsFit s es ls array row × (p < length ls) × GoodBefore es ls p × (100000 < get_or es p 0)
      forth f v e (good g h) = absurd (apart 9 p (length ls) (sym e ∙ g))
      forth f v e (long m g z h x) = let o : p ≡ 0 + m = cc in let q : p ≡ m = omega arith in rw q (f, z, h, x)
      forth f v e (high m g z h x y) = let q : ◌≡◌ {A = ℕ} 9 10 = cc in absurd (omega arith)

  ten : (p : ℕ) → (judged_of s es ls array row ≡ refused 10 p)
      ↔ (RowsFit s es ls array row
      × (p < length ls)
      × GoodBefore es ls p
      × (get_or es p 0 ≤ 100000)
      × (15 < get_or ls p 0))
  ten p = (
    λ e.
        let t = past-eight 10 p (omega arith) e in
        forth t.0 samples t.1 (told es ls 0 (length ls) t.0.rows),
    λ h. let z : 0 + p ≡ p = omega arith in to-samples h.0 ∙ ten-back es ls 0 (length ls) p h.0.rows h.1 h.2 h.3 h.4 ∙ ap (refused 10) z,
  )
    where
      forth : RowsFit s es ls array row → (v : Verdict) → v ≡ refused 10 p → Told es ls 0 (length ls) v
          → RowsFit s es ls array row × (p < length ls) × GoodBefore es ls p × (get_or es p 0 ≤ 100000) × (15 < get_or ls p 0)
      forth f v e (good g h) = absurd (apart 10 p (length ls) (sym e ∙ g))
      forth f v e (long m g z h x) = let q : ◌≡◌ {A = ℕ} 10 9 = cc in absurd (omega arith)
      forth f v e (high m g z h x y) = let o : p ≡ 0 + m = cc in let q : p ≡ m = omega arith in rw q (f, z, h, x, y)

  taken : (n : ℕ) → (judged_of s es ls array row ≡ accepted n)
      ↔ ((n ≡ length ls) × RowsFit s es ls array row × GoodBefore es ls (length ls))
  taken n = (
    λ e.
        let a = through (in_range s) 4 n fifth (sym by-steps ∙ e) in
        let w = (decides-state s).yes a.0 in
        let b = through (eqb (length array) (kind_of s.chip.part).size) 5 n sixth a.1 in
        let c = through (eqb (length es) (length ls)) 6 n seventh b.1 in
        let d = through (leb (length ls) 65536) 7 n eighth c.1 in
        let f = through (eqb (length row) (length ls)) 8 n samples d.1 in
        forth
        (record {
          state = w;
          sized = (decides-array w).yes b.0;
          rows = (decides_eq (length es) (length ls)).yes c.0;
          few = (decides-le (length ls) 65536).yes d.0;
          answers = (decides_eq (length row) (length ls)).yes f.0;
        })
        samples
        f.1
        (told es ls 0 (length ls) ((decides_eq (length es) (length ls)).yes c.0)),
    λ h. to-samples h.1 ∙ good-back es ls 0 (length ls) h.1.rows h.2 ∙ ap accepted (sym h.0),
  )
    where
      forth : RowsFit s es ls array row → (v : Verdict) → v ≡ accepted n → Told es ls 0 (length ls) v
          → (n ≡ length ls) × RowsFit s es ls array row × GoodBefore es ls (length ls)
      forth f v e (good g h) = (cc, f, h)
      forth f v e (long m g z h x) = absurd (apart 9 (0 + m) n (sym g ∙ e))
      forth f v e (high m g z h x y) = absurd (apart 10 (0 + m) n (sym g ∙ e))

  no_other : (k p : ℕ) → judged_of s es ls array row ≡ refused k p → (4 ≤ k) × (k ≤ 10)
  no_other k p e =
      let f = sym by-steps ∙ e in
      let m : Most 10 samples = λ j q g. (samples-numbers es ls 0 (length ls) j q g).1 in (
        above_step (in_range s) 3 4 fifth (omega arith) (lower 4 3 fifth (omega arith) above-four) k p f,
        most_step (in_range s) 10 4 fifth (omega arith)
            (most_step (eqb (length array) (kind_of s.chip.part).size) 10 5 sixth (omega arith)
            (most_step (eqb (length es) (length ls)) 10 6 seventh (omega arith)
            (most_step (leb (length ls) 65536) 10 7 eighth (omega arith)
            (most_step (eqb (length row) (length ls)) 10 8 samples (omega arith) m))))
            k p f,
      )

-- The claim for the replay.
pub replay : Replay
replay =
    record {
      four = λ s es ls array row p r array' row' x. Iff.trans (says r.reply _ (refused 4 p) x.reply) (four s es ls array row p);
      five = λ s es ls array row p r array' row' x. Iff.trans (says r.reply _ (refused 5 p) x.reply) (five s es ls array row p);
      six = λ s es ls array row p r array' row' x. Iff.trans (says r.reply _ (refused 6 p) x.reply) (six s es ls array row p);
      seven = λ s es ls array row p r array' row' x. Iff.trans (says r.reply _ (refused 7 p) x.reply) (seven s es ls array row p);
      eight = λ s es ls array row p r array' row' x. Iff.trans (says r.reply _ (refused 8 p) x.reply) (eight s es ls array row p);
      nine = λ s es ls array row p r array' row' x. Iff.trans (says r.reply _ (refused 9 p) x.reply) (nine s es ls array row p);
      ten = λ s es ls array row p r array' row' x. Iff.trans (says r.reply _ (refused 10 p) x.reply) (ten s es ls array row p);
      accepted = λ s es ls array row n r array' row' x. Iff.trans (says r.reply _ (accepted n) x.reply) (taken s es ls array row n);
      no_other = λ s es ls array row k p r array' row' x e. no_other s es ls array row k p ((says r.reply _ (refused k p) x.reply).0 e);
    }
