-- What a line says to the reader, exactly when. Assumes nothing.
use Prim.Native.Nat.{ℕ, ◌≤◌, ◌<◌}
use mathlib.Core.Bool.{Bool, true, false}
use mathlib.Core.List.{List}
use mathlib.Core.Logic.{◌↔◌, inl, inr}
use mathlib.Core.Path.{◌≡◌, refl, sym, ◌∙◌}
use native.Mathlib.Omega.{arith}
use lib.Dec.{eqb}
use lib.ListN.{length, drop}
use Rattle.cells.specs.Cells.{fresh_of}
use Rattle.hexfile.specs.Pairs.{sums_to_zero}
use Rattle.forms.specs.Reading.{Heard, gives, ends, faulty, says_by, fits_in, says_of}
use Rattle.intel.specs.Intel.{bytes_in, record_address, type_of, data_of, well_formed, typed, intel}
use Rattle.exactly.specs.Records.{type, WellFormed, SumsRight, EndType, TypeTaken, Gives, Beyond}
use Rattle.exactly.specs.Faults.{Twice, GivesData}
use Rattle.exactly.proofs.Decides.{holds, fails}
use Rattle.exactly.proofs.Records.{decides-formed, decides-sum, decides-type, decides-last, decides-within}
use Rattle.exactly.proofs.Cells.{Filled, decides-fresh}

-- A test before what a line says: failed, it is faulty with a number.
abbrev test : Bool → ℕ → Heard → Heard
test true k h = h
test false k h = faulty k

abbrev lastly : Bool → Heard
lastly true = ends
lastly false = gives

steps : (a b c d e f : Bool) → says_by a b c d e f ≡ test a 12 (test b 13 (test c 14 (test d 15 (test e 16 (lastly f)))))
steps false b c d e f = refl
steps true false c d e f = refl
steps true true false d e f = refl
steps true true true false e f = refl
steps true true true true false f = refl
steps true true true true true true = refl
steps true true true true true false = refl

-- Numbers that are left.
abbrev Over : ℕ → Heard → Type 0
Over k h = (j : ℕ) → h ≡ faulty j → (k < j) × (j ≤ 16)

over_last : (b : Bool) → Over 16 (lastly b)
over_last true j e = let z : ◌≡◌ {A = ℕ} 0 1 = cc in absurd (omega arith)
over_last false j e = let z : ◌≡◌ {A = ℕ} 0 1 = cc in absurd (omega arith)

over-test : (b : Bool) (k m : ℕ) (h : Heard) → k < m → m ≤ 16 → Over m h → Over k (test b m h)
over-test true k m h x y o j e = let t = o j e in let u = t.0 in let v = t.1 in (omega arith, omega arith)
over-test false k m h x y o j e = let f : m ≡ j = cc in (omega arith, omega arith)

-- The test that failed, and those that passed.
hit : (b : Bool) (k : ℕ) (h : Heard) → Over k h → test b k h ≡ faulty k → b ≡ false
hit true k h o e = let t = (o k e).0 in absurd (omega arith)
hit false k h o e = refl

miss : (b : Bool) (m k : ℕ) (h : Heard) → m < k → test b m h ≡ faulty k → (b ≡ true) × (h ≡ faulty k)
miss true m k h x e = (refl, e)
miss false m k h x e = let f : m ≡ k = cc in absurd (omega arith)

sound-end : (b : Bool) (m : ℕ) (h : Heard) → test b m h ≡ ends → (b ≡ true) × (h ≡ ends)
sound-end true m h e = (refl, e)
sound-end false m h e = let z : ◌≡◌ {A = ℕ} 0 1 = cc in absurd (omega arith)

sound-data : (b : Bool) (m : ℕ) (h : Heard) → test b m h ≡ gives → (b ≡ true) × (h ≡ gives)
sound-data true m h e = (refl, e)
sound-data false m h e = let z : ◌≡◌ {A = ℕ} 0 1 = cc in absurd (omega arith)

last_end : (b : Bool) → lastly b ≡ ends → b ≡ true
last_end true e = refl
last_end false e = let z : ◌≡◌ {A = ℕ} 0 1 = cc in absurd (omega arith)

last-data : (b : Bool) → lastly b ≡ gives → b ≡ false
last-data true e = let z : ◌≡◌ {A = ℕ} 0 1 = cc in absurd (omega arith)
last-data false e = refl

on : (b : Bool) (k : ℕ) (h : Heard) → b ≡ true → test b k h ≡ h
on b k h e = rw e

off : (b : Bool) (k : ℕ) (h : Heard) → b ≡ false → test b k h ≡ faulty k
off b k h e = rw e

module _ (size : ℕ) (text : List ℕ) (p : ℕ) (cells l : List ℕ) (first : Bool) (f : Filled size text p cells) where
  abbrev says : Heard
  says = says_of intel first cells l

  abbrev last : Heard
  last = lastly (eqb (type_of (bytes_in l)) 1)

  abbrev fresh : Bool
  fresh = fresh_of (drop (record_address (bytes_in l)) cells) (data_of (bytes_in l))

  abbrev fits : Bool
  fits = fits_in size (record_address (bytes_in l)) (length (data_of (bytes_in l)))

  abbrev fifth : Heard
  fifth = test fresh 16 last

  abbrev fourth : Heard
  fourth = test fits 15 fifth

  abbrev third : Heard
  third = test (typed (bytes_in l)) 14 fourth

  abbrev second : Heard
  second = test (sums_to_zero (bytes_in l)) 13 third

  by-steps : says ≡ test (well_formed l) 12 second
  unfolding says_of
  by-steps =
      rw f.long
      (steps (well_formed l) (sums_to_zero (bytes_in l)) (typed (bytes_in l)) fits fresh (eqb (type_of (bytes_in l)) 1))

  over-fifteen : Over 15 fifth
  over-fifteen = over-test fresh 15 16 last (omega arith) (omega arith) (over_last (eqb (type_of (bytes_in l)) 1))

  over-fourteen : Over 14 fourth
  over-fourteen = over-test fits 14 15 fifth (omega arith) (omega arith) over-fifteen

  over-thirteen : Over 13 third
  over-thirteen = over-test (typed (bytes_in l)) 13 14 fourth (omega arith) (omega arith) over-fourteen

  over-twelve : Over 12 second
  over-twelve = over-test (sums_to_zero (bytes_in l)) 12 13 third (omega arith) (omega arith) over-thirteen

  pub numbers : (k : ℕ) → says ≡ faulty k → (12 ≤ k) × (k ≤ 16)
  numbers k e = over-test (well_formed l) 11 12 second (omega arith) (omega arith) over-twelve k (sym by-steps ∙ e)

  -- What holds where a later test decides.
  past-formed : (k : ℕ) → 12 < k → says ≡ faulty k → WellFormed l × (second ≡ faulty k)
  past-formed k h e = let t = miss (well_formed l) 12 k second h (sym by-steps ∙ e) in ((decides-formed l).yes t.0, t.1)

  past-sum : (k : ℕ) → 13 < k → says ≡ faulty k → WellFormed l × SumsRight l × (third ≡ faulty k)
  past-sum k h e =
      let t = past-formed k (omega arith) e in
      let u = miss (sums_to_zero (bytes_in l)) 13 k third h t.1 in
      (t.0, (decides-sum l t.0).yes u.0, u.1)

  past-type : (k : ℕ) → 14 < k → says ≡ faulty k → WellFormed l × SumsRight l × TypeTaken l × (fourth ≡ faulty k)
  past-type k h e =
      let t = past-sum k (omega arith) e in
      let u = miss (typed (bytes_in l)) 14 k fourth h t.2 in
      (t.0, t.1, (decides-type l t.0).yes u.0, u.1)

  past_fits : (k : ℕ) → 15 < k → says ≡ faulty k → WellFormed l × SumsRight l × TypeTaken l × (¬ Beyond size l) × (fifth ≡ faulty k)
  past_fits k h e =
      let t = past-type k (omega arith) e in
      let u = miss fits 15 k fifth h t.3 in
      (t.0, t.1, t.2, (decides-within l t.0 size).yes u.0, u.1)

  -- What a line says where tests pass.
  to-second : WellFormed l → says ≡ second
  to-second w = by-steps ∙ on (well_formed l) 12 second (holds (decides-formed l) w)

  to-third : WellFormed l → SumsRight l → says ≡ third
  to-third w s = to-second w ∙ on (sums_to_zero (bytes_in l)) 13 third (holds (decides-sum l w) s)

  to-fourth : WellFormed l → SumsRight l → TypeTaken l → says ≡ fourth
  to-fourth w s t = to-third w s ∙ on (typed (bytes_in l)) 14 fourth (holds (decides-type l w) t)

  to-fifth : WellFormed l → SumsRight l → TypeTaken l → ¬ Beyond size l → says ≡ fifth
  to-fifth w s t n = to-fourth w s t ∙ on fits 15 fifth (holds (decides-within l w size) n)

  to_last : WellFormed l → SumsRight l → TypeTaken l → ¬ Beyond size l → ¬ Twice text p l → says ≡ last
  to_last w s t n o = to-fifth w s t n ∙ on fresh 16 last (holds (decides-fresh size text p cells l w f n) o)

  pub hear-twelve : (says ≡ faulty 12) ↔ (¬ WellFormed l)
  hear-twelve = (
    λ e. (decides-formed l).no (hit (well_formed l) 12 second over-twelve (sym by-steps ∙ e)),
    λ h. by-steps ∙ off (well_formed l) 12 second (fails (decides-formed l) h),
  )

  pub hear-thirteen : (says ≡ faulty 13) ↔ (WellFormed l × ¬ SumsRight l)
  hear-thirteen = (
    λ e.
        let t = past-formed 13 (omega arith) e in
        (t.0, (decides-sum l t.0).no (hit (sums_to_zero (bytes_in l)) 13 third over-thirteen t.1)),
    λ h. to-second h.0 ∙ off (sums_to_zero (bytes_in l)) 13 third (fails (decides-sum l h.0) h.1),
  )

  pub hear-fourteen : (says ≡ faulty 14) ↔ (WellFormed l × SumsRight l × ¬ TypeTaken l)
  hear-fourteen = (
    λ e.
        let t = past-sum 14 (omega arith) e in
        (t.0, t.1, (decides-type l t.0).no (hit (typed (bytes_in l)) 14 fourth over-fourteen t.2)),
    λ h. to-third h.0 h.1 ∙ off (typed (bytes_in l)) 14 fourth (fails (decides-type l h.0) h.2),
  )

  pub hear-fifteen : (says ≡ faulty 15) ↔ (WellFormed l × SumsRight l × TypeTaken l × Beyond size l)
  hear-fifteen = (
    λ e.
        let t = past-type 15 (omega arith) e in
        (t.0, t.1, t.2, (decides-within l t.0 size).no (hit fits 15 fifth over-fifteen t.3)),
    λ h. to-fourth h.0 h.1 h.2 ∙ off fits 15 fifth (fails (decides-within l h.0 size) h.3),
  )

  pub hear-sixteen : (says ≡ faulty 16) ↔ (WellFormed l × SumsRight l × TypeTaken l × (¬ Beyond size l) × Twice text p l)
  hear-sixteen = (
    λ e.
        let t = past_fits 16 (omega arith) e in
        let o = hit fresh 16 last (over_last (eqb (type_of (bytes_in l)) 1)) t.4 in
        (t.0, t.1, t.2, t.3, (decides-fresh size text p cells l t.0 f t.3).no o),
    λ h.
        to-fifth h.0 h.1 h.2 h.3
        ∙ off fresh 16 last (fails (decides-fresh size text p cells l h.0 f h.3) h.4),
  )

  -- A line of data.
  pub hear-data : (says ≡ gives) ↔ GivesData size text p l
  hear-data = (forth, back)
    where
      zero-type : WellFormed l → TypeTaken l → ¬ (type l ≡ 1) → type l ≡ 0
      zero-type w (inl e) n = e
      zero-type w (inr e) n = absurd (n e.0)

      forth : says ≡ gives → GivesData size text p l
      forth e =
          let a = sound-data (well_formed l) 12 second (sym by-steps ∙ e) in
          let w = (decides-formed l).yes a.0 in
          let b = sound-data (sums_to_zero (bytes_in l)) 13 third a.1 in
          let c = sound-data (typed (bytes_in l)) 14 fourth b.1 in
          let d = sound-data fits 15 fifth c.1 in
          let n = (decides-within l w size).yes d.0 in
          let g = sound-data fresh 16 last d.1 in
          let z = last-data (eqb (type_of (bytes_in l)) 1) g.1 in
          record {
            formed = w;
            summed = (decides-sum l w).yes b.0;
            zero = zero-type w ((decides-type l w).yes c.0) ((decides-last l w).no z);
            within = n;
            once = (decides-fresh size text p cells l w f n).yes g.0;
          }

      back : GivesData size text p l → says ≡ gives
      back h =
          let n : ¬ (type l ≡ 1) = λ z. let y = h.zero in omega arith in
          to_last h.formed h.summed (inl h.zero) h.within h.once
          ∙ rw (fails (decides-last l h.formed) n)

  -- The end line.
  pub hear-end : (says ≡ ends) ↔ (WellFormed l × SumsRight l × EndType l)
  hear-end = (forth, back)
    where
      end-type : WellFormed l → TypeTaken l → type l ≡ 1 → EndType l
      end-type w (inl e) n = absurd (omega arith)
      end-type w (inr e) n = e

      forth : says ≡ ends → WellFormed l × SumsRight l × EndType l
      forth e =
          let a = sound-end (well_formed l) 12 second (sym by-steps ∙ e) in
          let w = (decides-formed l).yes a.0 in
          let b = sound-end (sums_to_zero (bytes_in l)) 13 third a.1 in
          let c = sound-end (typed (bytes_in l)) 14 fourth b.1 in
          let d = sound-end fits 15 fifth c.1 in
          let g = sound-end fresh 16 last d.1 in
          let z = last_end (eqb (type_of (bytes_in l)) 1) g.1 in
          (w, (decides-sum l w).yes b.0, end-type w ((decides-type l w).yes c.0) ((decides-last l w).yes z))

      back : WellFormed l × SumsRight l × EndType l → says ≡ ends
      back h =
          let c = h.2.1 in
          let nothing : (a : ℕ) → ¬ Gives l a = λ a g. omega (arith, g.0, g.1) in
          to_last h.0 h.1 (inr h.2) (λ b. nothing b.0 b.1) (λ t. nothing t.0 t.1)
          ∙ rw (holds (decides-last l h.0) h.2.0)
