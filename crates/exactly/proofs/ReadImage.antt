-- Refusals 1, 5 and 11 to 18 of reading an image, exactly when. Assumes nothing.
use Prim.Native.Nat.{ℕ, ◌+◌, ◌≤◌, ◌<◌}
use mathlib.Core.Bool.{Bool, true, false}
use mathlib.Core.List.{List}
use mathlib.Core.Logic.Iff
use mathlib.Core.Logic.{◌↔◌, ◌⊎◌, inl, inr}
use mathlib.Core.Path.{◌≡◌, refl, ap, sym, ◌∙◌}
use native.Mathlib.Omega.{arith}
use lib.Dec.{leb}
use lib.ListN.{length}
use Rattle.ground.specs.Kind.{kind_of, known}
use Rattle.ground.specs.Verdict.{Verdict, accepted, refused}
use Rattle.forms.specs.Reading.{Reading, bad, text_by, reading_of}
use Rattle.intel.specs.Intel.{intel}
use Rattle.reader.specs.Answers.{verdict_of}
use Rattle.image.specs.Promises.{sized, image_by, image_of}
use Rattle.exactly.specs.Words.{ByPart, SizeOf}
use Rattle.exactly.specs.Records.{WellFormed, SumsRight, TypeTaken, Gives}
use Rattle.exactly.specs.Faults.{FirstAt, EndAt}
use Rattle.exactly.specs.ReadImage.{TextFits, ReadImage}
use Rattle.exactly.proofs.Decides.{holds, fails, decides-le}
use Rattle.exactly.proofs.Words.{one-kind, size_is}
use Rattle.exactly.proofs.Steps.{step, Above, above_step, stop, stopped, past, passed, through, says}
use Rattle.exactly.proofs.PartFirst.{past-size, through-size, to-rest, one, five}
use Rattle.exactly.proofs.ReadLines.{lines, twelve, thirteen, fourteen, fifteen, sixteen, seventeen, eighteen, whole-text, line-numbers, verdict-bad}

steps : (a b c : Bool) (r : Reading) (n : ℕ)
    → verdict_of (image_by a b (text_by c r)) n ≡ step a 1 (step b 5 (step c 11 (verdict_of r n)))
steps false b c r n = refl
steps true false c r n = refl
steps true true false r n = refl
steps true true true r n = refl

-- A place past an array's end, by the part.
past_end : (part size a : ℕ) → SizeOf part size → size ≤ a → ByPart part (0x0FFF < a) (0x3FFF < a)
past_end part size a (inl x) h = let e = x.1 in inl (x.0, omega arith)
past_end part size a (inr x) h = let e = x.1 in inr (x.0, omega arith)

end-past : (part size a : ℕ) → SizeOf part size → ByPart part (0x0FFF < a) (0x3FFF < a) → size ≤ a
end-past part size a (inl x) (inl y) = let e = x.1 in let h = y.1 in omega arith
end-past part size a (inl x) (inr y) = absurd (one-kind part x.0 y.0)
end-past part size a (inr x) (inl y) = absurd (one-kind part y.0 x.0)
end-past part size a (inr x) (inr y) = let e = x.1 in let h = y.1 in omega arith

module _ (part : ℕ) (text array : List ℕ) where
  abbrev verdict : Verdict
  verdict = verdict_of (image_of intel part text array) (length text)

  -- The lines, judged by the part's size.
  abbrev third : Verdict
  third = verdict_of (lines (kind_of part).size text) (length text)

  abbrev second : Verdict
  second = step (leb (length text) 65536) 11 third

  by-steps : verdict ≡ step (known part) 1 (step (sized part (length array)) 5 second)
  unfolding image_of reading_of
  by-steps = steps (known part) (sized part (length array)) (leb (length text) 65536) (lines (kind_of part).size text) (length text)

  above-eleven : Above 11 third
  above-eleven k p e =
      (line-numbers (kind_of part).size text k p ((verdict-bad (lines (kind_of part).size text) (length text) k p).0 e)).0

  above-five : Above 5 second
  above-five = above_step (leb (length text) 65536) 5 11 third (omega arith) (λ j q e. let h = above-eleven j q e in omega arith)

  -- They are judged alike by the array's length.
  same_lines : SizeOf part (length array) → third ≡ verdict_of (lines (length array) text) (length text)
  same_lines s = ap (λ (n : ℕ). verdict_of (lines n text) (length text)) (sym (size_is part (length array) s))

  eleven : (p : ℕ) → (verdict ≡ refused 11 p) ↔ ((p ≡ 0) × SizeOf part (length array) × (65536 < length text))
  eleven p = (
    λ e.
        let t = past-size part (length array) verdict second by-steps 11 p (omega arith) e in
        let u = stop (leb (length text) 65536) 11 p third above-eleven t.1 in
        (u.1, t.0, (decides-le (length text) 65536).no u.0),
    λ h.
        to-rest part (length array) verdict second by-steps h.1
        ∙ stopped (leb (length text) 65536) 11 p third (fails (decides-le (length text) 65536) h.2) h.0,
  )

  -- What the lines decide.
  to-lines : TextFits part text array → verdict ≡ verdict_of (lines (length array) text) (length text)
  to-lines f =
      to-rest part (length array) verdict second by-steps f.sized
      ∙ passed (leb (length text) 65536) 11 third (holds (decides-le (length text) 65536) f.short)
      ∙ same_lines f.sized

  of-lines : (k p : ℕ) → 11 < k → verdict ≡ refused k p → TextFits part text array × (lines (length array) text ≡ bad k p)
  of-lines k p m e =
      let t = past-size part (length array) verdict second by-steps k p (omega arith) e in
      let u = past (leb (length text) 65536) 11 k p third m t.1 in (
        record { sized = t.0; short = (decides-le (length text) 65536).yes u.0 },
        (verdict-bad (lines (length array) text) (length text) k p).0 (sym (same_lines t.0) ∙ u.1),
      )

  by_lines : (k p : ℕ) {A : Type 0} → 11 < k → (lines (length array) text ≡ bad k p) ↔ A → (verdict ≡ refused k p) ↔ (TextFits part text array × A)
  by_lines k p m h = (
    λ e. let t = of-lines k p m e in (t.0, h.0 t.1),
    λ x. to-lines x.0 ∙ (verdict-bad (lines (length array) text) (length text) k p).1 (h.1 x.1),
  )

  -- 15 in the paper's numbers.
  abbrev Past : List ℕ → Type 0
  Past l = WellFormed l × SumsRight l × TypeTaken l × ((a : ℕ) × Gives l a × ByPart part (0x0FFF < a) (0x3FFF < a))

  beyond-part : (p : ℕ) → (verdict ≡ refused 15 p) ↔ (TextFits part text array × ((e : ℕ) × FirstAt (length array) text p e Past))
  beyond-part p = (
    λ g.
        let t = (by_lines 15 p (omega arith) (fifteen (length array) text p)).0 g in
        let u = t.1.1 in
        let s = u.such in
        let b = s.3 in
        let q = past_end part (length array) b.0 t.0.sized b.2 in
        (t.0, (t.1.0, record { line = u.line; before = u.before; such = (s.0, s.1, s.2, (b.0, b.1, q)) })),
    λ h.
        let u = h.1.1 in
        let s = u.such in
        let b = s.3 in
        let q = end-past part (length array) b.0 h.0.sized b.2 in
        (by_lines 15 p (omega arith) (fifteen (length array) text p)).1
        (h.0, (h.1.0, record { line = u.line; before = u.before; such = (s.0, s.1, s.2, (b.0, b.1, q)) })),
  )

  taken-text : (n : ℕ) → (verdict ≡ accepted n)
      ↔ (TextFits part text array
      × ((q e : ℕ) × EndAt (length array) text q e × (n ≡ length text) × (length text ≤ e + 1)))
  taken-text n = (
    λ g.
        let t = through-size part (length array) verdict second by-steps n g in
        let v = through (leb (length text) 65536) 11 n third t.1 in
        let s = t.0 in
        let x = (whole-text (length array) text n).0 (sym (same_lines s) ∙ v.1) in
        (record { sized = s; short = (decides-le (length text) 65536).yes v.0 }, x),
    λ h. to-lines h.0 ∙ (whole-text (length array) text n).1 h.1,
  )

  no_other : (k p : ℕ) → verdict ≡ refused k p → (k ≡ 1) ⊎ ((k ≡ 5) ⊎ ((11 ≤ k) × (k ≤ 18)))
  no_other k p e = go (known part) (sized part (length array)) (leb (length text) 65536) (sym by-steps ∙ e)
    where
      go : (a b c : Bool) → step a 1 (step b 5 (step c 11 third)) ≡ refused k p → (k ≡ 1) ⊎ ((k ≡ 5) ⊎ ((11 ≤ k) × (k ≤ 18)))
      go false b c f = inl (cc)
      go true false c f = inr (inl (cc))
      go true true false f = let z : 11 ≡ k = cc in inr (inr (omega arith, omega arith))
      go true true true f =
          let t = line-numbers (kind_of part).size text k p ((verdict-bad (lines (kind_of part).size text) (length text) k p).0 f) in
          inr (inr (omega (arith, t.0), t.1))

-- The claim for reading an image.
pub read-image : ReadImage
read-image =
    record {
      one = λ part text array p r array' x.
          Iff.trans (says r _ (refused 1 p) x.reply) (one part (length array) _ _ (by-steps part text array) (above-five part text array) p);
      five = λ part text array p r array' x.
          Iff.trans (says r _ (refused 5 p) x.reply) (five part (length array) _ _ (by-steps part text array) (above-five part text array) p);
      eleven = λ part text array p r array' x. Iff.trans (says r _ (refused 11 p) x.reply) (eleven part text array p);
      twelve = λ part text array p r array' x.
          Iff.trans (says r _ (refused 12 p) x.reply) (by_lines part text array 12 p (omega arith) (twelve (length array) text p));
      thirteen = λ part text array p r array' x.
          Iff.trans (says r _ (refused 13 p) x.reply) (by_lines part text array 13 p (omega arith) (thirteen (length array) text p));
      fourteen = λ part text array p r array' x.
          Iff.trans (says r _ (refused 14 p) x.reply) (by_lines part text array 14 p (omega arith) (fourteen (length array) text p));
      fifteen = λ part text array p r array' x. Iff.trans (says r _ (refused 15 p) x.reply) (beyond-part part text array p);
      sixteen = λ part text array p r array' x.
          Iff.trans (says r _ (refused 16 p) x.reply) (by_lines part text array 16 p (omega arith) (sixteen (length array) text p));
      seventeen = λ part text array p r array' x.
          Iff.trans (says r _ (refused 17 p) x.reply) (by_lines part text array 17 p (omega arith) (seventeen (length array) text p));
      eighteen = λ part text array p r array' x.
          Iff.trans (says r _ (refused 18 p) x.reply) (by_lines part text array 18 p (omega arith) (eighteen (length array) text p));
      accepted = λ part text array n r array' x. Iff.trans (says r _ (accepted n) x.reply) (taken-text part text array n);
      no_other = λ part text array k p r array' x e. no_other part text array k p ((says r _ (refused k p) x.reply).0 e);
    }
