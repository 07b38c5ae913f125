-- Refusals 1, 5 and 19 of writing an image, exactly when. Assumes nothing.
use Prim.Native.Nat.{ℕ, ◌≤◌, ◌<◌}
use mathlib.Core.Bool.{Bool, true, false}
use mathlib.Core.List.{List}
use mathlib.Core.Logic.Iff
use mathlib.Core.Logic.{◌↔◌, ◌⊎◌, inl, inr}
use mathlib.Core.Path.{◌≡◌, refl, ap, sym, ◌∙◌}
use native.Mathlib.Omega.{arith}
use lib.Dec.{leb}
use lib.ListN.{length}
use Rattle.ground.specs.Kind.{kind_of, known}
use Rattle.ground.specs.Verdict.{Verdict, accepted, refused}
use Rattle.ground.proofs.Verdicts.{apart}
use Rattle.forms.specs.Writing.{image_text, lines_length, length_of, most_length}
use Rattle.forms.proofs.Lengths.{length-image}
use Rattle.formats.specs.Measured.{intel-measured}
use Rattle.intel.specs.Intel.{intel}
use Rattle.image.specs.Promises.{sized, write_by, write_verdict}
use Rattle.exactly.specs.Words.{SmallPart, LargePart, KnownPart, ByPart, SizeOf}
use Rattle.exactly.specs.WriteImage.{WriteImage}
use Rattle.exactly.proofs.Decides.{holds, fails, decides-le}
use Rattle.exactly.proofs.Words.{small_size_lem, large-size, size-known}
use Rattle.exactly.proofs.Steps.{step, Above, above-accepted, above_step, stop, stopped, passed, through, says}
use Rattle.exactly.proofs.PartFirst.{past-size, through-size, to-rest, one, five}

steps : (a b c : Bool) (n : ℕ) → write_by a b c n ≡ step a 1 (step b 5 (step c 19 (accepted n)))
steps false b c n = refl
steps true false c n = refl
steps true true false n = refl
steps true true true n = refl

-- The room that the longest text of each part needs.
small-room : (part : ℕ) → SmallPart part → most_length intel (kind_of part).size ≡ 11276
unfolding lines_length
small-room part s = rw (small_size_lem part s)

large-room : (part : ℕ) → LargePart part → most_length intel (kind_of part).size ≡ 45068
unfolding lines_length
large-room part l = rw (large-size part l)

-- A buffer that is too short, and one that is not, by the part.
room-short : (part n : ℕ) → KnownPart part → n < most_length intel (kind_of part).size → ByPart part (n < 11276) (n < 45068)
room-short part n (inl s) h = inl (s, omega (arith, small-room part s))
room-short part n (inr l) h = inr (l, omega (arith, large-room part l))

short-room : (part n : ℕ) → ByPart part (n < 11276) (n < 45068) → n < most_length intel (kind_of part).size
short-room part n (inl x) = let h = x.1 in omega (arith, small-room part x.0)
short-room part n (inr x) = let h = x.1 in omega (arith, large-room part x.0)

room-enough : (part n : ℕ) → KnownPart part → most_length intel (kind_of part).size ≤ n → ByPart part (11276 ≤ n) (45068 ≤ n)
room-enough part n (inl s) h = inl (s, omega (arith, small-room part s))
room-enough part n (inr l) h = inr (l, omega (arith, large-room part l))

enough-room : (part n : ℕ) → ByPart part (11276 ≤ n) (45068 ≤ n) → most_length intel (kind_of part).size ≤ n
enough-room part n (inl x) = let h = x.1 in omega (arith, small-room part x.0)
enough-room part n (inr x) = let h = x.1 in omega (arith, large-room part x.0)

module _ (part : ℕ) (array out : List ℕ) where
  abbrev most : ℕ
  most = most_length intel (kind_of part).size

  abbrev room : Verdict
  room = step (leb most (length out)) 19 (accepted (length_of intel array))

  by-steps : write_verdict intel part array out ≡ step (known part) 1 (step (sized part (length array)) 5 room)
  unfolding write_verdict
  by-steps = steps (known part) (sized part (length array)) (leb most (length out)) (length_of intel array)

  above-five : Above 5 room
  above-five = above_step (leb most (length out)) 5 19 (accepted (length_of intel array)) (omega arith) (above-accepted 5 (length_of intel array))

  nineteen : (p : ℕ) → (write_verdict intel part array out ≡ refused 19 p)
      ↔ ((p ≡ 0) × SizeOf part (length array) × ByPart part (length out < 11276) (length out < 45068))
  nineteen p = (
    λ e.
        let t = past-size part (length array) (write_verdict intel part array out) room by-steps 19 p (omega arith) e in
        let u = stop (leb most (length out)) 19 p (accepted (length_of intel array)) (above-accepted 19 (length_of intel array)) t.1 in
        (u.1, t.0, room-short part (length out) (size-known part (length array) t.0) ((decides-le most (length out)).no u.0)),
    λ h.
        to-rest part (length array) (write_verdict intel part array out) room by-steps h.1
        ∙ stopped (leb most (length out)) 19 p (accepted (length_of intel array)) (fails (decides-le most (length out)) (short-room part (length out) h.2)) h.0,
  )

  taken : (n : ℕ) → (write_verdict intel part array out ≡ accepted n)
      ↔ ((n ≡ length (image_text intel array))
      × SizeOf part (length array)
      × ByPart part (11276 ≤ length out) (45068 ≤ length out))
  taken n = (
    λ e.
        let t = through-size part (length array) (write_verdict intel part array out) room by-steps n e in
        let v = through (leb most (length out)) 19 n (accepted (length_of intel array)) t.1 in
        let w : accepted (length_of intel array) ≡ accepted n = v.1 in
        let m : n ≡ length_of intel array = cc in (
          m ∙ sym (length-image intel intel-measured array),
          t.0,
          room-enough part (length out) (size-known part (length array) t.0) ((decides-le most (length out)).yes v.0),
        ),
    λ h.
        let m : length_of intel array ≡ n = sym (h.0 ∙ length-image intel intel-measured array) in
        to-rest part (length array) (write_verdict intel part array out) room by-steps h.1
        ∙ passed (leb most (length out)) 19 (accepted (length_of intel array)) (holds (decides-le most (length out)) (enough-room part (length out) h.2))
        ∙ ap accepted m,
  )

  no_other : (k p : ℕ) → write_verdict intel part array out ≡ refused k p → (k ≡ 1) ⊎ ((k ≡ 5) ⊎ (k ≡ 19))
  no_other k p e = go (known part) (sized part (length array)) (leb most (length out)) (sym by-steps ∙ e)
    where
      go : (a b c : Bool) → step a 1 (step b 5 (step c 19 (accepted (length_of intel array)))) ≡ refused k p
          → (k ≡ 1) ⊎ ((k ≡ 5) ⊎ (k ≡ 19))
      go false b c f = inl (cc)
      go true false c f = inr (inl (cc))
      go true true false f = inr (inr (cc))
      go true true true f = absurd (apart k p (length_of intel array) (sym f))

-- The claim for writing an image.
pub write-image : WriteImage
write-image =
    record {
      one = λ part array out p r out' x.
          Iff.trans (says r _ (refused 1 p) x.reply) (one part (length array) _ _ (by-steps part array out) (above-five part array out) p);
      five = λ part array out p r out' x.
          Iff.trans (says r _ (refused 5 p) x.reply) (five part (length array) _ _ (by-steps part array out) (above-five part array out) p);
      nineteen = λ part array out p r out' x. Iff.trans (says r _ (refused 19 p) x.reply) (nineteen part array out p);
      accepted = λ part array out n r out' x. Iff.trans (says r _ (accepted n) x.reply) (taken part array out n);
      no_other = λ part array out k p r out' x e. no_other part array out k p ((says r _ (refused k p) x.reply).0 e);
    }
