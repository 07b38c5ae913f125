-- Laws of what is shown of a text: an image's fixed form, or a refusal's line. Assumes nothing.
use Prim.Native.Nat.{ℕ, ◌/◌, ◌≤◌}
use mathlib.Core.Bool.{Bool, true, false, true≢false}
use mathlib.Core.List.{List, ◌++◌}
use mathlib.Core.Path.{◌≡◌, refl, ap, sym, ◌∙◌}
use native.Mathlib.Omega.{arith}
use lib.ListN.{length, drop, length-append}
use lib.Seq.{length-take-le}
use borrow.Author.Tests.{eq-eqb, le-leb}
use Rattle.std.specs.Prelude.{Result, Ok, Err}
use Rattle.ground.specs.Numbers.{large_size}
use Rattle.ground.specs.Kind.{kind_of, known}
use Rattle.ground.specs.Verdict.{accepted, refused, number_of}
use Rattle.ground.specs.declared.Refusal.{Refusal}
use Rattle.ground.proofs.Verdicts.{is-accepted, is-refused, apart}
use Rattle.forms.specs.Reading.{Reading, taken, bad, reading_of}
use Rattle.forms.specs.Writing.{image_text, length_of, most_length}
use Rattle.forms.proofs.Lengths.{lines-most, length-image}
use Rattle.intel.specs.Intel.{intel}
use Rattle.formats.specs.Measured.{intel-measured}
use Rattle.reader.specs.Answers.{verdict_of, array_after}
use Rattle.image.specs.Promises.{sized, image_by, image_of, write_verdict, ReadsImage, WritesImage}
use Rattle.image.proofs.Sizes.{kind-most}
use Rattle.texts.specs.Refusal.{refusal_line}
use Rattle.texts.specs.Laying.{Starts}
use Rattle.tidying.specs.Shown.{text_gives, shown_of}
use Rattle.tidying.specs.Parts.{Tidies}

-- An array of the part's size passes the test.
right-size : (part : ℕ) (array : List ℕ) → length array ≡ (kind_of part).size → sized part (length array) ≡ true
right-size part array h = eq-eqb (length array) (kind_of part).size h

-- Writing is not refused where the part is known and array and buffer have their sizes.
module _ (part : ℕ) (array out : List ℕ) (b : known part ≡ true) (h : length array ≡ (kind_of part).size)
    (m : most_length intel large_size ≤ length out) where
  written : write_verdict intel part array out ≡ accepted (length_of intel array)
  unfolding write_verdict
  written =
      let k = kind-most part in
      let l : (kind_of part).size / 16 ≤ large_size / 16 = omega arith in
      let n : most_length intel (kind_of part).size ≤ length out =
      omega (arith, lines-most intel ((kind_of part).size / 16) (large_size / 16) l) in
      rw (b, right-size part array h, le-leb (most_length intel (kind_of part).size) (length out) n)

  image-refused : (out' : List ℕ) (r : Result ℕ Refusal) (k : Refusal) → WritesImage intel part array out r out' → r ≡ Err k → ⊥
  image-refused out' r k w e =
      apart _ _ (length_of intel array) (sym (is-refused r (write_verdict intel part array out) k w.reply e) ∙ written)

  image-starts : (out' : List ℕ) (r : Result ℕ Refusal) (n : ℕ) → WritesImage intel part array out r out' → r ≡ Ok n
      → Starts (image_text intel array) out n out'
  image-starts out' r n w e =
      let v : accepted n ≡ accepted (length_of intel array) =
      sym (is-accepted r (write_verdict intel part array out) n w.reply e) ∙ written in
      let q : length_of intel array ≡ n = cc in
      let s : out' ≡ image_text intel array ++ drop n out = rw (written, q) at w.said in
      let l : length (image_text intel array) ≡ n = length-image intel intel-measured array ∙ q in
      let f : n ≤ length out' = omega (arith, ap length s, length-append (image_text intel array) (drop n out)) in
      record { shown = s; count = sym l; fits = (f, sym (length-take-le n out' f)) }

  -- So what is shown of a text that gives this array starts the buffer.
  pub tidies-image : (text out' : List ℕ) (r : Result ℕ Refusal) → shown_of part text ≡ image_text intel array → WritesImage intel part array out r out'
      → Tidies part text out r out'
  tidies-image text out' (Ok n) s w = record { cases = rw s (image-starts out' (Ok n) n w refl) }
  tidies-image text out' (Err k) s w = absurd (image-refused out' (Err k) k w refl)

-- What a reading was, by its verdict.
bad-of : (v : Reading) (n k p : ℕ) → verdict_of v n ≡ refused k p → v ≡ bad k p
bad-of (taken array) n k p e = let z : ◌≡◌ {A = ℕ} 0 1 = cc in absurd (omega arith)
bad-of (bad l q) n k p e = let a : l ≡ k = cc in let b : q ≡ p = cc in rw (a, b)

taken_of : (v : Reading) (old array : List ℕ) (n m : ℕ) → verdict_of v n ≡ accepted m → array ≡ array_after v old → v ≡ taken array
taken_of (taken given) old array n m e f = ap taken (sym f)
taken_of (bad k p) old array n m e f = let z : ◌≡◌ {A = ℕ} 0 1 = cc in absurd (omega arith)

-- A reading that is accepted is that of a known part.
known_by : (b c : Bool) (v : Reading) (array : List ℕ) → image_by b c v ≡ taken array → b ≡ true
known_by true c v array e = refl
known_by false c v array e = absurd (true≢false (cc))

module _ (part : ℕ) (text array array' : List ℕ) (r : Result ℕ Refusal) (h : length array ≡ (kind_of part).size)
    (w : ReadsImage intel part text array r array') where
  -- The array that was lent decides nothing, only the part and the text.
  text-decides : image_of intel part text array ≡ text_gives part text
  unfolding image_of
  text-decides = rw (right-size part array h)

  read_taken : (m : ℕ) → r ≡ Ok m → image_of intel part text array ≡ taken array'
  read_taken m e = taken_of (image_of intel part text array) array array' (length text) m (is-accepted r _ m w.reply e) w.kept

  -- What was read and accepted is of a known part.
  pub read_known : (m : ℕ) → r ≡ Ok m → known part ≡ true
  read_known m e =
      known_by (known part) true (reading_of intel (kind_of part).size text) array' (sym text-decides ∙ read_taken m e)

  -- What is shown of a text that is read, by the reply.
  pub shows-refusal : (k : Refusal) → r ≡ Err k → shown_of part text ≡ refusal_line (number_of k.reason) k.place
  unfolding shown_of
  shows-refusal k e = rw (sym text-decides ∙ bad-of (image_of intel part text array) (length text) _ _ (is-refused r _ k w.reply e))

  pub shows-image : (m : ℕ) → r ≡ Ok m → shown_of part text ≡ image_text intel array'
  unfolding shown_of
  shows-image m e = rw (sym text-decides ∙ read_taken m e)
