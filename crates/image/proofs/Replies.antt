-- Laws of the operations' replies. Assumes nothing.
use Prim.Native.Nat.{ℕ, zero, suc, ◌+◌, ◌≤◌, ◌<◌}
use mathlib.Core.Bool.{Bool, true, false}
use mathlib.Core.List.{List, ◌∷◌, ◌++◌}
use mathlib.Core.Path.{◌≡◌, refl, ap, sym, ◌∙◌}
use native.Mathlib.Omega.{arith}
use native.Mathlib.Nat.{zero-add}
use lib.Dec.{leb}
use lib.ListN.{length, take, drop, replicate}
use lib.Seq.{sets, sets-eq}
use borrow.Author.Tests.{eqb-true, le-leb, lt-leb}
use Rattle.std.specs.Prelude.{Option, Some, None, Result, Ok, Err}
use Rattle.ground.specs.Kind.{kind_of, known}
use Rattle.ground.specs.Verdict.{accepted, refused, number_of, meant, no_part}
use Rattle.ground.specs.Size.{size_meant, size_by, SizesPart}
use Rattle.ground.specs.declared.Reason.{Reason}
use Rattle.ground.specs.declared.Reason.TheVariants.{PartUnknown, ArrayLength, TextTooLong, RoomTooSmall}
use Rattle.ground.specs.declared.Refusal.{Refusal}
use Rattle.ground.proofs.Verdicts.{apart}
use Rattle.cells.specs.Cells.{not_given}
use Rattle.forms.specs.Form.{Form}
use Rattle.forms.specs.Reading.{Reading, bad, most_text, reading_of}
use Rattle.forms.specs.Writing.{image_text, length_of, most_length, Measured}
use Rattle.forms.proofs.Lengths.{length-image, length_most}
use Rattle.reader.specs.Parts.{ReadsInto}
use Rattle.writer.specs.Parts.{PutsRows}
use Rattle.image.specs.Parts.{array_size_by}
use Rattle.image.specs.Promises.{sized, image_by, image_of, write_by, write_verdict, ReadsImage, WritesImage}

-- The first of cells of which none is given.
none_first : (n m : ℕ) → n ≤ m → take n (replicate m not_given) ≡ replicate n not_given
none_first zero m h = refl
none_first (suc n) zero h = absurd (omega arith)
none_first (suc n) (suc m) h = ap (λ (l : List ℕ). not_given ∷ l) (none_first n m (omega arith))

-- Room for any number of cells that is enough gives the reading over as many as the array has bytes.
pub reads_over : (form : Form) (m : ℕ) (text array array' : List ℕ) (r : Result ℕ Refusal) → length array ≤ m
    → ReadsInto form text (take (length array) (replicate m not_given)) array r array'
    → ReadsInto form text (replicate (length array) not_given) array r array'
reads_over form m text array array' r h q = rw (none_first (length array) m h) at q

-- An array's fixed form laid over a buffer that is long enough for the longest is that form, and after it what was there.
image-laid : (form : Form) → Measured form → (array out : List ℕ) → most_length form (length array) ≤ length out
    → sets out 0 (image_text form array) ≡ image_text form array ++ drop (length_of form array) out
image-laid form m array out h =
    let k : 0 + length (image_text form array) ≤ length out = omega (arith, length-image form m array, length_most form array) in
    sets-eq (image_text form array) out 0 k ∙ rw (zero-add, length-image form m array)

-- A number that names no part has no size, and one that names a part has its.
size-unknown : (b : Bool) (n : ℕ) → no_part ≡ size_by b n → b ≡ false
size-unknown true n e = absurd (apart 1 0 n e)
size-unknown false n e = refl

size-known : (b : Bool) (n m : ℕ) → accepted m ≡ size_by b n → (b ≡ true) × (m ≡ n)
size-known true n m e = (refl, cc)
size-known false n m e = absurd (apart 1 0 m (sym e))

pub size_none : (part : ℕ) (r : Option ℕ) → SizesPart part r → r ≡ None → known part ≡ false
unfolding size_meant
size_none part r s e = size-unknown (known part) (kind_of part).size (rw e at s.said)

pub size_some : (part n : ℕ) (r : Option ℕ) → SizesPart part r → r ≡ Some n → (known part ≡ true) × (n ≡ (kind_of part).size)
unfolding size_meant
size_some part n r s e = size-known (known part) (kind_of part).size n (rw e at s.said)

-- A refusal by the part or the array's length is that of both operations.
read-by : (a b : Bool) (n : ℕ) (k : Reason) (v : Reading) → array_size_by a b n ≡ Err k → image_by a b v ≡ bad (number_of k) 0
read-by false b n k v e = let same : PartUnknown ≡ k = cc in rw (← same)
read-by true false n k v e = let same : ArrayLength ≡ k = cc in rw (← same)
read-by true true n k v e = absurd (let z : ◌≡◌ {A = ℕ} 0 1 = cc in omega arith)

write-by : (a b c : Bool) (n m : ℕ) (k : Reason) → array_size_by a b n ≡ Err k → write_by a b c m ≡ refused (number_of k) 0
write-by false b c n m k e = let same : PartUnknown ≡ k = cc in rw (← same)
write-by true false c n m k e = let same : ArrayLength ≡ k = cc in rw (← same)
write-by true true c n m k e = absurd (let z : ◌≡◌ {A = ℕ} 0 1 = cc in omega arith)

-- What passes both tests.
passed-by : (a b : Bool) (n m : ℕ) → array_size_by a b n ≡ Ok m → (a ≡ true) × (b ≡ true) × (m ≡ n)
passed-by false b n m e = absurd (let z : ◌≡◌ {A = ℕ} 0 1 = cc in omega arith)
passed-by true false n m e = absurd (let z : ◌≡◌ {A = ℕ} 0 1 = cc in omega arith)
passed-by true true n m e = (refl, refl, cc)

-- The tests of a part number and of an array's length, by what they answer.
module _ (form : Form) (part : ℕ) (array : List ℕ) {tested : Result ℕ Reason}
    (t : tested ≡ array_size_by (known part) (sized part (length array)) (kind_of part).size) where
  -- The array of a part that passes has its size.
  pub passed : (n : ℕ) → tested ≡ Ok n
      → (known part ≡ true) × (sized part (length array) ≡ true) × (n ≡ (kind_of part).size) × (length array ≡ n)
  passed n e =
      let p = passed-by (known part) (sized part (length array)) (kind_of part).size n (sym t ∙ e) in
      (p.0, p.1, p.2, eqb-true (length array) (kind_of part).size p.1 ∙ sym p.2)

  -- The ends of reading: refused by these tests, a text that is too long, and any other text, read over cells of which none is given.
  module _ (text : List ℕ) where
    pub reads-refused : (k : Reason) → tested ≡ Err k → ReadsImage form part text array (Err record { reason = k; place = 0 }) array
    unfolding image_of meant
    reads-refused k e =
        let v = read-by (known part) (sized part (length array)) (kind_of part).size k (reading_of form (kind_of part).size text) (sym t ∙ e) in
        record { reply = rw v; kept = rw v }

    pub reads-long : (n : ℕ) → tested ≡ Ok n → most_text < length text
        → ReadsImage form part text array (Err record { reason = TextTooLong; place = 0 }) array
    unfolding image_of reading_of meant
    reads-long n e l =
        let p = passed n e in
        let c = lt-leb (length text) most_text l in
        record { reply = rw (p.0, p.1, c); kept = rw (p.0, p.1, c) }

    pub reads_lines : (n : ℕ) (array' : List ℕ) (r : Result ℕ Refusal) → tested ≡ Ok n → length text ≤ most_text
        → ReadsInto form text (replicate (length array) not_given) array r array' → ReadsImage form part text array r array'
    unfolding image_of reading_of
    reads_lines n array' r e l q =
        let p = passed n e in
        let c = le-leb (length text) most_text l in
        let s : length array ≡ (kind_of part).size = p.3 ∙ p.2 in
        let into : ReadsInto form text (replicate (kind_of part).size not_given) array r array' = rw s at q in
        record { reply = rw (p.0, p.1, c) into.reply; kept = rw (p.0, p.1, c) into.kept }

  -- Those of writing: refused by these tests, a buffer that may be too short, and the form written.
  module _ (out : List ℕ) where
    pub writes-refused : (k : Reason) → tested ≡ Err k → WritesImage form part array out (Err record { reason = k; place = 0 }) out
    unfolding write_verdict meant
    writes-refused k e =
        let v = write-by (known part) (sized part (length array)) (leb (most_length form (kind_of part).size) (length out)) (kind_of part).size (length_of form array) k (sym t ∙ e) in
        record { reply = rw v; said = rw v }

    pub writes-room : (n m : ℕ) → tested ≡ Ok n → m ≡ most_length form n → length out < m
        → WritesImage form part array out (Err record { reason = RoomTooSmall; place = 0 }) out
    unfolding write_verdict meant
    writes-room n m e f l =
        let p = passed n e in
        let g : m ≡ most_length form (kind_of part).size = f ∙ ap (most_length form) p.2 in
        let c = lt-leb (most_length form (kind_of part).size) (length out) (rw (← g) l) in
        record { reply = rw (p.0, p.1, c); said = rw (p.0, p.1, c) }

    pub writes : Measured form → (n m : ℕ) {r : ℕ} {out' : List ℕ} → tested ≡ Ok n → m ≡ most_length form n → m ≤ length out
        → PutsRows form array out r out' → WritesImage form part array out (Ok r) out'
    unfolding write_verdict meant
    writes d n m e f l w =
        let p = passed n e in
        let g : m ≡ most_length form (kind_of part).size = f ∙ ap (most_length form) p.2 in
        let c = le-leb (most_length form (kind_of part).size) (length out) (rw (← g) l) in
        let room : most_length form (length array) ≤ length out = rw (p.3, ← f) l in
        record { reply = rw (p.0, p.1, c, w.next); said = rw (p.0, p.1, c) (w.said ∙ image-laid form d array out room) }
