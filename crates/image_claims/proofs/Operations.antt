-- An image that was written reads back: where writing accepts an array of bytes, reading accepts what was written,
-- answers the same length, and leaves the same array, whatever stood there before. It rests on the two operations'
-- promises and on the claims that it names.
use Prim.Native.Nat.{ℕ}
use mathlib.Core.Bool.{Bool, true, false, true≢false}
use mathlib.Core.List.{List, ◌++◌}
use mathlib.Core.Path.{◌≡◌, refl, ap, sym, subst, ◌∙◌}
use lib.Dec.{leb}
use lib.ListN.{length, take, drop}
use lib.Seq.{take_at}
use borrow.Author.Tests.{eqb-true, eq-eqb}
use Rattle.ground.specs.Kind.{kind_of, known}
use Rattle.ground.specs.Verdict.{accepted}
use Rattle.forms.specs.Reading.{taken, reading_of}
use Rattle.forms.specs.Writing.{image_text, length_of, most_length}
use Rattle.intel.specs.Intel.{intel}
use Rattle.image.specs.Promises.{sized, image_of, write_by, write_verdict, out_after}
use Rattle.image.proofs.Sizes.{kind-rows}
use Rattle.round_trip.specs.Words.{all_bytes, Rows}
use Rattle.image_claims.specs.Trip.{part_rows}
use Rattle.image_claims.specs.Images.{IntelTrips, Lengths, WriteThenRead}
use Rattle.image_claims.proofs.Trips.{part-trip}

-- A write is accepted only if part and size are right, and then says its length.
record Said (part size : Bool) (long n : ℕ) : Type 0 where
  known : part ≡ true
  right : size ≡ true
  length : long ≡ n

-- So says the table.
write-says : (part size room : Bool) (long n : ℕ) → write_by part size room long ≡ accepted n → Said part size long n
write-says true true true long n e = record { known = refl; right = refl; length = cc }
write-says true true false long n e = absurd (true≢false (cc))
write-says true false room long n e = absurd (true≢false (cc))
write-says false size room long n e = absurd (true≢false (cc))

-- So says the writer's verdict.
written-says : (part : ℕ) (array out : List ℕ) (n : ℕ) → write_verdict intel part array out ≡ accepted n
    → Said (known part) (sized part (length array)) (length_of intel array) n
unfolding write_verdict
written-says part array out n e =
    write-says (known part) (sized part (length array)) (leb (most_length intel (kind_of part).size) (length out)) (length_of intel array) n e

module _ (lengths : Lengths) (part : ℕ) (array out out' : List ℕ) (n : ℕ) (said : write_verdict intel part array out ≡ accepted n)
    (kept : out' ≡ out_after intel (write_verdict intel part array out) array out) where
  -- An accepted array is that of a known part, and has its size.
  written_known : known part ≡ true
  written_known = (written-says part array out n said).known

  written-size : length array ≡ (kind_of part).size
  written-size = eqb-true (length array) (kind_of part).size (written-says part array out n said).right

  -- The answer is the length of its fixed form.
  written-length : length (image_text intel array) ≡ n
  written-length = lengths.answered array ∙ (written-says part array out n said).length

  -- The fixed form stands at the start of the buffer.
  written-text : take n out' ≡ image_text intel array
  written-text =
      let s : out' ≡ image_text intel array ++ drop n out = kept ∙ (rw said) in
      rw s (take_at (image_text intel array) (drop n out) n written-length)

-- The fixed form of a part's array gives it, whatever is there before.
image-gives : IntelTrips → (part : ℕ) (array old : List ℕ) → known part ≡ true → length array ≡ (kind_of part).size → all_bytes array ≡ true
    → length old ≡ (kind_of part).size → image_of intel part (image_text intel array) old ≡ taken array
unfolding image_of
image-gives trips part array old k s b o =
    let r : Rows (part_rows part) array = record { size = s ∙ sym (kind-rows part); bytes = b } in
    let g : reading_of intel (kind_of part).size (image_text intel array) ≡ taken array =
    subst (λ (size : ℕ). reading_of intel size (image_text intel array) ≡ taken array) (kind-rows part) ((part-trip trips part).reads-back array r) in
    rw (k, eq-eqb (length old) (kind_of part).size o) g

-- What was written, by the writer's verdict and what it leaves: read back it gives the array, and its length is the answer.
pub read-back : IntelTrips → Lengths → (part : ℕ) (array out out' old : List ℕ) (n : ℕ) → all_bytes array ≡ true
    → write_verdict intel part array out ≡ accepted n → out' ≡ out_after intel (write_verdict intel part array out) array out
    → length old ≡ (kind_of part).size → (image_of intel part (take n out') old ≡ taken array) × (length (take n out') ≡ n)
read-back trips lengths part array out out' old n b said kept o =
    let t : take n out' ≡ image_text intel array = written-text lengths part array out out' n said kept in
    let k = written_known lengths part array out out' n said kept in
    let s = written-size lengths part array out out' n said kept in
    (rw t (image-gives trips part array old k s b o), ap length t ∙ written-length lengths part array out out' n said kept)

-- Written and read back, for any part: bytes that a write accepted are what a read of the text leaves.
pub write-from : IntelTrips → Lengths → WriteThenRead
write-from trips lengths =
    record {
      back = λ part array out out' old array' r r₂ n b w e o q.
          let g = read-back trips lengths part array out out' old n b (sym w.reply ∙ e) w.said o in
          record { same = q.kept ∙ (rw g.0); reply = q.reply ∙ (rw (g.0, g.1)) };
    }
