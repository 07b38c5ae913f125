-- The bench cases of image files: the image that the paper shows is written and read as it is shown, character for character, and an empty
-- text is refused with 17 at 0; one law for every part. Assumes nothing.
use Prim.Native.Nat.{ℕ, ◌≤◌}
use mathlib.Core.Bool.{true}
use mathlib.Core.List.{List, []}
use mathlib.Core.Path.{◌≡◌, refl, sym, ◌∙◌}
use lib.ListN.{length}
use borrow.Author.Tests.{eq-eqb, le-leb}
use Rattle.ground.specs.Kind.{kind_of, known}
use Rattle.ground.specs.Verdict.{accepted}
use Rattle.digits.specs.Digits.{digit_of, glyph_of}
use Rattle.lines.specs.Lines.{trimmed}
use Rattle.intel.specs.Intel.{bytes_in, well_formed, typed, record_line, intel}
use Rattle.forms.specs.Reading.{taken, bad, given_of, says_of, reading_of}
use Rattle.forms.specs.Writing.{image_text, lines_length, length_of, most_length}
use Rattle.image.specs.Promises.{image_of, write_verdict}
use Rattle.texts.specs.Numbers.{decimal_of}
use Rattle.texts.specs.Refusal.{refusal_line}
use Rattle.tidying.specs.Shown.{text_gives, shown_of}
use Rattle.image_cases.specs.ImageCases.{paper_array, paper_text, ShownFor, P10, EmptyFor, P11}

-- What is computed at a size: the text gives the image, which is written as that text, of that length, and needs that room at most.
record Computed (size room : ℕ) : Type 0 where
  long : length (paper_array size) ≡ size
  read : reading_of intel size paper_text ≡ taken (paper_array size)
  written : image_text intel (paper_array size) ≡ paper_text
  count : length_of intel (paper_array size) ≡ 56
  most : most_length intel size ≡ room

-- A part of that size.
module _ (part size : ℕ) (s : (kind_of part).size ≡ size) (k : known part ≡ true) where
  -- An array of its size lets the text decide.
  by-text : (text old : List ℕ) → length old ≡ size → image_of intel part text old ≡ reading_of intel size text
  unfolding image_of
  by-text text old h = rw (k, eq-eqb (length old) (kind_of part).size (h ∙ sym s), s)

  -- So does the program's.
  by-shown : (text : List ℕ) → text_gives part text ≡ reading_of intel size text
  by-shown text = rw (k, s)

  -- The paper's image.
  shown-for : (room : ℕ) → Computed size room → ShownFor part size room
  unfolding write_verdict shown_of
  shown-for room c =
      let v : (out : List ℕ) → room ≤ length out → write_verdict intel part (paper_array size) out ≡ accepted 56 =
      λ out h. rw (k, eq-eqb (length (paper_array size)) (kind_of part).size (c.long ∙ sym s), s, c.most, le-leb room (length out) h, c.count)
      in
      record {
        written = c.written;
        read = c.read;
        tidied = rw (by-shown paper_text, c.read) c.written;
        writes = λ out out' r h w. (w.reply ∙ v out h, w.said ∙ rw (v out h, c.written));
        reads = λ old array' r h w.
            let g : image_of intel part paper_text old ≡ taken (paper_array size) = by-text paper_text old h ∙ c.read in
            (w.reply ∙ rw g, w.kept ∙ rw g);
      }

  -- The empty text.
  empty-for : EmptyFor part size
  unfolding reading_of shown_of refusal_line decimal_of glyph_of
  empty-for =
      record {
        read = refl;
        tidied = rw (by-shown []);
        reads = λ old array' r h w.
            let g : image_of intel part [] old ≡ bad 17 0 = by-text [] old h in
            (w.reply ∙ rw g, w.kept ∙ rw g);
      }

-- At 4,096 bytes.
small : Computed 4096 11276
unfolding reading_of trimmed says_of well_formed typed given_of bytes_in digit_of image_text record_line glyph_of lines_length
small = record { long = refl; read = refl; written = refl; count = refl; most = refl }

-- At 16,384 bytes.
large : Computed 16384 45068
unfolding reading_of trimmed says_of well_formed typed given_of bytes_in digit_of image_text record_line glyph_of lines_length
large = record { long = refl; read = refl; written = refl; count = refl; most = refl }

-- P10: the image above.
pub p10 : P10
unfolding kind_of
p10 = record { small = shown-for 4323 4096 refl refl 11276 small; large = shown-for 4283 16384 refl refl 45068 large }

-- P11: empty text is 17 at 0.
pub p11 : P11
unfolding kind_of
p11 = record { small = empty-for 4323 4096 refl refl; large = empty-for 4283 16384 refl refl }
