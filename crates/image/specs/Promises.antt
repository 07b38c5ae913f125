-- What the operations promise, for every input and in any form of record: the whole reply, and what array and buffer hold at the end.
use Rattle.std.specs.Prelude.{ℕ, Bool, true, false, List, Result, ◌++◌, ◌≡◌, eqb, leb, length, drop}
use Rattle.ground.specs.Kind.{kind_of, known}
use Rattle.ground.specs.Verdict.{Verdict, accepted, refused, meant}
use Rattle.ground.specs.declared.Refusal.{Refusal}
use Rattle.forms.specs.Form.{Form}
use Rattle.forms.specs.Reading.{Reading, bad, reading_of}
use Rattle.forms.specs.Writing.{image_text, length_of, most_length}
use Rattle.reader.specs.Answers.{verdict_of, array_after}

-- Whether an array of a length has the size of the part that a number names (Refusal numbers, 5; request 2026-01).
abbrev pub sized : ℕ → ℕ → Bool
sized part n = eqb n (kind_of part).size

-- Refusals 1 and 5, in this order, come before anything that the text says (Refusal numbers, 1, 5; request 2026-01).
abbrev pub image_by : Bool → Bool → Reading → Reading
image_by false b r = bad 1 0
image_by true false r = bad 5 0
image_by true true r = r

-- What a text gives for the array of the part that is named (Refusal numbers, 1, 5, 11 to 18; request 2026-01).
unfoldable pub image_of : Form → ℕ → List ℕ → List ℕ → Reading
image_of form part text array = image_by (known part) (sized part (length array)) (reading_of form (kind_of part).size text)

-- Reading an image: its verdict, and the array that the text gives (Refusal numbers, 1, 5, 11 to 18; Image files).
pub record ReadsImage (form : Form) (part : ℕ) (text array : List ℕ) (r : Result ℕ Refusal) (array' : List ℕ) : Type 0 where
  pub reply : meant r ≡ verdict_of (image_of form part text array) (length text)
  pub kept : array' ≡ array_after (image_of form part text array) array

-- Refusals 1, 5 and 19 in numeric order, else the length written (Refusal numbers, 1, 5, 19; Image files, it answers the length).
abbrev pub write_by : Bool → Bool → Bool → ℕ → Verdict
write_by false b c n = refused 1 0
write_by true false c n = refused 5 0
write_by true true false n = refused 19 0
write_by true true true n = accepted n

-- The writer's verdict for the part that is named (Refusal numbers, 1, 5, 19; request 2026-01).
unfoldable pub write_verdict : Form → ℕ → List ℕ → List ℕ → Verdict
write_verdict form part array out =
    write_by (known part) (sized part (length array)) (leb (most_length form (kind_of part).size) (length out)) (length_of form array)

-- The buffer after writing: the fixed form, and after it what was there; refused, as it was (Image files, bytes after that stay).
abbrev pub out_after : Form → Verdict → List ℕ → List ℕ → List ℕ
out_after form (accepted n) array out = image_text form array ++ drop n out
out_after form (refused k p) array out = out

-- Writing an image: its verdict, and the buffer with the fixed form at its start (Refusal numbers, 1, 5, 19; Image files).
pub record WritesImage (form : Form) (part : ℕ) (array out : List ℕ) (r : Result ℕ Refusal) (out' : List ℕ) : Type 0 where
  pub reply : meant r ≡ write_verdict form part array out
  pub said : out' ≡ out_after form (write_verdict form part array out) array out
