-- The bench cases of image files (document 01, Bench cases, P10 and P11), for an X4323 and for an X4283 (request 2026-01). Parts, sizes and
-- rooms stand in them as numbers.
use Rattle.std.specs.Prelude.{ℕ, ◌≤◌, List, [], ◌++◌, Result, ◌≡◌, length, drop, replicate, set}
use Rattle.codes.specs.Codes.{codes_of}
use Rattle.ground.specs.Verdict.{accepted, refused, meant}
use Rattle.ground.specs.declared.Refusal.{Refusal}
use Rattle.forms.specs.Reading.{taken, bad, reading_of}
use Rattle.forms.specs.Writing.{image_text}
use Rattle.intel.specs.Intel.{intel}
use Rattle.image.specs.Promises.{ReadsImage, WritesImage}
use Rattle.tidying.specs.Shown.{shown_of}

-- The image that the paper shows, of so many bytes: all FFh but 4Ch at 0010h (Image files, all FFh but).
abbrev pub paper_array : ℕ → List ℕ
paper_array size = set (replicate size 0xFF) 0x0010 0x4C

-- Its fixed form, whole (Image files, all FFh but).
abbrev pub paper_text : List ℕ
paper_text = codes_of ":100010004CFFFFFFFFFFFFFFFFFFFFFFFFFFFFFFA3\n:00000001FF\n"

-- The image above is written as that text, that text gives it, and the program leaves the text as it is (Bench cases, P10).
pub record ShownFor (part size room : ℕ) : Type 0 where
  pub written : image_text intel (paper_array size) ≡ paper_text
  pub read : reading_of intel size paper_text ≡ taken (paper_array size)
  pub tidied : shown_of part paper_text ≡ paper_text
  -- the same of the operations: 56 is the text's length
  pub writes : (out out' : List ℕ) (r : Result ℕ Refusal) → room ≤ length out → WritesImage intel part (paper_array size) out r out'
      → (meant r ≡ accepted 56) × (out' ≡ paper_text ++ drop 56 out)
  pub reads : (old array' : List ℕ) (r : Result ℕ Refusal) → length old ≡ size → ReadsImage intel part paper_text old r array'
      → (meant r ≡ accepted 56) × (array' ≡ paper_array size)

-- The paper's image for the smaller part, and for the larger (Bench cases, P10; request 2026-01).
pub record P10 : Type 0 where
  pub small : ShownFor 4323 4096 11276
  pub large : ShownFor 4283 16384 45068

-- An empty text is 17 at 0, the array stays, and that is the line that the program writes (Bench cases, P11).
pub record EmptyFor (part size : ℕ) : Type 0 where
  pub read : reading_of intel size [] ≡ bad 17 0
  pub tidied : shown_of part [] ≡ codes_of "17 0\n"
  pub reads : (old array' : List ℕ) (r : Result ℕ Refusal) → length old ≡ size → ReadsImage intel part [] old r array'
      → (meant r ≡ refused 17 0) × (array' ≡ old)

-- The empty text for the smaller part, and for the larger (Bench cases, P11; request 2026-01).
pub record P11 : Type 0 where
  pub small : EmptyFor 4323 4096
  pub large : EmptyFor 4283 16384
