-- What the operations and the program keep of an image in Intel's form (demand 2; document 01, Image files).
use Rattle.std.specs.Prelude.{ℕ, ◌+◌, ◌/◌, true, List, Result, ◌≡◌, take}
use Rattle.ground.specs.Kind.{kind_of}
use Rattle.ground.specs.Verdict.{accepted, meant}
use Rattle.ground.specs.declared.Refusal.{Refusal}
use Rattle.forms.specs.Form.{row_size}
use Rattle.forms.specs.Reading.{most_text}
use Rattle.intel.specs.Intel.{intel}
use Rattle.tidying.specs.Shown.{shown_of}
use Rattle.round_trip.specs.RoundTrip.{fixed_form, Takes}

-- The rows of the part that is named (Image files, the writer; request 2026-01).
abbrev pub part_rows : ℕ → ℕ
part_rows part = (kind_of part).size / row_size

-- What a read leaves of an array that was written: the array is the same, and the text's length is answered (Image files).
pub record ReadBack (array array' : List ℕ) (r : Result ℕ Refusal) (n : ℕ) : Type 0 where
  pub same : array' ≡ array
  pub reply : meant r ≡ accepted n

-- The program, for a part: what stands past 65,537 bytes is not asked, a fixed form stays as it is, and so does what was written (Image
-- files).
pub record Tidied (part : ℕ) : Type 0 where
  pub cut : (text : List ℕ) → shown_of part text ≡ shown_of part (take (most_text + 1) text)
  pub keeps : (text array : List ℕ) → Takes intel (part_rows part) text array → fixed_form intel text ≡ true → shown_of part text ≡ text
  pub again : (text array : List ℕ) → Takes intel (part_rows part) text array → shown_of part (shown_of part text) ≡ shown_of part text
