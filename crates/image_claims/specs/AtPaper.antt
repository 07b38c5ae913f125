-- The claims on images, at the image that the paper shows: each is used there whole, with nothing left to be asked (document 01, Image files;
-- Bench cases, P10), for an X4323 and for an X4283 (request 2026-01).
-- For a person from the line: the promises tried on the image that is printed on the sheet.
use Rattle.std.specs.Prelude.{ℕ, ◌≤◌, List, [], ◌∷◌, ◌≡◌, length, take}
use Rattle.intel.specs.Intel.{intel}
use Rattle.texts.specs.Laying.{Starts}
use Rattle.tidying.specs.Shown.{shown_of}
use Rattle.telling.specs.Told.{ReadsThrough, WritesThrough}
use Rattle.round_trip.specs.RoundTrip.{Fixed}
use Rattle.image_cases.specs.ImageCases.{paper_array, paper_text}

-- The paper's image through the door and back, its text in the fixed form, and the program's work on it, once and twice (Bench cases, P10).
pub record PaperFor (part size rows room : ℕ) : Type 0 where
  pub door : (out numbers out' numbers' old numbers₂ array' numbers₂' : List ℕ) (r r₂ : ℕ) → room ≤ length out
      → length numbers ≡ 2 → WritesThrough part (paper_array size) out numbers r out' numbers'
      → length old ≡ size → length numbers₂ ≡ 2 → ReadsThrough part (take 56 out') old numbers₂ r₂ array' numbers₂'
      → (r ≡ 1) × (r₂ ≡ 1) × (array' ≡ paper_array size) × (numbers' ≡ 0 ∷ 56 ∷ []) × (numbers₂' ≡ 0 ∷ 56 ∷ [])
  pub fixed : Fixed intel rows paper_text
  pub tidied : shown_of part paper_text ≡ paper_text
  pub twice : (out out' out₂ out₂' : List ℕ) (r r₂ : ℕ) → Starts (shown_of part paper_text) out r out'
      → Starts (shown_of part (take r out')) out₂ r₂ out₂' → take r₂ out₂' ≡ take r out'
  pub fits : length paper_text ≤ room

-- For the smaller part, and for the larger (Bench cases, P10; request 2026-01).
pub record AtPaper : Type 0 where
  pub small : PaperFor 4323 4096 256 11276
  pub large : PaperFor 4283 16384 1024 45068
