-- Writing an image: for each of its refusal numbers, exactly when an outcome that keeps the contract replies it; and that it replies no
-- other (document 01, Refusal numbers, 1, 5, 19; Image files; request 2026-01).
use Rattle.std.specs.Prelude.{ℕ, ◌≤◌, ◌<◌, List, ◌↔◌, ◌⊎◌, ◌≡◌, length, Result}
use Rattle.ground.specs.declared.Refusal.{Refusal}
use Rattle.ground.specs.Verdict.{accepted, refused, meant}
use Rattle.forms.specs.Writing.{image_text}
use Rattle.intel.specs.Intel.{intel}
use Rattle.image.specs.Promises.{WritesImage}
use Rattle.exactly.specs.Words.{KnownPart, ByPart, SizeOf}

-- Writing an image, by number (Refusal numbers, 1, 5, 19).
pub record WriteImage : Type 0 where
  -- part is not 4323, 4325, 4283 or 4285
  pub one : (part : ℕ) (array out : List ℕ) (p : ℕ) (r : Result ℕ Refusal) (out' : List ℕ) → WritesImage intel part array out r out'
      → (meant r ≡ refused 1 p) ↔ ((p ≡ 0) × ¬ KnownPart part)
  -- array length is not 4,096, or 16,384 for a larger part
  pub five : (part : ℕ) (array out : List ℕ) (p : ℕ) (r : Result ℕ Refusal) (out' : List ℕ) → WritesImage intel part array out r out'
      → (meant r ≡ refused 5 p) ↔ ((p ≡ 0) × KnownPart part × ¬ SizeOf part (length array))
  -- out buffer under 11,276 bytes, or 45,068 for a larger part
  pub nineteen : (part : ℕ) (array out : List ℕ) (p : ℕ) (r : Result ℕ Refusal) (out' : List ℕ) → WritesImage intel part array out r out'
      → (meant r ≡ refused 19 p)
      ↔ ((p ≡ 0) × SizeOf part (length array) × ByPart part (length out < 11276) (length out < 45068))
  -- otherwise it is accepted, with the length of the text written
  pub accepted : (part : ℕ) (array out : List ℕ) (n : ℕ) (r : Result ℕ Refusal) (out' : List ℕ) → WritesImage intel part array out r out'
      → (meant r ≡ accepted n)
      ↔ ((n ≡ length (image_text intel array))
      × SizeOf part (length array)
      × ByPart part (11276 ≤ length out) (45068 ≤ length out))
  -- and no other number is given
  pub no_other : (part : ℕ) (array out : List ℕ) (k p : ℕ) (r : Result ℕ Refusal) (out' : List ℕ) → WritesImage intel part array out r out'
      → meant r ≡ refused k p → (k ≡ 1) ⊎ ((k ≡ 5) ⊎ (k ≡ 19))
