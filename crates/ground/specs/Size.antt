-- The size of the part that a number names (document 01, The part on our bench; Refusal numbers, 1).
use Rattle.std.specs.Prelude.{ℕ, Bool, true, false, ◌≡◌, Option, Some, None}
use Rattle.ground.specs.Kind.{kind_of, known}
use Rattle.ground.specs.Verdict.{Verdict, accepted, no_part}

-- What each case of a size says: the bytes, or refusal 1 (Refusal numbers, 1).
unfoldable pub size_meant : Option ℕ → Verdict
size_meant (Some n) = accepted n
size_meant None = no_part

-- The size that a part number names, or refusal 1 (Refusal numbers, 1).
abbrev pub size_by : Bool → ℕ → Verdict
size_by true n = accepted n
size_by false n = no_part

-- The size of the part that a number names (The part on our bench; Refusal numbers, 1).
pub record SizesPart (part : ℕ) (r : Option ℕ) : Type 0 where
  pub said : size_meant r ≡ size_by (known part) (kind_of part).size
