-- What the inner functions promise each other.
use Rattle.std.specs.Prelude.{ℕ, ◌-◌, ◌/◌, ◌%◌, List, [], ◌∷◌, ◌++◌, ◌≡◌}
use Rattle.std.proofs.lemmas.List.Edits.{sets}
use Rattle.ground.specs.Numbers.{byte_values}
use Rattle.lines.specs.Lines.{line_feed}
use Rattle.hexfile.specs.Pairs.{text_of, sum_of}
use Rattle.intel.specs.Intel.{colon}

-- A record's bytes before its data.
abbrev pub head_of : ℕ → ℕ → ℕ → List ℕ
head_of count address type = count ∷ address / byte_values ∷ address % byte_values ∷ type ∷ []

-- What follows a record's data, for the sum of the bytes before.
abbrev pub tail_of : ℕ → List ℕ
tail_of sum = text_of ((byte_values - sum) % byte_values ∷ []) ++ (line_feed ∷ [])

-- A record over a buffer as far as its data, and what its bytes add up to.
pub record PutsHead (count address type : ℕ) (out : List ℕ) (at r : ℕ) (out' : List ℕ) : Type 0 where
  pub said : out' ≡ sets out at (colon ∷ text_of (head_of count address type))
  pub sum : r ≡ sum_of (head_of count address type) % byte_values
