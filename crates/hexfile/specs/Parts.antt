-- What the inner functions promise each other.
use Rattle.std.specs.Prelude.{ℕ, ◌+◌, ◌*◌, Bool, true, ◌&&◌, List, [], ◌∷◌}
use Rattle.digits.specs.Digits.{base, is_digit}
use Rattle.digits.specs.Values.{value_of}

-- The bytes of pairs of such values.
abbrev pub values_of : List ℕ → List ℕ
values_of [] = []
values_of (a ∷ []) = []
values_of (a ∷ b ∷ cs) = (value_of a * base + value_of b) ∷ values_of cs

-- Whether characters are all digits.
abbrev pub all_digits : List ℕ → Bool
all_digits [] = true
all_digits (c ∷ cs) = is_digit c && all_digits cs
