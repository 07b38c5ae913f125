-- Bytes as pairs of digits, and their checksum (document 01, Image files).
use Rattle.std.specs.Prelude.{ℕ, ◌+◌, ◌*◌, ◌-◌, ◌/◌, ◌%◌, Bool, true, false, ◌&&◌, List, [], ◌∷◌, eqb}
use Rattle.ground.specs.Numbers.{byte_values}
use Rattle.digits.specs.Digits.{base, digit_of, is_digit, glyph_of}

-- The byte of two digits, the higher first (Image files).
abbrev pub pair_of : ℕ → ℕ → ℕ
pair_of a b = digit_of a * base + digit_of b

-- Whether a text is made of pairs of digits, to its last character (Image files).
abbrev pub paired : List ℕ → Bool
paired [] = true
paired (a ∷ []) = false
paired (a ∷ b ∷ cs) = (is_digit a && is_digit b) && paired cs

-- The bytes of the pairs (Image files).
abbrev pub pairs_of : List ℕ → List ℕ
pairs_of [] = []
pairs_of (a ∷ []) = []
pairs_of (a ∷ b ∷ cs) = pair_of a b ∷ pairs_of cs

-- The digits of bytes, two for each, the higher first (Image files).
abbrev pub text_of : List ℕ → List ℕ
text_of [] = []
text_of (b ∷ bs) = glyph_of (b / base) ∷ glyph_of (b % base) ∷ text_of bs

-- What bytes add up to (Image files, all bytes of a record).
abbrev pub sum_of : List ℕ → ℕ
sum_of [] = 0
sum_of (b ∷ bs) = b + sum_of bs

-- Whether bytes, their checksum included, sum to 0 modulo 256 (Image files, all bytes of a record).
abbrev pub sums_to_zero : List ℕ → Bool
sums_to_zero bs = eqb (sum_of bs % byte_values) 0

-- The byte that makes the sum 0 modulo 256 (Image files, all bytes of a record).
abbrev pub check_of : List ℕ → ℕ
check_of bs = (byte_values - sum_of bs % byte_values) % byte_values
