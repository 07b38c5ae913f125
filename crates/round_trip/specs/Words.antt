-- Words that the round trip is said in.
use Rattle.std.specs.Prelude.{ℕ, ◌*◌, ◌-◌, Bool, true, not, ◌&&◌, List, [], ◌∷◌, ◌≡◌, eqb, ltb, length, get_or}
use Rattle.ground.specs.Numbers.{byte_values}
use Rattle.lines.specs.Lines.{line_feed, carriage_return}
use Rattle.forms.specs.Form.{row_size}

-- Whether a test holds of every number of a list: a word for the definitions below.
abbrev pub each_is : (ℕ → Bool) → List ℕ → Bool
each_is t [] = true
each_is t (x ∷ xs) = t x && each_is t xs

-- Whether every number of a list is a byte (The part on our bench, the array).
abbrev pub all_bytes : List ℕ → Bool
all_bytes bs = each_is (λ b. ltb b byte_values) bs

-- An array of bytes, so many 16-byte rows of them (Image files, the writer).
pub record Rows (n : ℕ) (array : List ℕ) : Type 0 where
  pub size : length array ≡ n * row_size
  pub bytes : all_bytes array ≡ true

-- No carriage return stands in a text (Image files, each with a line feed).
abbrev pub no_return : List ℕ → Bool
no_return text = each_is (λ c. not (eqb c carriage_return)) text

-- No line feed stands in a text (Image files, a line runs to).
abbrev pub no_feed : List ℕ → Bool
no_feed text = each_is (λ c. not (eqb c line_feed)) text

-- A text's last character is a line feed (Image files, each with a line feed).
abbrev pub ends_in_feed : List ℕ → Bool
ends_in_feed text = eqb (get_or text (length text - 1) 0) line_feed
