-- Little-endian words of four bytes, as a case and its reply hold them (docs/BENCH.md).
use Rattle.std.specs.Prelude.{ℕ, ◌+◌, ◌*◌, ◌/◌, ◌%◌, List, [], ◌∷◌}

-- The number of four bytes, lowest first.
abbrev pub word_of : ℕ → ℕ → ℕ → ℕ → ℕ
word_of a b c d = a + b * 256 + c * 65536 + d * 16777216

-- A row with the words that stand in the bytes, from its front on; the rest of the row where the bytes run out.
abbrev pub decoded_of : List ℕ → List ℕ → List ℕ
decoded_of bytes [] = []
decoded_of (a ∷ b ∷ c ∷ d ∷ bytes) (x ∷ row) = word_of a b c d ∷ decoded_of bytes row
decoded_of [] (x ∷ row) = x ∷ row
decoded_of (a ∷ []) (x ∷ row) = x ∷ row
decoded_of (a ∷ b ∷ []) (x ∷ row) = x ∷ row
decoded_of (a ∷ b ∷ c ∷ []) (x ∷ row) = x ∷ row

-- The bytes of the words laid over a buffer, from its front on; the rest of the buffer where the words or the room run out.
abbrev pub encoded_of : List ℕ → List ℕ → List ℕ
encoded_of [] out = out
encoded_of (w ∷ words) (a ∷ b ∷ c ∷ d ∷ out) = w % 256 ∷ w / 256 % 256 ∷ w / 65536 % 256 ∷ w / 16777216 % 256 ∷ encoded_of words out
encoded_of (w ∷ words) [] = []
encoded_of (w ∷ words) (a ∷ []) = a ∷ []
encoded_of (w ∷ words) (a ∷ b ∷ []) = a ∷ b ∷ []
encoded_of (w ∷ words) (a ∷ b ∷ c ∷ []) = a ∷ b ∷ c ∷ []

-- The bytes of the words, four for each, lowest first.
abbrev pub bytes_of : List ℕ → List ℕ
bytes_of [] = []
bytes_of (w ∷ words) = w % 256 ∷ w / 256 % 256 ∷ w / 65536 % 256 ∷ w / 16777216 % 256 ∷ bytes_of words
