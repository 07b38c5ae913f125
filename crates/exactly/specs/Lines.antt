-- The lines of a text by the places of their bytes (document 01, Image files). Nothing here goes through the text line by line: a line is
-- known by the bytes at its start and at its end.
use Rattle.std.specs.Prelude.{ℕ, ◌-◌, ◌≤◌, ◌<◌, cond, List, ◌⊎◌, ◌≡◌, eqb, length, get_or, take, drop}

-- A line's first byte is the text's first or follows a line feed (Image files, a line runs to).
abbrev pub StartsLine : List ℕ → ℕ → Type 0
StartsLine text p = (p ≡ 0) ⊎ ((0 < p) × (get_or text (p - 1) 0 ≡ 0x0A))

-- It ends at a line feed or where the text does (Image files, a line runs to).
abbrev pub Ends : List ℕ → ℕ → Type 0
Ends text e = (e ≡ length text) ⊎ ((e < length text) × (get_or text e 0 ≡ 0x0A))

-- A line from a place to another; none follows a last line feed (Image files, a line runs to).
pub record LineAt (text : List ℕ) (p e : ℕ) : Type 0 where
  pub inside : p < length text
  pub starts : StartsLine text p
  pub order : p ≤ e
  pub ends : Ends text e
  pub plain : (i : ℕ) → p ≤ i → i < e → ¬ (get_or text i 0 ≡ 0x0A)

-- One carriage return at the end of a line is dropped (Image files, one carriage return).
abbrev pub without_return : List ℕ → List ℕ
without_return l = cond (eqb (get_or l (length l - 1) 0) 0x0D) (take (length l - 1) l) l

-- The characters of the line between two places (Image files, a line runs to).
unfoldable pub characters_of : List ℕ → ℕ → ℕ → List ℕ
characters_of text p e = without_return (take (e - p) (drop p text))
