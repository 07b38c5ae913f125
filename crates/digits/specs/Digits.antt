-- Hexadecimal digits (document 01, Image files).
use Rattle.std.specs.Prelude.{ℕ, ◌+◌, ◌-◌, Bool, true, false, ◌&&◌, leb, ltb}

-- How many digits there are; as a digit's value it stands for no digit (Image files, upper-case digits).
abbrev pub base : ℕ
base = 16

-- A figure's character is its value and 30h, a letter's its value and 37h (Image files, upper-case digits).
abbrev pub figures : ℕ
figures = 0x30

-- The same of letters: A, with the value ten, is 41h (Image files, upper-case digits).
abbrev pub letters : ℕ
letters = 0x37

-- Whether a character lies between two others, both included (Image files, upper-case digits).
abbrev pub within : ℕ → ℕ → ℕ → Bool
within low high c = leb low c && leb c high

-- 0 to 9 and A to F are digits, and no other character is one (Image files, upper-case digits).
abbrev pub digit_by : Bool → Bool → ℕ → ℕ
digit_by true u c = c - figures
digit_by false true c = c - letters
digit_by false false c = base

-- The value of a character as a digit (Image files, upper-case digits).
unfoldable pub digit_of : ℕ → ℕ
digit_of c = digit_by (within figures (figures + 9) c) (within (letters + 10) (letters + 15) c) c

-- Whether a character is a digit (Image files, upper-case digits).
abbrev pub is_digit : ℕ → Bool
is_digit c = ltb (digit_of c) base

-- Values below ten are written as figures, those from ten on as letters (Image files, upper-case digits).
abbrev pub glyph_by : Bool → ℕ → ℕ
glyph_by true d = d + figures
glyph_by false d = d + letters

-- The character of a digit's value (Image files, upper-case digits).
unfoldable pub glyph_of : ℕ → ℕ
glyph_of d = glyph_by (ltb d 10) d
