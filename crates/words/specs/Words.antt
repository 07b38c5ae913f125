-- The words of a command line as numbers (request 2026-01, programs take it as an argument). How they are read is the row "2026-01,
-- arguments" of docs/DECISIONS.md.
use Rattle.std.specs.Prelude.{ℕ, ◌+◌, ◌*◌, ◌-◌, ◌^◌, min, Bool, true, false, ◌&&◌, ◌||◌, Option, Some, None, List, [], ◌∷◌, ltb, eqb, length}
use denote.Ref.{Bor}
use Rattle.ground.specs.Numbers.{x4323}
use Rattle.digits.specs.Digits.{base, within}

-- How many values a digit of a decimal number has; those of a hexadecimal one are `base` of `digits` (2026-01, arguments: decimal).
abbrev pub decimal_base : ℕ
decimal_base = 10

-- 0 to 9 count nought to nine, A to F and a to f ten to fifteen; any other character is no digit (2026-01, arguments: either case).
abbrev pub figure_by : Bool → Bool → Bool → ℕ → ℕ
figure_by true upper lower c = c - 0x30
figure_by false true lower c = c - 0x41 + decimal_base
figure_by false false true c = c - 0x61 + decimal_base
figure_by false false false c = base

-- The value of a character as a digit (2026-01, arguments: digits in either case).
unfoldable pub figure_of : ℕ → ℕ
figure_of c = figure_by (within 0x30 0x39 c) (within 0x41 0x46 c) (within 0x61 0x66 c) c

-- Whether each of the characters is a digit in a base (2026-01, arguments: no sign: no other character is taken).
abbrev pub all_figures : ℕ → List ℕ → Bool
all_figures radix [] = true
all_figures radix (c ∷ cs) = ltb (figure_of c) radix && all_figures radix cs

-- Whether characters are a number in a base: at least one, and digits all (2026-01, arguments: numbers by position).
unfoldable pub numeral : ℕ → List ℕ → Bool
numeral radix [] = false
numeral radix (c ∷ cs) = all_figures radix (c ∷ cs)

-- Its value: each digit counts as often as the base's power by how many digits follow it (2026-01, arguments: numbers by position).
abbrev pub figures_value : ℕ → List ℕ → ℕ
figures_value radix [] = 0
figures_value radix (c ∷ cs) = figure_of c * radix ^ length cs + figures_value radix cs

-- What follows the mark of a hexadecimal word, if it has the mark (2026-01, arguments: hexadecimal after `0x`).
abbrev pub after_mark_by : Bool → List ℕ → List ℕ
after_mark_by true cs = cs
after_mark_by false cs = []

-- What follows `0x` in a word; nothing where it does not begin so, nor where it begins with `0X` (2026-01, arguments: after `0x`).
unfoldable pub after_mark : List ℕ → List ℕ
after_mark [] = []
after_mark (first ∷ []) = []
after_mark (first ∷ second ∷ cs) = after_mark_by (eqb first 0x30 && eqb second 0x78) cs

-- Whether a word is a number (2026-01, arguments: decimal, or hexadecimal after `0x`).
unfoldable pub is_number : List ℕ → Bool
is_number word = numeral decimal_base word || numeral base (after_mark word)

-- By whether a word is decimal or hexadecimal: its value, cut to the field's largest; what is neither counts as that (2026-01, arguments: too wide).
abbrev pub counts_by : Bool → Bool → ℕ → List ℕ → ℕ
counts_by true hexadecimal most word = min (figures_value decimal_base word) most
counts_by false true most word = min (figures_value base (after_mark word)) most
counts_by false false most word = most

-- What a word counts in a field, given the field's largest value (2026-01, arguments: counts as the largest value of its field).
unfoldable pub counts_as : ℕ → List ℕ → ℕ
counts_as most word = counts_by (numeral decimal_base word) (numeral base (after_mark word)) most word

-- The largest number that a part's field takes (request 2026-01, programs take it as an argument).
abbrev pub widest_part : ℕ
widest_part = 65535

-- The part that a program's word names; 4323 where there is none (request 2026-01, 4323 without one).
abbrev pub part_named : Bool → List ℕ → ℕ
part_named false word = x4323
part_named true word = counts_as widest_part word

-- The largest number that a field of one byte takes (request 2026-03, select and stored byte come with the dump).
abbrev pub widest_byte : ℕ
widest_byte = 255

-- The select or the stored byte that a program's word gives; 0 where there is none (request 2026-03, select, stored byte).
abbrev pub byte_named : Bool → List ℕ → ℕ
byte_named false word = 0
byte_named true word = counts_as widest_byte word

-- The same of a word that may be there or not (requests 2026-01 and 2026-03, programs take it as an argument).
abbrev pub part_given : Option (Bor (List ℕ)) → ℕ
part_given None = part_named false []
part_given (Some word) = part_named true word.now

-- The byte of a word that may be there or not (request 2026-03, select, stored byte).
abbrev pub byte_given : Option (Bor (List ℕ)) → ℕ
byte_given None = byte_named false []
byte_given (Some word) = byte_named true word.now
