-- Small words that tables of cases are made of; joined tests, choices and equal truth values are the library's `◌&&◌`, `◌||◌`, `cond` and
-- `beq`.
use Rattle.std.specs.Prelude.{ℕ, ◌/◌, ◌%◌, Bool, true, false, eqb}

-- The number if the test holds, else 0.
abbrev pub or_zero : Bool → ℕ → ℕ
or_zero true n = n
or_zero false n = 0

-- Whether the lowest bit of a number is set.
abbrev pub odd : ℕ → Bool
odd n = eqb (n % 2) 1

-- Whether the highest bit of a byte is set.
abbrev pub highest : ℕ → Bool
highest v = odd (v / 128)

-- Bits 2 and 1 of a byte, as a number.
abbrev pub middle : ℕ → ℕ
middle v = v / 2 % 4
