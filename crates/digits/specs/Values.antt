-- The value of a digit as the code finds it.
use Rattle.std.specs.Prelude.{ℕ, ◌+◌, ◌%◌, Bool, true, false, ltb}
use Rattle.digits.specs.Digits.{base}

-- What a digit's value has beyond its lower four bits, by whether it lies before the letters.
abbrev pub shift_by : Bool → ℕ
shift_by true = 0
shift_by false = 9

-- The value of a digit; of any other character it means nothing.
unfoldable pub value_of : ℕ → ℕ
value_of c = (c % base + shift_by (ltb c 0x41)) % base
