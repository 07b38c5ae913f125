-- The values of a wire (request 2026-03, z on SDA counts as 1; refusal 23; docs/DECISIONS.md, "2026-03, values").
use Rattle.std.specs.Prelude.{ℕ, ◌+◌, ◌/◌, ◌%◌, Bool, true, false, ◌&&◌, ◌||◌, eqb, ltb}

-- Whether a character is `x` or `X`: not known (2026-03, values).
abbrev pub is_x : ℕ → Bool
is_x c = eqb c 0x78 || eqb c 0x58

-- Whether a character is `z` or `Z`: not driven (2026-03, values).
abbrev pub is_z : ℕ → Bool
is_z c = eqb c 0x7A || eqb c 0x5A

-- Whether a character is a value: 0, 1, x or z (2026-03, values).
unfoldable pub is_value : ℕ → Bool
is_value c = (eqb c 0x30 || eqb c 0x31) || (is_x c || is_z c)

-- High for 1 and z (2026-03, z on SDA counts as 1).
abbrev pub level_by : Bool → ℕ
level_by true = 1
level_by false = 0

-- The level of a value (2026-03, values).
unfoldable pub level_of : ℕ → ℕ
level_of c = level_by (eqb c 0x31 || is_z c)

-- A wanted wire takes no x, and of the four only SDA takes a z; wires that are skipped take either (2026-03, refusal 23).
unfoldable pub unfit : ℕ → ℕ → Bool
unfit c marks = (is_x c && ltb 0 (marks % 16)) || (is_z c && ltb 0 (marks % 2 + marks / 4 % 4))
