-- The wires of a dump (request 2026-03, besides SCL, SDA, WP and VCC; docs/DECISIONS.md, "2026-03, wires").
use Rattle.std.specs.Prelude.{ℕ, ◌+◌, ◌*◌, ◌/◌, ◌%◌, Bool, true, false, ◌&&◌, List, [], ◌∷◌, ltb}
use Rattle.ground.specs.Cases.{odd}
use Rattle.codes.specs.Codes.{codes_of}
use Rattle.tokens.specs.Tokens.{same_word}

-- A wire that is declared: its code and its name (2026-03, var).
pub record Var : Type 0 where
  pub code : List ℕ
  pub name : List ℕ

-- The name `SCL` (2026-03, wires).
abbrev pub scl_name : List ℕ
scl_name = codes_of "SCL"

-- The name `SDA` (2026-03, wires).
abbrev pub sda_name : List ℕ
sda_name = codes_of "SDA"

-- The name `WP` (2026-03, wires).
abbrev pub wp_name : List ℕ
wp_name = codes_of "WP"

-- The name `VCC` (2026-03, wires).
abbrev pub vcc_name : List ℕ
vcc_name = codes_of "VCC"

-- A wanted wire has the weight of its bit in a level byte, any other wire none (2026-03, wires: names are exact).
abbrev pub wire_by : Bool → Bool → Bool → Bool → ℕ
wire_by true sda wp vcc = 1
wire_by false true wp vcc = 2
wire_by false false true vcc = 4
wire_by false false false true = 8
wire_by false false false false = 0

-- The weight of the wire with a name (2026-03, wires).
unfoldable pub weight_of : List ℕ → ℕ
weight_of name = wire_by (same_word name scl_name) (same_word name sda_name) (same_word name wp_name) (same_word name vcc_name)

-- The weights of all four wires together (2026-03, refusals 21 and 23).
abbrev pub all_wires : ℕ
all_wires = 15

-- A bit that is named takes the value, any other stays (2026-03, the last values).
abbrev pub bit_by : Bool → ℕ → ℕ → ℕ
bit_by true value old = value
bit_by false value old = old % 2

-- A value laid over the four bits of a level byte that some marks name (2026-03, the last values).
unfoldable pub laid : ℕ → ℕ → ℕ → ℕ
laid value marks old =
    bit_by (odd marks) value old
    + 2 * bit_by (odd (marks / 2)) value (old / 2)
    + 4 * bit_by (odd (marks / 4)) value (old / 4)
    + 8 * bit_by (odd (marks / 8)) value (old / 8)

-- What the marks of a code have if any wire was declared with it (2026-03, values: a code that was not declared).
abbrev pub declared : ℕ
declared = 16

-- The marks of a code with one more wire: one code may serve two names (2026-03, wires: an alias).
abbrev pub marked : ℕ → ℕ → ℕ
marked marks wire = declared + laid 1 wire marks

-- A wire counts for its own code alone (2026-03, wires).
abbrev pub marks_by : Bool → ℕ → ℕ → ℕ
marks_by true wire marks = marked marks wire
marks_by false wire marks = marks

-- The marks of a code, by the wires that are declared, the latest first; 0 for a code that was not declared (2026-03, wires).
abbrev pub marks_of : List Var → List ℕ → ℕ
marks_of [] code = 0
marks_of (v ∷ vs) code = marks_by (same_word code v.code) (weight_of v.name) (marks_of vs code)

-- The weights of the wanted wires that are declared (2026-03, refusal 21).
abbrev pub named_of : List Var → ℕ
named_of [] = 0
named_of (v ∷ vs) = laid 1 (weight_of v.name) (named_of vs)

-- Whether a wire is wanted and among those of some weights (2026-03, refusal 21: named twice).
unfoldable pub has_wire : ℕ → ℕ → Bool
has_wire mask wire = ltb 0 wire && odd (mask / wire)
