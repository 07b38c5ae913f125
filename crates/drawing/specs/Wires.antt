-- The wires of a dump, and their levels at a sample (request 2026-03; document 01, What goes in and what comes out).
use Rattle.std.specs.Prelude.{ℕ, ◌/◌, Bool, ◌&&◌, List, [], ◌∷◌}
use Prim.Native.String.{String}
use Rattle.ground.specs.Cases.{odd}
use Rattle.levels.specs.Level.{scl_of, sda_of, wp_of, vcc_of}

-- The names: the four wires of a capture, then own SDA, the SDA line, the RESET pin, write cycle running (request 2026-03).
abbrev pub names : List String
names = "SCL" ∷ "SDA" ∷ "WP" ∷ "VCC" ∷ "OWN" ∷ "LINE" ∷ "RESET" ∷ "WRITING" ∷ []

-- The code of the first wire, a letter; those of the others are the letters after it.
abbrev pub first_code : ℕ
first_code = 0x61

-- Answer bit 0 is the part's own SDA level (What goes in and what comes out).
abbrev pub own_of : ℕ → Bool
own_of answer = odd answer

-- Answer bit 1 is the RESET pin (What goes in and what comes out).
abbrev pub reset_of : ℕ → Bool
reset_of answer = odd (answer / 2)

-- Answer bit 2 says that a write cycle runs (What goes in and what comes out).
abbrev pub writing_of : ℕ → Bool
writing_of answer = odd (answer / 4)

-- The levels in the order of the names; `own` is the part's level as the sample before left it (State and time, rule 4).
abbrev pub levels_of : Bool → ℕ → ℕ → List Bool
levels_of own level answer =
    scl_of level
    ∷ sda_of level
    ∷ wp_of level
    ∷ vcc_of level
    ∷ own_of answer
    ∷ (sda_of level && own)
    ∷ reset_of answer
    ∷ writing_of answer
    ∷ []
