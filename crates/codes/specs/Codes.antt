-- Texts and characters in definitions.
use Rattle.std.specs.Prelude.{ℕ, List, [], ◌∷◌}
use Prim.Native.Char.{code}
use Prim.Native.String.{String, [] as ended, ◌∷◌ as ◌before◌}

-- The characters of a text as numbers.
abbrev pub codes_of : String → List ℕ
codes_of ended = []
codes_of (c before s) = code c ∷ codes_of s

-- The character that a time line begins with (2026-03, each time line).
abbrev pub hash : ℕ
hash = 0x23
