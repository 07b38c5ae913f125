-- What a dump begins with, its definitions (request 2026-03, sections; IEEE 1364).
use Rattle.std.specs.Prelude.{ℕ, ◌+◌, List, [], ◌∷◌, ◌++◌}
use Prim.Native.String.{String}
use Rattle.codes.specs.Codes.{codes_of}
use Rattle.drawing.specs.Wires.{names, first_code}

-- The line that declares a wire of one bit, by its code and its name (request 2026-03, var).
abbrev pub declared : ℕ → String → List ℕ
declared letter name = codes_of "$var wire 1 " ++ (letter ∷ codes_of " " ++ (codes_of name ++ codes_of " $end\n"))

-- The lines of several wires, from a code on.
abbrev pub declarations : ℕ → List String → List ℕ
declarations letter [] = []
declarations letter (n ∷ ns) = declared letter n ++ declarations (letter + 1) ns

-- All sections: version, timescale, one scope with the eight wires (request 2026-03, sections).
unfoldable pub header_text : List ℕ
header_text =
    codes_of "$version Qillampu trace $end\n$timescale 1 us $end\n$scope module qillampu $end\n"
    ++ (declarations first_code names ++ codes_of "$upscope $end\n$enddefinitions $end\n")
