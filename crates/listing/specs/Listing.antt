-- The lines of a report (request 2026-03, the report gives sample places; docs/DECISIONS.md, "2026-03, the program").
use Prim.Native.Nat.{ℕ}
use mathlib.Core.List.{List, [], _∷_, _++_}
use Rattle·lines.specs.Lines.{lineFeed}
use Rattle·texts.specs.Numbers.{decimalOf}

-- One place to a line, in decimal (2026-03, the report).
abbrev pub placesText : List ℕ → List ℕ
placesText [] = []
placesText (k ∷ ks) = decimalOf k ++ (lineFeed ∷ placesText ks)
