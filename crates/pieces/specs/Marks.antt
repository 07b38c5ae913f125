-- The samples that are left of a dump from a mark on (request 2026-03, piece after piece).
use Rattle.std.specs.Prelude.{ℕ, ◌≤◌, true, List, [], drop, Option, Some, None}
use Rattle.ground.specs.Numbers.{most_level}
use Rattle.sections.specs.declared.Place.TheVariants.{Between}
use Rattle.tokens.specs.Tokens.{words_of}
use Rattle.dumps.specs.Defined.{body_at}
use Rattle.dumps.specs.Samples.{Sample, moments_from, spread}
use Rattle.pieces.specs.declared.Mark.{Mark}

-- The samples that are left: those of the moment whose time line ends at the mark, the time up to it being what is left of its gap, and of
-- all later ones; none where the dump is over (2026-03, each time line makes one sample).
unfoldable pub left_from : List ℕ → Option Mark → List Sample
left_from dump None = []
left_from dump (Some m) = spread m.left m.level (moments_from (body_at dump Between true) (words_of (drop m.at dump)) m.time m.level)

-- A mark with a level byte of four wires, if there is a mark.
abbrev pub Low : Option Mark → Type 0
Low None = Unit {0}
Low (Some m) = m.level ≤ most_level
