-- How what `show` and `trace` write ends, by what came of the case of their input.
use Rattle.std.specs.Prelude.{ℕ, Bool, true, false, List, [], ◌∷◌, ◌++◌, Result, Ok, Err, codes}
use Rattle.intake.specs.Refused.{refused_text}
use Rattle.intake.specs.declared.stops.Stop.{Stop}
use Rattle.intake.specs.declared.stops.Stop.TheVariants.{Refused, Io}

-- A line where the case is refused or is not whole; where something could not be read or written, nothing more.
abbrev pub ending_of : Result Bool Stop → List ℕ
ending_of (Ok true) = []
ending_of (Ok false) = codes "no whole case: it is cut off, or longer than docs/BENCH.md allows" ++ 10 ∷ []
ending_of (Err (Refused r)) = refused_text r ++ 10 ∷ []
ending_of (Err (Io e)) = []
