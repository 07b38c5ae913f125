-- The line in which the programs `show` and `trace` tell a refusal.
use Rattle.std.specs.Prelude.{ℕ, List, ◌++◌, codes, decimal}
use Rattle.ground.specs.Verdict.{number_of}
use Rattle.ground.specs.declared.Refusal.{Refusal}

-- The number of the refusal and its place, in words.
abbrev pub refused_text : Refusal → List ℕ
refused_text r = codes "refused " ++ decimal (number_of r.reason) ++ codes " at " ++ decimal r.place
