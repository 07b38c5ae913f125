-- A capture as the list of what went over the bus, entry by entry (document 01, State and time; Bytes on the wire).
use Rattle.std.specs.Prelude.{ℕ, ◌+◌, List, [], ◌∷◌, ◌++◌}
use Rattle.entries.specs.Entries.{Placed, placed_at}
use Rattle.said.specs.Said.{sample_says}
use Rattle.sample.specs.Run.{Part, part_step}

-- The whole list, first sample first, places counted from the given one (What goes in and what comes out).
abbrev pub entries_of : ℕ → List ℕ → List ℕ → Part → List Placed
entries_of place [] ls p = []
entries_of place (e ∷ es) [] p = []
entries_of place (e ∷ es) (l ∷ ls) p =
    placed_at place (sample_says e l p.state (part_step e l p).state) ++ entries_of (place + 1) es ls (part_step e l p)
