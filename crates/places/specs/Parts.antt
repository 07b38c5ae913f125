-- What gathering promises, in named parts.
use Rattle.std.specs.Prelude.{ℕ, suc, ◌+◌, ◌≤◌, min, Bool, true, false, ◌&&◌, List, [], ◌∷◌, ◌++◌, ◌≡◌, leb, ltb, length, take, drop}
use Rattle.places.specs.Places.{places_from, laid_over}

-- The places of one piece added to those before.
pub record Gathers (levels answers : List ℕ) (first : ℕ) (row : List ℕ) (before r : ℕ) (row' : List ℕ) : Type 0 where
  pub count : r ≡ before + length (places_from first levels answers)
  pub said : row' ≡ take before row ++ laid_over (places_from first levels answers) (drop before row)

-- Numbers that ascend, each once: from a lowest on, each above the one before, and all below an end (2026-03, the report).
abbrev pub ascending : ℕ → ℕ → List ℕ → Bool
ascending low end [] = true
ascending low end (k ∷ ks) = leb low k && (ltb k end && ascending (suc k) end ks)

-- The first places of a room laid over a row, if the room holds all that the row wants; else the row is as it was.
pub record LaysOut (room : List ℕ) (found : ℕ) (row row' : List ℕ) (done : Bool) : Type 0 where
  pub held : done ≡ true → min found (length row) ≤ length room
  pub said : done ≡ true → row' ≡ take (min found (length row)) room ++ drop (min found (length row)) row
  pub kept : done ≡ false → row' ≡ row

-- The same with a copy of an array, which is brought back if the places are.
pub record BringsOut (room : List ℕ) (found : ℕ) (copy array row : List ℕ) (done : Bool) (array' row' : List ℕ) : Type 0 where
  pub laid : LaysOut room found row row' done
  pub brought : done ≡ true → array' ≡ copy
  pub kept : done ≡ false → array' ≡ array
