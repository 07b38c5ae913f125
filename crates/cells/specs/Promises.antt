-- What giving promises, in named parts.
use Rattle.std.specs.Prelude.{ℕ, Bool, List, ◌≡◌}
use Rattle.cells.specs.Cells.{fresh_of, give_of}

-- Whether the first cells were all not given, and the cells with the bytes given to them (Refusal numbers, 16).
pub record GivesTo (cells bytes : List ℕ) (r : Bool) (cells' : List ℕ) : Type 0 where
  pub said : r ≡ fresh_of cells bytes
  pub given : cells' ≡ give_of cells bytes
