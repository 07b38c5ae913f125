-- What the inner functions promise each other.
use Rattle.std.specs.Prelude.{ℕ, ◌+◌, ◌≤◌, Bool, false, ◌||◌, List, [], ◌∷◌, ◌≡◌, eqb, length, drop}
use Rattle.lines.specs.Lines.{line_feed, first_line, lines_of}

-- Whether a line feed is among characters.
abbrev pub feed_in : List ℕ → Bool
feed_in [] = false
feed_in (c ∷ cs) = eqb c line_feed || feed_in cs

-- A place in a text from which the line that starts at another ends where that line does.
pub record Skips (text : List ℕ) (at r : ℕ) : Type 0 where
  pub inside : r ≤ length text
  pub ends : at + length (first_line (lines_of (drop at text))) ≡ r + length (first_line (lines_of (drop r text)))
