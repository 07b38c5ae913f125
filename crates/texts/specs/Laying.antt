-- Texts in a buffer.
use Rattle.std.specs.Prelude.{ℕ, ◌+◌, List, ◌++◌, ◌≡◌, length, drop}
use Rattle.std.proofs.lemmas.List.Edits.{sets}
use Rattle.std.specs.Counts.{IsPrefixLen}

-- A text at the start of a buffer: its length is answered, the buffer's other bytes stay; the last part repeats r ≤ length for callers.
pub record Starts (text out : List ℕ) (r : ℕ) (out' : List ℕ) : Type 0 where
  pub shown : out' ≡ text ++ drop r out
  pub count : r ≡ length text
  pub fits : IsPrefixLen r out'

-- A text laid over a buffer from a place on, and where it ends.
pub record Lays (text out : List ℕ) (at r : ℕ) (out' : List ℕ) : Type 0 where
  pub laid : out' ≡ sets out at text
  pub next : r ≡ at + length text
