-- What the operations on pieces promise, for every input (request 2026-03, piece after piece).
use Rattle.std.specs.Prelude.{ℕ, min, List, ◌++◌, ◌≡◌, length, take, drop, Option}
use Rattle.ground.specs.Numbers.{most_samples}
use Rattle.dumps.specs.Samples.{samples_in, elapsed_of, levels_of}
use Rattle.pieces.specs.declared.Mark.{Mark}
use Rattle.pieces.specs.declared.Filled.{Filled}
use Rattle.pieces.specs.Marks.{left_from, Low}

-- The mark at which a dump begins has all its samples left (2026-03, samples).
pub record Begins (dump : List ℕ) (r : Option Mark) : Type 0 where
  pub left : left_from dump r ≡ samples_in dump
  pub low : Low r

-- As many samples as are left, and at most so many: the rows have them in order and are else as they were, and the mark has the rest left
-- (2026-03, piece after piece).
pub record FillsAtMost (most : ℕ) (dump : List ℕ) (m : Option Mark) (elapsed levels : List ℕ) (r : Filled) (elapsed' levels' : List ℕ) : Type 0 where
  pub count : r.count ≡ min (length (left_from dump m)) most
  pub times : elapsed' ≡ elapsed_of (take r.count (left_from dump m)) ++ drop r.count elapsed
  pub bytes : levels' ≡ levels_of (take r.count (left_from dump m)) ++ drop r.count levels
  pub left : left_from dump r.mark ≡ drop r.count (left_from dump m)
  pub low : Low m → Low r.mark

-- One piece: at most as many as the shorter row holds and as a replay takes (2026-03, pieces; Refusal numbers, 7).
abbrev pub Fills : List ℕ → Option Mark → List ℕ → List ℕ → Filled → List ℕ → List ℕ → Type 0
Fills dump m elapsed levels = FillsAtMost (min (min (length elapsed) (length levels)) most_samples) dump m elapsed levels
