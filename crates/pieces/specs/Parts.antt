-- What the inner functions promise each other.
use Rattle.std.specs.Prelude.{ℕ, ◌-◌, ◌≤◌, true, false, List, [], ◌∷◌, ◌++◌, ◌≡◌, length, take, drop, Option, Some, None}
use Rattle.ground.specs.Numbers.{most_level}
use Rattle.sections.specs.declared.Place.TheVariants.{Between}
use Rattle.tokens.specs.Tokens.{words_of}
use Rattle.dumps.specs.Defined.{body_at}
use Rattle.dumps.specs.Samples.{Moment, moments_from, samples_from, elapsed_of, levels_of}
use Rattle.pieces.specs.declared.Mark.{Mark}
use Rattle.pieces.specs.declared.Filled.{Filled}
use Rattle.pieces.specs.declared.TimeLine.{TimeLine}
use Rattle.pieces.specs.declared.Moved.{Moved}
use Rattle.pieces.specs.declared.quick.Taken.{Taken}
use Rattle.pieces.specs.Marks.{left_from, Low}
use Rattle.pieces.specs.Promises.{FillsAtMost}

-- The mark behind a moment of some time: the next moment, and the time up to it, none where its time is no later.
abbrev pub behind_by : ℕ → ℕ → Option TimeLine → Option Mark
behind_by time level None = None
behind_by time level (Some next) = Some (record { at = next.at; time = next.time; left = next.time - time; level = level })

-- So many samples from a mark on filled into rows, and a mark behind them.
pub record Filling (dump : List ℕ) (from : Option Mark) (elapsed₀ levels₀ : List ℕ) (mark : Option Mark) (i : ℕ) (elapsed levels : List ℕ) : Type 0 where
  pub room : i ≤ length levels₀
  pub some : i ≤ length (left_from dump from)
  pub even : length elapsed₀ ≡ length levels₀
  pub wide : length elapsed ≡ length elapsed₀
  pub long : length levels ≡ length levels₀
  pub times : elapsed ≡ elapsed_of (take i (left_from dump from)) ++ drop i elapsed₀
  pub bytes : levels ≡ levels_of (take i (left_from dump from)) ++ drop i levels₀
  pub left : left_from dump mark ≡ drop i (left_from dump from)
  pub low : Low from → Low mark

-- A piece over rows of one length.
abbrev pub FillsRoom : List ℕ → Option Mark → List ℕ → List ℕ → Filled → List ℕ → List ℕ → Type 0
FillsRoom dump m elapsed levels = FillsAtMost (length levels) dump m elapsed levels

-- The mark at the first time line from a place on, outside every section.
pub record StartsAt (dump : List ℕ) (from : ℕ) (r : Option Mark) : Type 0 where
  pub left : left_from dump r ≡ samples_from (body_at dump Between false) (words_of (drop from dump))
  pub low : Low r

-- The moments behind a moment with some levels, none where no time line follows.
abbrev pub later_by : List ℕ → ℕ → Option TimeLine → List Moment
later_by dump level None = []
later_by dump level (Some next) = moments_from (body_at dump Between true) (words_of (drop next.at dump)) next.time level

-- The values of a moment from a place on: its levels, and where the next moment begins.
pub record Moves (dump : List ℕ) (from level : ℕ) (r : Moved) : Type 0 where
  pub moments : (time : ℕ) → moments_from (body_at dump Between true) (words_of (drop from dump)) time level
      ≡ record { time = time; level = r.level } ∷ later_by dump r.level r.next
  pub low : level ≤ most_level → r.level ≤ most_level

-- The moments from where reading stopped: behind the time line that closes one, or still within it.
abbrev pub as_far_as : List ℕ → ℕ → ℕ → ℕ → Option ℕ → List Moment
as_far_as dump time at level (Some next) =
    record { time = time; level = level } ∷ moments_from (body_at dump Between true) (words_of (drop at dump)) next level
as_far_as dump time at level None = moments_from (body_at dump Between true) (words_of (drop at dump)) time level

-- The values of a moment as far as they were read: what is left gives the same moments.
pub record Takes (dump : List ℕ) (from level : ℕ) (r : Taken) : Type 0 where
  pub inside : r.at ≤ length dump
  pub moments : (time : ℕ) → moments_from (body_at dump Between true) (words_of (drop from dump)) time level
      ≡ as_far_as dump time r.at r.level r.closed
  pub low : level ≤ most_level → r.level ≤ most_level
