-- What the steps of a report in one reading promise each other; the report itself promises what the one in two readings does (Reports).
use Rattle.std.specs.Prelude.{ℕ, ◌≤◌, List, ◌≡◌, length, Option, Some, None, Ok}
use Rattle.ground.specs.Numbers.{most_level}
use Rattle.ground.specs.Verdict.{accepted}
use Rattle.part.specs.Bench.{part_of}
use Rattle.part.specs.declared.state.State.{State}
use Rattle.sample.specs.Run.{Part}
use Rattle.ranges.specs.Fit.{Fit}
use Rattle.dumps.specs.Defined.{vars_of}
use Rattle.dumps.specs.Samples.{samples_in}
use Rattle.dumps.specs.Faults.{dump_verdict}
use Rattle.headings.specs.Parts.{Tabled}
use Rattle.pieces.specs.Marks.{left_from}
use Rattle.places.specs.Places.{places_in, part_after_all, laid_over}
use Rattle.one_reading.specs.declared.Track.{Track}
use Rattle.one_reading.specs.Promises.{Going}
use Rattle.disagreements.specs.Promises.{Reports}

-- A dump read up to its first sample without a fault, and a part that takes any piece of it.
pub record Ready (dump table : List ℕ) (t : Track) (s : State) (array : List ℕ) : Type 0 where
  pub tabled : Tabled (vars_of dump) table
  pub going : Going dump t
  pub left : left_from dump (Some t.mark) ≡ samples_in dump
  pub low : t.mark.level ≤ most_level
  pub fit : Fit (part_of s array)

-- A sound dump replayed to its end: its verdict, how many places disagree, the first of them in a row, and the array.
pub record Whole (dump : List ℕ) (p : Part) (row : List ℕ) (found : ℕ) (array' row' : List ℕ) : Type 0 where
  pub verdict : dump_verdict dump ≡ accepted (length (samples_in dump))
  pub count : found ≡ length (places_in 0 (samples_in dump) p)
  pub said : row' ≡ laid_over (places_in 0 (samples_in dump) p) row
  pub kept : array' ≡ (part_after_all (samples_in dump) p).array

-- A reading: if it came to its end, the whole dump was replayed; else nothing is said of what it left.
abbrev pub Passes : List ℕ → Part → List ℕ → Option ℕ → List ℕ → List ℕ → Type 0
Passes dump p row (Some found) array' row' = Whole dump p row found array' row'
Passes dump p row None array' row' = Unit {0}

-- A reading that leaves array and row as they were unless it came to its end.
abbrev pub Tries : List ℕ → State → List ℕ → List ℕ → Option ℕ → List ℕ → List ℕ → Type 0
Tries dump s array row (Some found) array' row' = Whole dump (part_of s array) row found array' row'
Tries dump s array row None array' row' = (array' ≡ array) × (row' ≡ row)

-- The same from power-up on: come to its end, it is the report.
abbrev pub TriesReport : ℕ → ℕ → ℕ → List ℕ → List ℕ → List ℕ → Option ℕ → List ℕ → List ℕ → Type 0
TriesReport part select stored dump array row (Some found) array' row' = Reports part select stored dump array row (Ok found) array' row'
TriesReport part select stored dump array row None array' row' = (array' ≡ array) × (row' ≡ row)
