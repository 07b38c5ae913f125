-- What reading a dump once promises: as long as it is sound, its samples piece after piece, and in the end its verdict.
use Rattle.std.specs.Prelude.{ℕ, ◌≤◌, List, ◌≡◌, length, Option, Some, None}
use Rattle.ground.specs.Numbers.{most_level}
use Rattle.ground.specs.Verdict.{accepted, refused}
use Rattle.dumps.specs.Samples.{samples_in}
use Rattle.dumps.specs.Faults.{dump_verdict}
use Rattle.changes.specs.declared.Mode.TheVariants.{Between}
use Rattle.headings.specs.Parts.{no_fault}
use Rattle.judging.specs.Kept.{Kept}
use Rattle.pieces.specs.declared.Mark.{Mark}
use Rattle.pieces.specs.Marks.{left_from}
use Rattle.pieces.specs.Parts.{FillsRoom}
use Rattle.one_reading.specs.declared.Track.{Track}
use Rattle.one_reading.specs.declared.Went.{Went}

-- A dump that is refused (2026-03, refusals 20 to 23).
pub record Faulty (dump : List ℕ) : Type 0 where
  pub number : ℕ
  pub line : ℕ
  pub verdict : dump_verdict dump ≡ refused number line

-- On the way no fault was met: what was heard, with what is left of the dump, gives its verdict.
pub record Going (dump : List ℕ) (t : Track) : Type 0 where
  pub kept : Kept dump t.mark.at t.line no_fault Between t.heard
  pub same : t.mark.time ≡ t.heard.time
  pub begun : 1 ≤ t.heard.lines

-- A track without a fault: on the way, or over, and then the dump is accepted.
abbrev pub Sound : List ℕ → Option Track → Type 0
Sound dump (Some t) = Going dump t
Sound dump None = dump_verdict dump ≡ accepted (length (samples_in dump))

-- The mark of a track, none where the dump is over.
abbrev pub mark_of : Option Track → Option Mark
mark_of (Some t) = Some t.mark
mark_of None = None

-- On the way with all samples left.
pub record SetsOut (dump : List ℕ) (t : Track) : Type 0 where
  pub going : Going dump t
  pub left : left_from dump (Some t.mark) ≡ samples_in dump
  pub low : t.mark.level ≤ most_level

-- The start of a dump: if it is sound so far, all samples are left; else the dump is refused.
abbrev pub Starts : List ℕ → Option Track → Type 0
Starts dump (Some t) = SetsOut dump t
Starts dump None = Faulty dump

-- Rows filled as far as there are samples, and a track behind them that is sound.
pub record ReadsOn (dump : List ℕ) (t : Option Track) (elapsed levels : List ℕ) (r : Went) (elapsed' levels' : List ℕ) : Type 0 where
  pub rows : FillsRoom dump (mark_of t) elapsed levels (record { count = r.count; mark = mark_of r.track }) elapsed' levels'
  pub track : Sound dump r.track

-- One piece: if it is sound, the rows are filled as far as there are samples, and the track behind it is sound; else the dump is refused.
abbrev pub Reads : List ℕ → Option Track → List ℕ → List ℕ → Option Went → List ℕ → List ℕ → Type 0
Reads dump t elapsed levels (Some r) elapsed' levels' = ReadsOn dump t elapsed levels r elapsed' levels'
Reads dump t elapsed levels None elapsed' levels' = Faulty dump
