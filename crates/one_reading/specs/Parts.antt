-- What the inner functions promise each other.
use Rattle.std.specs.Prelude.{ℕ, ◌≤◌, List, ◌≡◌, length, Option, Some, None}
use Rattle.ground.specs.Numbers.{most_elapsed}
use Rattle.ground.specs.Verdict.{accepted}
use Rattle.dumps.specs.Samples.{samples_in}
use Rattle.dumps.specs.Faults.{dump_verdict}
use Rattle.changes.specs.declared.Mode.TheVariants.{Between}
use Rattle.headings.specs.Parts.{no_fault}
use Rattle.judging.specs.Kept.{Kept}
use Rattle.pieces.specs.declared.Mark.{Mark}
use Rattle.pieces.specs.declared.TimeLine.{TimeLine}
use Rattle.pieces.specs.Parts.{Filling, Moves, StartsAt}
use Rattle.one_reading.specs.declared.Track.{Track}
use Rattle.one_reading.specs.declared.moments.Closed.{Closed}
use Rattle.one_reading.specs.declared.quick.Passed.{Passed}
use Rattle.one_reading.specs.Promises.{Faulty, Going}

-- On the way from the first time line behind a place.
pub record SetsOutAt (dump : List ℕ) (from : ℕ) (t : Track) : Type 0 where
  pub going : Going dump t
  pub at : StartsAt dump from (Some t.mark)

-- The first time line from a place on, if nothing is wrong up to there: no fault was met, and all samples from the place on are left. Else
-- the dump is refused.
abbrev pub StartsFrom : List ℕ → ℕ → Option Track → Type 0
StartsFrom dump from (Some t) = SetsOutAt dump from t
StartsFrom dump from None = Faulty dump

-- Behind the time line that closes a moment no fault was met.
pub record GoesOn (dump : List ℕ) (next : TimeLine) (r : Closed) : Type 0 where
  pub kept : Kept dump next.at r.line no_fault Between r.heard
  pub same : next.time ≡ r.heard.time
  pub begun : 1 ≤ r.heard.lines

-- Behind a moment the dump goes on or is accepted.
abbrev pub Follows : List ℕ → Closed → Option TimeLine → Type 0
Follows dump r (Some next) = GoesOn dump next r
Follows dump r None = dump_verdict dump ≡ accepted (length (samples_in dump))

-- A moment that was heard: its values are read, and the dump goes on behind it or is accepted.
pub record ClosesAt (dump : List ℕ) (from level : ℕ) (r : Closed) : Type 0 where
  pub moves : Moves dump from level r.moved
  pub goes : Follows dump r r.moved.next

-- A moment heard from a place on: if nothing is wrong, its values are read, and the dump goes on behind it or is accepted; else it is
-- refused.
abbrev pub Closes : List ℕ → ℕ → ℕ → Option Closed → Type 0
Closes dump from level (Some r) = ClosesAt dump from level r
Closes dump from level None = Faulty dump

-- Some tokens further no fault was met, and whatever the rows were filled from, they are filled further from it.
pub record PassesOn (dump : List ℕ) (t : Track) (count : ℕ) (elapsed levels : List ℕ) (r : Passed) (elapsed' levels' : List ℕ) : Type 0 where
  pub further : count ≤ r.count
  pub going : Going dump r.track
  pub near : r.track.mark.left ≤ most_elapsed
  pub filling : (m : Option Mark) (elapsed₀ levels₀ : List ℕ) → Filling dump m elapsed₀ levels₀ (Some t.mark) count elapsed levels
      → Filling dump m elapsed₀ levels₀ (Some r.track.mark) r.count elapsed' levels'
