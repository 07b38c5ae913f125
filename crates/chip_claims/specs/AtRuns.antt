-- The claims of the part at captures that were computed: each is used there whole, on a capture of some hundred samples (demand 3; document 01,
-- Bytes on the wire). The captures and the two parts are those of demand3_runs/specs/Occurs.
-- For a person from the line: the promises tried on a read, on a write and on a read that is cut off.
use Rattle.std.specs.Prelude.{ℕ, true, false, List, ◌≡◌, length, get_or, take, drop, replicate}
use Rattle.power.specs.declared.Replayed.{Replayed}
use Rattle.page.specs.Page.{marked}
use Rattle.wire.specs.declared.Sign.TheVariants.{Stop}
use Rattle.sample.specs.Sample.{opens_of, sees, seen_of}
use Rattle.sample.specs.Run.{Part, part_step}
use Rattle.twin.specs.Promises.{Replays}
use Rattle.waves.specs.Waves.{Capture, up_to}
use Rattle.runs.specs.Runs.{after_capture}
use Rattle.ranges.specs.Fit.{Fit}
use Rattle.reachable.specs.Reachable.{Lowers}
use Rattle.demand2.specs.Demand2.{Joined}
use Rattle.demand3.specs.Sending.{bit_from}
use Rattle.demand3.specs.Differ.{SplitAt, Unfetched, TwoParts}
use Rattle.demand3_runs.specs.Occurs.{spot, left, right, far_spot, far_left, far_right, read_at, read_it, unset_write, set_write, cut_write, cut_stop_at, whole_stop_at, cut_read, holds_of}
use Rattle.chip_claims.specs.CutStops.{Cancelled}
use Rattle.chip_claims.specs.Demand3.{over}

-- An answer row for a capture, before the replay (What goes in and what comes out).
abbrev pub row_for : Capture → List ℕ
row_for c = replicate (length c.levels) 0

-- An outcome of the replay of a capture (What goes in and what comes out).
abbrev pub Outcome : Capture → Part → Replayed → List ℕ → List ℕ → Type 0
Outcome c p r array' row' = Replays p.state c.times c.levels p.array (row_for c) r array' row'

-- Replays of the read differ first at sample 126, in SDA alone, and so they do above 0FFFh of an X4283; replays of the write come to the
-- same; the read in two pieces is the read; from power-up the two parts are alike; and if the part holds SDA low where the read is cut off
-- after its third bit, it acknowledges or sends a 0; the stop of the write that is cut cancels it (demand 3; request 2026-02).
pub record AtRuns : Type 0 where
  pub read : (r q : Replayed) (xs ys said said₂ : List ℕ) → Outcome read_it left r xs said → Outcome read_it right q ys said₂
      → SplitAt 126 said said₂
  pub far : (r q : Replayed) (xs ys said said₂ : List ℕ) → Outcome (read_at far_spot) far_left r xs said → Outcome (read_at far_spot) far_right q ys said₂
      → SplitAt 126 said said₂
  pub write : (r q : Replayed) (xs ys said said₂ : List ℕ) → Outcome set_write left r xs said → Outcome set_write right q ys said₂
      → (said ≡ said₂) × (r.state ≡ q.state) × (xs ≡ ys)
  pub powered : TwoParts spot read_it.times read_it.levels left right
  pub pieces : (r r₁ r₂ : Replayed) (xs xs₁ xs₂ said said₁ said₂ : List ℕ) → Outcome read_it left r xs said
      → Replays left.state (take 121 read_it.times) (take 121 read_it.levels) left.array (replicate 121 0) r₁ xs₁ said₁
      → Replays r₁.state (drop 121 read_it.times) (drop 121 read_it.levels) xs₁ (replicate 27 0) r₂ xs₂ said₂
      → Joined 121 27 r r₁ r₂ xs xs₂ said said₁ said₂
  pub again : (r : Replayed) (xs said : List ℕ) → Outcome read_it left r xs said → Fit (over r.state xs)
  pub low : (r : Replayed) (xs said : List ℕ) → Outcome cut_read left r xs said → r.state.device.talk.own ≡ false → Lowers r.state
  pub form : holds_of part_step left right read_it ≡ true
  -- before the fetch the two are in one state; of the byte fetched the third bit is out; a byte that was withheld leaves the array's
  pub until : Unfetched spot (take 100 read_it.times) (take 100 read_it.levels) left right
  pub out : (after_capture cut_read left).state.device.talk.own ≡ bit_from 2 0x4C
  pub stays : get_or (after_capture unset_write left).array spot 0 ≡ 0x4C
  -- the stop inside a byte, with a byte loaded and three bits of the next committed, and another with none
  pub cut : (seen_of 11 (opens_of 1 11 (after_capture (up_to cut_stop_at cut_write) left).state) ≡ sees (Stop 3))
      × (marked (after_capture (up_to cut_stop_at cut_write) left).state.load ≡ true)
  pub whole : seen_of 11 (opens_of 1 11 (after_capture (up_to whole_stop_at set_write) left).state) ≡ sees (Stop 0)
  pub cancelled : Cancelled 1 11 (after_capture (up_to cut_stop_at cut_write) left) (part_step 1 11 (after_capture (up_to cut_stop_at cut_write) left))
  pub stored : get_or (part_step 1 11 (after_capture (up_to whole_stop_at set_write) left)).array spot 0 ≡ 0x77
