-- What the operations on a dump promise: begin and report for every input, play for a stand that a begin or a play has left.
use Rattle.std.specs.Prelude.{ℕ, ◌+◌, ◌<◌, min, Result, List, ◌++◌, ◌≡◌, length, take, drop}
use Rattle.part.specs.Bench.{part_of}
use Rattle.ground.specs.Verdict.{accepted, meant}
use Rattle.ground.specs.declared.Refusal.{Refusal}
use Rattle.refusals.specs.Refusals.{power_of}
use Rattle.sample.specs.Run.{Part, answers_of}
use Rattle.power.specs.Power.{at_power, power_state}
use Rattle.ranges.specs.Fit.{Fit}
use Rattle.dumps.specs.Samples.{samples_in, elapsed_of, levels_of}
use Rattle.pieces.specs.Marks.{left_from, Low}
use Rattle.disagreements.specs.declared.Stand.{Stand}
use Rattle.disagreements.specs.declared.Opened.{Opened}
use Rattle.disagreements.specs.declared.Played.{Played}
use Rattle.places.specs.Places.{places_in, part_after_all, places_of, open_verdict, report_by, array_by, laid_over}

-- The part of a stand, with an array beside it.
abbrev pub part_of_stand : Stand → List ℕ → Part
part_of_stand s array = part_of s.state array

-- A stand from which a dump can be replayed on: the part takes any piece, and the places of all samples that are left are numbers.
pub record Stands (dump : List ℕ) (s : Stand) (array : List ℕ) : Type 0 where
  pub fit : Fit (part_of_stand s array)
  pub low : Low s.mark
  pub numbered : s.next + length (left_from dump s.mark) < 18446744073709551616

-- Begin: the verdict, and the part at power-up before the first sample (2026-03, refusals; Refusal numbers, 1 to 3, 5).
pub record Opens (part select stored : ℕ) (dump array : List ℕ) (r : Opened) : Type 0 where
  pub reply : meant r.reply ≡ open_verdict part select stored dump array
  pub state : r.stand.state ≡ power_state (power_of part select stored) part select stored
  pub left : left_from dump r.stand.mark ≡ samples_in dump
  pub next : r.stand.next ≡ 0
  pub stands : (n : ℕ) → open_verdict part select stored dump array ≡ accepted n → Stands dump r.stand array

-- One piece played: the samples that the rows hold, their level bytes and answers, and the stand behind them (2026-03, piece after piece,
-- the state carried on).
pub record Plays (dump : List ℕ) (s : Stand) (array levels answers : List ℕ) (r : Played) (array' levels' answers' : List ℕ) : Type 0 where
  pub count : r.count ≡ min (length (left_from dump s.mark)) (length levels)
  pub part : part_of_stand r.stand array' ≡ part_after_all (take r.count (left_from dump s.mark)) (part_of_stand s array)
  pub bytes : levels' ≡ levels_of (take r.count (left_from dump s.mark)) ++ drop r.count levels
  pub said : answers'
      ≡ answers_of (elapsed_of (take r.count (left_from dump s.mark))) (levels_of (take r.count (left_from dump s.mark))) (part_of_stand s array)
      ++ drop r.count answers
  pub left : left_from dump r.stand.mark ≡ drop r.count (left_from dump s.mark)
  pub next : r.stand.next ≡ s.next + r.count
  pub stands : Stands dump r.stand array'

-- All that is left played: how many places disagree, the first of them in the row, and the array (2026-03, the report).
pub record PlaysOn (dump : List ℕ) (s : Stand) (array row : List ℕ) (r : ℕ) (array' row' : List ℕ) : Type 0 where
  pub count : r ≡ length (places_in s.next (left_from dump s.mark) (part_of_stand s array))
  pub said : row' ≡ laid_over (places_in s.next (left_from dump s.mark) (part_of_stand s array)) row
  pub kept : array' ≡ (part_after_all (left_from dump s.mark) (part_of_stand s array)).array

-- The report of a whole dump: how many places disagree, the first of them in the row, and the array after all samples; refused, nothing has
-- changed (2026-03, the report and its refusals).
pub record Reports (part select stored : ℕ) (dump array row : List ℕ) (r : Result ℕ Refusal) (array' row' : List ℕ) : Type 0 where
  pub reply : meant r ≡ report_by (open_verdict part select stored dump array) (length (places_of part select stored dump array))
  pub kept : array' ≡ array_by (open_verdict part select stored dump array) (part_after_all (samples_in dump) (at_power part select stored array)).array array
  pub said : row' ≡ array_by (open_verdict part select stored dump array) (laid_over (places_of part select stored dump array) row) row
