-- What the door promises, for every input: the answer, the reply row, and what each lent row holds at the end. Nothing here is assumed of
-- an input: every definition is total. Images are those of Told (crate telling), of the part that is named.
use Rattle.std.specs.Prelude.{ℕ, List, ◌≡◌, length}
use Rattle.power.specs.Power.{at_power}
use Rattle.sample.specs.Run.{part_after}
use Rattle.twin.specs.Promises.{row_after}
use Rattle.telling.specs.Told.{told, fits, answer_by, left_or}
use Rattle.captures.specs.Once.{capture_verdict}
use Rattle.dumps.specs.Samples.{samples_in}
use Rattle.places.specs.Places.{part_after_all, places_of, open_verdict, report_by, array_by, laid_over}

-- Power-up and replay in one: array and answer row as the samples leave them; refused, as they were (Refusal numbers, 1 to 10).
pub record ReplaysOnce (part select stored : ℕ) (es ls array row numbers : List ℕ) (r : ℕ) (array' row' numbers' : List ℕ) : Type 0 where
  pub answer : r ≡ answer_by (fits numbers)
  pub reply : numbers' ≡ left_or (fits numbers) (told (capture_verdict part select stored es ls array row)) numbers
  pub kept : array' ≡ left_or (fits numbers) (part_after (capture_verdict part select stored es ls array row) es ls (at_power part select stored array)).array array
  pub said : row' ≡ left_or (fits numbers) (row_after (capture_verdict part select stored es ls array row) es ls (at_power part select stored array) row) row

-- Power-up and a whole dump in one: how many places disagree, the first of them in the row, and the array after all samples; refused, as
-- they were (request 2026-03, the report; Refusal numbers, 1 to 3, 5).
pub record ReplaysDump (part select stored : ℕ) (dump array row numbers : List ℕ) (r : ℕ) (array' row' numbers' : List ℕ) : Type 0 where
  pub answer : r ≡ answer_by (fits numbers)
  pub reply : numbers'
      ≡ left_or (fits numbers) (told (report_by (open_verdict part select stored dump array) (length (places_of part select stored dump array)))) numbers
  pub kept : array'
      ≡ left_or (fits numbers) (array_by (open_verdict part select stored dump array) (part_after_all (samples_in dump) (at_power part select stored array)).array array) array
  pub said : row'
      ≡ left_or (fits numbers) (array_by (open_verdict part select stored dump array) (laid_over (places_of part select stored dump array) row) row) row
