-- Demand 1 for dumps (document 01, Refusal numbers, last lines; request 2026-03, refusals). Whatever is given: where there is a refusal for
-- it, an outcome that keeps the operation's promise says its number and its place, and nothing has changed: a report leaves the array and
-- the row of places as they were. Nothing is told before the whole dump is judged: a refusal of the dump is the whole reply.
-- For a person from the line: a file that cannot be used is turned away with a number and a line, and nothing else is said of it.
use Rattle.std.specs.Prelude.{ℕ, Result, List, [], ◌∷◌, ◌≡◌, length}
use Rattle.ground.specs.Verdict.{refused, meant}
use Rattle.ground.specs.declared.Refusal.{Refusal}
use Rattle.dumps.specs.Faults.{dump_verdict}
use Rattle.judging.specs.Promises.{Judges}
use Rattle.places.specs.Places.{open_verdict}
use Rattle.disagreements.specs.declared.Opened.{Opened}
use Rattle.disagreements.specs.Promises.{Opens, Reports}
use Rattle.door.specs.Promises.{ReplaysDump}
use Rattle.replaying.specs.Shown.{start_verdict}
use Rattle.replaying.specs.Promises.{Readies}

-- What each operation on dumps says and leaves where it refuses: k is the number and p the place, of a dump its line.
pub record DumpRefusals : Type 0 where
  pub judge : (dump : List ℕ) (r : Result ℕ Refusal) (k p : ℕ) → Judges dump r → dump_verdict dump ≡ refused k p → meant r ≡ refused k p
  pub begin : (part select stored : ℕ) (dump array : List ℕ) (r : Opened) (k p : ℕ)
      → Opens part select stored dump array r → open_verdict part select stored dump array ≡ refused k p → meant r.reply ≡ refused k p
  pub report : (part select stored : ℕ) (dump array row : List ℕ) (r : Result ℕ Refusal) (array' row' : List ℕ) (k p : ℕ)
      → Reports part select stored dump array row r array' row' → open_verdict part select stored dump array ≡ refused k p
      → (meant r ≡ refused k p) × (array' ≡ array) × (row' ≡ row)
  pub door : (part select stored : ℕ) (dump array row numbers : List ℕ) (r : ℕ) (array' row' numbers' : List ℕ) (k p : ℕ)
      → ReplaysDump part select stored dump array row numbers r array' row' numbers' → length numbers ≡ 2
      → open_verdict part select stored dump array ≡ refused k p
      → (r ≡ 1) × (numbers' ≡ k ∷ p ∷ []) × (array' ≡ array) × (row' ≡ row)
  -- by our choice nothing is done for a reply row that is not two numbers long
  pub door-row : (part select stored : ℕ) (dump array row numbers : List ℕ) (r : ℕ) (array' row' numbers' : List ℕ)
      → ReplaysDump part select stored dump array row numbers r array' row' numbers' → ¬ (length numbers ≡ 2)
      → (r ≡ 0) × (numbers' ≡ numbers) × (array' ≡ array) × (row' ≡ row)
  -- the program
  pub start : (part select stored : ℕ) (image dump : List ℕ) (r : Opened) (array : List ℕ) (k p : ℕ)
      → Readies part select stored image dump r array → start_verdict part select stored image dump ≡ refused k p
      → meant r.reply ≡ refused k p
