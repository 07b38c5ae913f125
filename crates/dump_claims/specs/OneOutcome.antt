-- There is only one possible reply to a dump (document 01, Leaving no slack). Two outcomes that both keep what an operation promises are one
-- and the same in the reply and in every lent row. A mark says where a dump is left: two marks that keep the promise may differ as numbers,
-- but the samples that are left from them are the same, so nothing that is told later can differ.
-- For a person from the line: ask the same thing twice and you get the same answer.
use Rattle.std.specs.Prelude.{ℕ, Option, Result, List, ◌≡◌}
use Rattle.ground.specs.declared.Refusal.{Refusal}
use Rattle.judging.specs.Promises.{Judges}
use Rattle.pieces.specs.declared.Mark.{Mark}
use Rattle.pieces.specs.declared.Filled.{Filled}
use Rattle.pieces.specs.Marks.{left_from}
use Rattle.pieces.specs.Promises.{Begins, Fills}
use Rattle.disagreements.specs.declared.Opened.{Opened}
use Rattle.disagreements.specs.Promises.{Opens, Reports}
use Rattle.door.specs.Promises.{ReplaysDump}

-- One outcome for each operation on dumps, whatever goes in (Leaving no slack, only one possible reply).
pub record OneOutcome : Type 0 where
  pub judge : (dump : List ℕ) (r q : Result ℕ Refusal) → Judges dump r → Judges dump q → r ≡ q
  pub report : (part select stored : ℕ) (dump array row : List ℕ) (r q : Result ℕ Refusal) (array₁ row₁ array₂ row₂ : List ℕ)
      → Reports part select stored dump array row r array₁ row₁ → Reports part select stored dump array row q array₂ row₂
      → (r ≡ q) × (array₁ ≡ array₂) × (row₁ ≡ row₂)
  pub door : (part select stored : ℕ) (dump array row numbers : List ℕ) (r q : ℕ) (array₁ row₁ numbers₁ array₂ row₂ numbers₂ : List ℕ)
      → ReplaysDump part select stored dump array row numbers r array₁ row₁ numbers₁
      → ReplaysDump part select stored dump array row numbers q array₂ row₂ numbers₂
      → (r ≡ q) × (array₁ ≡ array₂) × (row₁ ≡ row₂) × (numbers₁ ≡ numbers₂)
  -- marks: the same samples are left
  pub first : (dump : List ℕ) (r q : Option Mark) → Begins dump r → Begins dump q → left_from dump r ≡ left_from dump q
  pub fill : (dump : List ℕ) (m n : Option Mark) (elapsed levels : List ℕ) (r q : Filled) (elapsed₁ levels₁ elapsed₂ levels₂ : List ℕ)
      → left_from dump m ≡ left_from dump n
      → Fills dump m elapsed levels r elapsed₁ levels₁ → Fills dump n elapsed levels q elapsed₂ levels₂
      → (r.count ≡ q.count) × (elapsed₁ ≡ elapsed₂) × (levels₁ ≡ levels₂) × (left_from dump r.mark ≡ left_from dump q.mark)
  pub begin : (part select stored : ℕ) (dump array : List ℕ) (r q : Opened)
      → Opens part select stored dump array r → Opens part select stored dump array q
      → (r.reply ≡ q.reply) × (r.stand.state ≡ q.stand.state) × (r.stand.next ≡ q.stand.next)
      × (left_from dump r.stand.mark ≡ left_from dump q.stand.mark)
