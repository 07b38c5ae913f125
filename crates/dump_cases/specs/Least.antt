-- The verdict on a dump is the least of its faults (request 2026-03, in this order at one line, the earliest line first), and a dump without
-- a fault is accepted with the number of its samples.
-- For a person from the line: the line that you are told is the first that is wrong, and the number the lowest that is wrong with it.
use Rattle.std.specs.Prelude.{ℕ, suc, true, ◌≡◌, length}
use mathlib.Core.List.{List, [], Memᴰ}
use Rattle.ground.specs.Verdict.{accepted, refused}
use Rattle.dumps.specs.Samples.{samples_in}
use Rattle.dumps.specs.Faults.{Fault, faults_of, comes_first, dump_verdict}

-- A fault of a dump before which none of its faults comes.
pub record First (dump : List ℕ) (k p : ℕ) : Type 0 where
  pub fault : Fault
  pub among : Memᴰ fault (faults_of dump)
  pub number : fault.number ≡ k
  pub place : suc fault.line ≡ p
  pub least : (g : Fault) → Memᴰ g (faults_of dump) → comes_first fault g ≡ true

-- The claim (2026-03, refusals 20 to 23).
pub record LeastFault : Type 0 where
  pub sound : (dump : List ℕ) (n : ℕ) → dump_verdict dump ≡ accepted n → (faults_of dump ≡ []) × (n ≡ length (samples_in dump))
  pub accepts : (dump : List ℕ) → faults_of dump ≡ [] → dump_verdict dump ≡ accepted (length (samples_in dump))
  pub faulty : (dump : List ℕ) (k p : ℕ) → dump_verdict dump ≡ refused k p → First dump k p
  pub refuses : (dump : List ℕ) (f : Fault) → Memᴰ f (faults_of dump) → (k : ℕ) × (p : ℕ) × (dump_verdict dump ≡ refused k p)
