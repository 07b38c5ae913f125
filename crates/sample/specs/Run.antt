-- A capture, sample after sample (document 01, What goes in and what comes out; State and time).
use Rattle.std.specs.Prelude.{ℕ, List, [], ◌∷◌}
use Rattle.ground.specs.Verdict.{Verdict, accepted, refused}
pub use Rattle.part.specs.Bench.{Part}
use Rattle.levels.specs.Level.{answer_of}
use Rattle.sample.specs.Sample.{step_of, array_of}

-- One sample for state and array together (State and time, each sample).
unfoldable pub part_step : ℕ → ℕ → Part → Part
part_step e level p = record { state = step_of e level p.array p.state; array = array_of e level p.array p.state }

-- The part after the rows, first sample first (What goes in and what comes out).
abbrev pub run_of : List ℕ → List ℕ → Part → Part
run_of [] ls p = p
run_of (e ∷ es) [] p = p
run_of (e ∷ es) (l ∷ ls) p = run_of es ls (part_step e l p)

-- The part after a capture by its verdict: refused, as it was (What goes in and what comes out; Refusal numbers, last lines).
abbrev pub part_after : Verdict → List ℕ → List ℕ → Part → Part
part_after (accepted n) es ls p = run_of es ls p
part_after (refused k q) es ls p = p

-- One answer byte a sample, that of the part after it (What goes in and what comes out).
abbrev pub answers_of : List ℕ → List ℕ → Part → List ℕ
answers_of [] ls p = []
answers_of (e ∷ es) [] p = []
answers_of (e ∷ es) (l ∷ ls) p = answer_of (part_step e l p).state ∷ answers_of es ls (part_step e l p)
