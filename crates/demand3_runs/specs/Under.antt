-- Demand 3 in a form that computes, with the step as a parameter. Where an unequal bit is reached and the address covered is
-- always said by the sheet's rules (demand 3; document 01, Bytes on the wire).
use Rattle.std.specs.Prelude.{ℕ, suc, Bool, true, false, ◌&&◌, List, [], ◌∷◌, eqb, take}
use Rattle.levels.specs.Level.{answer_of}
use Rattle.sample.specs.Run.{Part}
use Rattle.demand3.specs.Sending.{nothing}
use Rattle.demand3.specs.Differ.{When, never, sample, first_reach, first_diff, first_cover}

-- What a sample does to a part: elapsed time, level byte, part (State and time, each sample).
abbrev pub Step : Type 0
Step = ℕ → ℕ → Part → Part

-- The array after the rows under a step (What goes in and what comes out).
abbrev pub array_under : Step → List ℕ → List ℕ → Part → List ℕ
array_under step [] ls p = p.array
array_under step (e ∷ es) [] p = p.array
array_under step (e ∷ es) (l ∷ ls) p = array_under step es ls (step e l p)

-- One answer byte a sample under a step (What goes in and what comes out).
abbrev pub answers_under : Step → List ℕ → List ℕ → Part → List ℕ
answers_under step [] ls p = []
answers_under step (e ∷ es) [] p = []
answers_under step (e ∷ es) (l ∷ ls) p = answer_of (step e l p).state ∷ answers_under step es ls (step e l p)

-- The first sample at which the answers of two parts differ under a step (demand 3).
abbrev pub diff_under : Step → List ℕ → List ℕ → Part → Part → When
diff_under step es ls p q = first_diff 0 (answers_under step es ls p) (answers_under step es ls q)

-- Two findings are the same sample, or both none.
abbrev pub same_when : When → When → Bool
same_when never never = true
same_when never (sample n) = false
same_when (sample k) never = false
same_when (sample k) (sample n) = eqb k n

-- Two rows do not differ as far as both go.
abbrev pub alike : List ℕ → List ℕ → Bool
alike xs ys = same_when (first_diff 0 xs ys) never

-- Right after a sample that covers the address the arrays are alike, and all answers are (demand 3).
abbrev pub covered_under : When → Step → List ℕ → List ℕ → Part → Part → Bool
covered_under never step es ls p q = true
covered_under (sample k) step es ls p q =
    alike (array_under step (take (suc k) es) (take (suc k) ls) p) (array_under step (take (suc k) es) (take (suc k) ls) q)
    && alike (answers_under step es ls p) (answers_under step es ls q)

-- Of demand 3 only what can be told from answers and arrays: where the answers first differ, and what a covering write makes alike.
abbrev pub holds_for : Step → ℕ → List ℕ → List ℕ → Part → Part → Bool
holds_for step a es ls p q =
    same_when (diff_under step es ls p q) (first_reach a 0 es ls p q nothing nothing)
    && covered_under (first_cover a 0 es ls p) step es ls p q
