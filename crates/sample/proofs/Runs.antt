-- Laws of the run that several proofs cite. Assumes nothing.
use Prim.Native.Nat.{ℕ, suc, ◌<◌, ◌≤◌}
use mathlib.Core.List.{List, ◌++◌, append-nil, append_assoc}
use mathlib.Core.Path.{◌≡◌}
use lib.ListN.{length, get_or, take, drop, set, drop_of_length-le}
use lib.Seq.{drop-cons, take_all, take-suc-set}
use Rattle.part.specs.declared.state.State.{State}
use Rattle.levels.specs.Level.{answer_of}
use Rattle.sample.specs.Sample.{step_of, array_of}
use Rattle.sample.specs.Run.{Part, part_step, run_of, answers_of}

-- One sample run: what is left to run from the next part gives the same.
pub run-turn : (es ls : List ℕ) (i : ℕ) (p q : Part) → i < length es → i < length ls → q ≡ part_step (get_or es i 0) (get_or ls i 0) p
    → run_of (drop (suc i) es) (drop (suc i) ls) q ≡ run_of (drop i es) (drop i ls) p
run-turn es ls i p q h k e = rw (drop-cons es i 0 h, drop-cons ls i 0 k, e)

-- One answer written: the row so far with what is left to answer gives the same.
pub row-turn : (es ls row : List ℕ) (i a : ℕ) (p q : Part) → i < length es → i < length ls → i < length row
    → q ≡ part_step (get_or es i 0) (get_or ls i 0) p → a ≡ answer_of q.state
    → take (suc i) (set row i a) ++ answers_of (drop (suc i) es) (drop (suc i) ls) q ≡ take i row ++ answers_of (drop i es) (drop i ls) p
row-turn es ls row i a p q h k r e f =
    rw (take-suc-set row i a r, append_assoc, drop-cons es i 0 h, drop-cons ls i 0 k, f, e)

-- Nothing is left to run or to answer past the rows' end.
pub run-done : (es ls : List ℕ) (i : ℕ) (p : Part) → length es ≤ i → run_of (drop i es) (drop i ls) p ≡ p
run-done es ls i p h = rw (drop_of_length-le es h)

pub row_done : (es ls row : List ℕ) (i : ℕ) (p : Part) → length es ≤ i → length row ≤ i
    → take i row ++ answers_of (drop i es) (drop i ls) p ≡ row
row_done es ls row i p h k = rw (drop_of_length-le es h, take_all i row k, append-nil)

-- State and array after a sample, as one part.
pub stepped : (e l : ℕ) (p : Part) (s : State) (array : List ℕ) → s ≡ step_of e l p.array p.state → array ≡ array_of e l p.array p.state
    → ◌≡◌ {A = Part} (record { state = s; array = array }) (part_step e l p)
unfolding part_step
stepped e l p s array f g = rw (f, g)
