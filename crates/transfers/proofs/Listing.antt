-- Laws of the turn of the list's loop, and of its two ends. Assumes nothing.
use Prim.Native.Nat.{ℕ, ◌+◌}
use mathlib.Core.List.{List, [], ◌∷◌, ◌++◌}
use mathlib.Core.Path.{◌≡◌, refl, sym, ap, ◌∙◌}
use native.Mathlib.Omega.{arith}
use mathlib.Core.Logic.{◌⊎◌, inl, inr}
use Rattle.std.specs.Prelude.{Result, Ok, Err}
use lib.ListN.{length, length-append, length-map}
use Rattle.ground.specs.Verdict.{meant}
use Rattle.ground.specs.declared.Refusal.{Refusal}
use Rattle.ground.proofs.Verdicts.{is-accepted, is-refused}
use Rattle.part.specs.declared.state.State.{State}
use Rattle.refusals.specs.Refusals.{capture_of}
use Rattle.refusals.proofs.Laws.{capture-rows}
use Rattle.entries.specs.Entries.{Placed, placed_at, laid_from, Says}
use Rattle.entries.proofs.Laid.{laid-append}
use Rattle.sample.specs.Run.{Part, part_step, run_of}
use Rattle.said.specs.Said.{sample_says}
use Rattle.transfers.specs.Transfers.{entries_of}
use Rattle.transfers.specs.Promises.{Listed, Walks, Lists}

-- One sample listed: what is left to list from the next part gives the same.
module _ (e l : ℕ) (es ls row row' : List ℕ) (i at r : ℕ) (p q : Part) (step : q ≡ part_step e l p)
    (said : Says 4 i (sample_says e l p.state q.state) at row r row') where
  left : List Placed
  left = entries_of (i + 1) es ls q

  here : List Placed
  here = placed_at i (sample_says e l p.state q.state)

  split : entries_of i (e ∷ es) (l ∷ ls) p ≡ here ++ left
  unfolding here left
  split = rw step

  ends : r ≡ at + length here
  unfolding here
  ends = said.next ∙ ap (λ (n : ℕ). at + n) (sym (length-map (sample_says e l p.state q.state) _))

  pub row-turn : laid_from r (entries_of (i + 1) es ls q) row' ≡ laid_from at (entries_of i (e ∷ es) (l ∷ ls) p) row
  unfolding here left
  row-turn =
      ap (λ (l : List ℕ). laid_from r left l) said.laid ∙ laid-append here left row at r ends
      ∙ ap (λ (xs : List Placed). laid_from at xs row) (sym split)

  pub count_turn : r + length (entries_of (i + 1) es ls q) ≡ at + length (entries_of i (e ∷ es) (l ∷ ls) p)
  unfolding left
  count_turn =
      let a = length-append here left in
      let b : length (entries_of i (e ∷ es) (l ∷ ls) p) ≡ length (here ++ left) = ap length split in
      omega (arith, ends, a, b)

-- Nothing is left to list or to run where a row is at its end.
pub list_done : (es ls : List ℕ) (i : ℕ) (p : Part) → (length es ≡ 0) ⊎ (length ls ≡ 0) → (entries_of i es ls p ≡ []) × (run_of es ls p ≡ p)
list_done [] ls i p h = (refl, refl)
list_done (e ∷ es) [] i p h = (refl, refl)
list_done (e ∷ es) (l ∷ ls) i p h = absurd (elim h [ inl x ↦ omega (arith, x) | inr x ↦ omega (arith, x) ])

-- A capture that is accepted is walked over; one that is refused leaves all as it was.
module _ (s : State) (es ls array row : List ℕ) (v : Result ℕ Refusal) (h : meant v ≡ capture_of s es ls array) where
  pub walk_rows : (n : ℕ) → v ≡ Ok n → length es ≡ length ls
  walk_rows n g = capture-rows s es ls array n (is-accepted v (capture_of s es ls array) n h g)

  pub list-accepted : (n : ℕ) (r : Listed) (array' row' : List ℕ) → v ≡ Ok n → Walks s es ls array row r array' row'
      → Lists s es ls array row r array' row'
  list-accepted n r array' row' g x =
      let e = is-accepted v (capture_of s es ls array) n h g in
      record { reply = rw e x.reply; state = rw e x.state; kept = rw e x.kept; said = rw e x.said }

  pub list-refused : (k : Refusal) → v ≡ Err k → Lists s es ls array row (record { reply = Err k; state = s }) array row
  unfolding meant
  list-refused k g =
      let e = is-refused v (capture_of s es ls array) k h g in
      record { reply = rw e; state = rw e; kept = rw e; said = rw e }
