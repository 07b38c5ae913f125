-- Replay: for each of its refusal numbers, exactly when an outcome that keeps the contract replies it, and at which place; and that it
-- replies no other (document 01, Refusal numbers, 4 to 10). A number comes after those before it; a fault in samples after 4 to 8, at the
-- earliest sample, and there 9 before 10.
use Rattle.std.specs.Prelude.{ℕ, ◌≤◌, ◌<◌, List, ◌↔◌, ◌≡◌, length, get_or}
use Rattle.ground.specs.Verdict.{accepted, refused, meant}
use Rattle.part.specs.declared.state.State.{State}
use Rattle.power.specs.declared.Replayed.{Replayed}
use Rattle.twin.specs.Promises.{Replays}
use Rattle.exactly.specs.Words.{SizeOf, WithinRanges}

-- None of 4 to 8 is due (Refusal numbers, 4 to 8).
pub record RowsFit (s : State) (es ls array row : List ℕ) : Type 0 where
  pub state : WithinRanges s
  pub sized : SizeOf s.chip.part (length array)
  pub rows : length es ≡ length ls
  pub few : length ls ≤ 65536
  pub answers : length row ≡ length ls

-- No sample before a place is faulty (Refusal numbers, 9, 10).
abbrev pub GoodBefore : List ℕ → List ℕ → ℕ → Type 0
GoodBefore es ls p = (j : ℕ) → j < p → (get_or es j 0 ≤ 100000) × (get_or ls j 0 ≤ 15)

-- Replay, by number (Refusal numbers, 4 to 10).
pub record Replay : Type 0 where
  -- a state field is outside its range
  pub four : (s : State) (es ls array row : List ℕ) (p : ℕ) (r : Replayed) (array' row' : List ℕ)
      → Replays s es ls array row r array' row' → (meant r.reply ≡ refused 4 p) ↔ ((p ≡ 0) × ¬ WithinRanges s)
  -- array length is not 4,096, or 16,384 where the state's part is a larger one
  pub five : (s : State) (es ls array row : List ℕ) (p : ℕ) (r : Replayed) (array' row' : List ℕ)
      → Replays s es ls array row r array' row'
      → (meant r.reply ≡ refused 5 p) ↔ ((p ≡ 0) × WithinRanges s × ¬ SizeOf s.chip.part (length array))
  -- time and level rows differ in length
  pub six : (s : State) (es ls array row : List ℕ) (p : ℕ) (r : Replayed) (array' row' : List ℕ)
      → Replays s es ls array row r array' row'
      → (meant r.reply ≡ refused 6 p) ↔ ((p ≡ 0) × WithinRanges s × SizeOf s.chip.part (length array) × ¬ (length es ≡ length ls))
  -- over 65,536 samples
  pub seven : (s : State) (es ls array row : List ℕ) (p : ℕ) (r : Replayed) (array' row' : List ℕ)
      → Replays s es ls array row r array' row'
      → (meant r.reply ≡ refused 7 p)
      ↔ ((p ≡ 0) × WithinRanges s × SizeOf s.chip.part (length array) × (length es ≡ length ls) × (65536 < length ls))
  -- answer row's length is not the level row's
  pub eight : (s : State) (es ls array row : List ℕ) (p : ℕ) (r : Replayed) (array' row' : List ℕ)
      → Replays s es ls array row r array' row'
      → (meant r.reply ≡ refused 8 p)
      ↔ ((p ≡ 0)
      × WithinRanges s
      × SizeOf s.chip.part (length array)
      × (length es ≡ length ls)
      × (length ls ≤ 65536)
      × ¬ (length row ≡ length ls))
  -- elapsed over 100,000; place: sample
  pub nine : (s : State) (es ls array row : List ℕ) (p : ℕ) (r : Replayed) (array' row' : List ℕ)
      → Replays s es ls array row r array' row'
      → (meant r.reply ≡ refused 9 p)
      ↔ (RowsFit s es ls array row × (p < length ls) × GoodBefore es ls p × (100000 < get_or es p 0))
  -- level byte over 15; place: sample
  pub ten : (s : State) (es ls array row : List ℕ) (p : ℕ) (r : Replayed) (array' row' : List ℕ)
      → Replays s es ls array row r array' row'
      → (meant r.reply ≡ refused 10 p)
      ↔ (RowsFit s es ls array row
      × (p < length ls)
      × GoodBefore es ls p
      × (get_or es p 0 ≤ 100000)
      × (15 < get_or ls p 0))
  -- otherwise it is accepted, with the row length
  pub accepted : (s : State) (es ls array row : List ℕ) (n : ℕ) (r : Replayed) (array' row' : List ℕ)
      → Replays s es ls array row r array' row'
      → (meant r.reply ≡ accepted n) ↔ ((n ≡ length ls) × RowsFit s es ls array row × GoodBefore es ls (length ls))
  -- and no other number is given
  pub no_other : (s : State) (es ls array row : List ℕ) (k p : ℕ) (r : Replayed) (array' row' : List ℕ)
      → Replays s es ls array row r array' row' → meant r.reply ≡ refused k p → (4 ≤ k) × (k ≤ 10)
