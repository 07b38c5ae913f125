-- What is promised of the list of transfers, for every input: its whole reply, the state, and what array and row hold at the end.
use Rattle.std.specs.Prelude.{ℕ, List, ◌≡◌, length}
use Rattle.ground.specs.Verdict.{Verdict, accepted, refused, meant}
use Rattle.part.specs.declared.state.State.{State}
use Rattle.refusals.specs.Refusals.{capture_of}
use Rattle.entries.specs.Entries.{Placed, laid_from}
use Rattle.sample.specs.Run.{run_of, part_after}
use Rattle.transfers.specs.Transfers.{entries_of}
-- A reply with the state beside it, for a list as for a replay.
pub use Rattle.power.specs.declared.Replayed.{Replayed as Listed}

-- The verdict of a list: an accepted one counts its entries in place of samples (Refusal numbers, 4 to 7, 9, 10).
abbrev pub listed_by : Verdict → List Placed → Verdict
listed_by (accepted n) xs = accepted (length xs)
listed_by (refused k p) xs = refused k p

-- The row that entries are laid over: refused, as it was (Refusal numbers, last lines).
abbrev pub laid_by : Verdict → List Placed → List ℕ → List ℕ
laid_by (accepted n) xs row = laid_from 0 xs row
laid_by (refused k p) xs row = row

-- The list of a capture from a state and an array: its verdict, the entries that have room in the row, and the part after it; refused by
-- the numbers of a replay but 8, for there is no answer row (What goes in and what comes out; Refusal numbers).
pub record Lists (s : State) (es ls array row : List ℕ) (r : Listed) (array' row' : List ℕ) : Type 0 where
  pub reply : meant r.reply ≡ listed_by (capture_of s es ls array) (entries_of 0 es ls (record { state = s; array = array }))
  pub state : r.state ≡ (part_after (capture_of s es ls array) es ls (record { state = s; array = array })).state
  pub kept : array' ≡ (part_after (capture_of s es ls array) es ls (record { state = s; array = array })).array
  pub said : row' ≡ laid_by (capture_of s es ls array) (entries_of 0 es ls (record { state = s; array = array })) row

-- The walk over an accepted capture: the count of entries, those that have room in the row, and the part after it.
pub record Walks (s : State) (es ls array row : List ℕ) (r : Listed) (array' row' : List ℕ) : Type 0 where
  pub reply : meant r.reply ≡ accepted (length (entries_of 0 es ls (record { state = s; array = array })))
  pub state : r.state ≡ (run_of es ls (record { state = s; array = array })).state
  pub kept : array' ≡ (run_of es ls (record { state = s; array = array })).array
  pub said : row' ≡ laid_from 0 (entries_of 0 es ls (record { state = s; array = array })) row
