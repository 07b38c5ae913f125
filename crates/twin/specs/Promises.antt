-- What the operations promise, for every input: the whole reply, the state, and what each lent row holds at the end. Nothing here is
-- assumed of an input: every definition is total.
use Rattle.std.specs.Prelude.{ℕ, List, ◌≡◌}
use Rattle.part.specs.declared.state.State.{State}
use Rattle.power.specs.declared.Replayed.{Replayed}
use Rattle.sample.specs.Run.{Part, run_of, part_after, answers_of}
use Rattle.ground.specs.Verdict.{Verdict, accepted, refused, meant}
use Rattle.refusals.specs.Refusals.{judged_of}

-- The answer row after a replay: refused, as it was (What goes in and what comes out; Refusal numbers, last lines).
abbrev pub row_after : Verdict → List ℕ → List ℕ → Part → List ℕ → List ℕ
row_after (accepted n) es ls p row = answers_of es ls p
row_after (refused k q) es ls p row = row

-- Replay: its verdict, the state and the array as the samples leave them, an answer a sample (Refusal numbers, 4 to 10).
pub record Replays (s : State) (es ls array row : List ℕ) (r : Replayed) (array' row' : List ℕ) : Type 0 where
  pub reply : meant r.reply ≡ judged_of s es ls array row
  pub state : r.state ≡ (part_after (judged_of s es ls array row) es ls (record { state = s; array = array })).state
  pub kept : array' ≡ (part_after (judged_of s es ls array row) es ls (record { state = s; array = array })).array
  pub said : row' ≡ row_after (judged_of s es ls array row) es ls (record { state = s; array = array }) row

-- The samples of an accepted capture: the part after them, and an answer for each (What goes in and what comes out).
pub record Runs (s : State) (es ls array : List ℕ) (r : State) (array' row' : List ℕ) : Type 0 where
  pub state : r ≡ (run_of es ls (record { state = s; array = array })).state
  pub kept : array' ≡ (run_of es ls (record { state = s; array = array })).array
  pub said : row' ≡ answers_of es ls (record { state = s; array = array })
