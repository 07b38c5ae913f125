-- A capture replayed over and over, each time from what the time before left (docs/BENCH.md).
use Rattle.std.specs.Prelude.{ℕ, zero, suc, ◌-◌, List}
use Rattle.part.specs.declared.state.State.{State}
use Rattle.power.specs.declared.Replayed.{Replayed}
use Rattle.sample.specs.Run.{Part, part_after}
use Rattle.ground.specs.Verdict.{Verdict, meant}
use Rattle.refusals.specs.Refusals.{judged_of}
use Rattle.twin.specs.Promises.{row_after}

-- What a replay leaves: its verdict, the part, and the answer row.
pub record Round : Type 0 where
  pub verdict : Verdict
  pub part : Part
  pub row : List ℕ

-- A reply with the array and the answer row beside it, as a round.
abbrev pub round_of : Replayed → List ℕ → List ℕ → Round
round_of r array row = record { verdict = meant r.reply; part = record { state = r.state; array = array }; row = row }

-- One replay of the rows, from a part and an answer row.
unfoldable pub once_of : List ℕ → List ℕ → Part → List ℕ → Round
once_of es ls p row =
    record {
      verdict = judged_of p.state es ls p.array row;
      part = part_after (judged_of p.state es ls p.array row) es ls p;
      row = row_after (judged_of p.state es ls p.array row) es ls p row;
    }

-- So many replays more, each from the round before.
abbrev pub again_of : ℕ → List ℕ → List ℕ → Round → Round
again_of zero es ls r = r
again_of (suc n) es ls r = again_of n es ls (once_of es ls r.part r.row)

-- So many replays from a state and the rows; 0 counts as 1.
unfoldable pub times_of : ℕ → State → List ℕ → List ℕ → List ℕ → List ℕ → Round
times_of times s es ls array row = again_of (times - 1) es ls (once_of es ls (record { state = s; array = array }) row)
