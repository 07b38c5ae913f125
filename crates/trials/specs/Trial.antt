-- One case: power-up, the words put in, and the replays (docs/BENCH.md).
use Rattle.std.specs.Prelude.{ℕ, min, Bool, true, false, List, ◌≡◌, length, replicate, Result, Ok, Err}
use Rattle.std.specs.Result.{is_ok}
use Rattle.part.specs.declared.state.State.{State}
use Rattle.ground.specs.Numbers.{x4323}
use Rattle.ground.specs.Verdict.{Verdict, accepted, refused, meant}
use Rattle.ground.specs.declared.Refusal.{Refusal}
use Rattle.refusals.specs.Refusals.{power_of}
use Rattle.power.specs.Power.{powered_up}
use Rattle.form.specs.declared.headers.Header.{Header}
use Rattle.power.specs.declared.Replayed.{Replayed}
use Rattle.form.specs.Header.{state_of}
use Rattle.trials.specs.Rounds.{Round, round_of, times_of}

-- What an answer byte holds before any replay writes it.
abbrev pub blank : ℕ
blank = 0xEE

-- The power-up's verdict, of the header's words as its arguments can hold them.
unfoldable pub up_of : Header → Verdict
up_of h = power_of (min h.part 65535) (min h.select 255) (min h.stored 255)

-- The state at power-up, with the header's words put in.
unfoldable pub preset_state : Header → State
preset_state h = state_of h (powered_up (min h.part 65535) (min h.select 255) (min h.stored 255))

-- Whether anything is replayed: where power-up was accepted.
abbrev pub ran_by : Verdict → Bool
ran_by (accepted n) = true
ran_by (refused k p) = false

-- What a case leaves: a refused power-up leaves the rows alone, else they are replayed over a blank answer row.
abbrev pub tried_by : Verdict → Header → List ℕ → List ℕ → List ℕ → List ℕ → Round
tried_by (accepted n) h es ls array row = times_of h.times (preset_state h) es ls array (replicate (length row) blank)
tried_by (refused k p) h es ls array row = record { verdict = refused k p; part = record { state = powered_up x4323 0 0; array = array }; row = row }

-- What a case leaves.
unfoldable pub tried_of : Header → List ℕ → List ℕ → List ℕ → List ℕ → Round
tried_of h es ls array row = tried_by (up_of h) h es ls array row

-- What a case says that it left: the last reply with its state, or the refusal of its power-up with the state that comes with one.
abbrev pub left_of : Result Replayed Refusal → List ℕ → List ℕ → Round
left_of (Ok last) array row = round_of last array row
left_of (Err k) array row = record { verdict = meant (Err k); part = record { state = powered_up x4323 0 0; array = array }; row = row }

-- A case over its rows: whether anything was replayed, and what the last replay left.
pub record Tries (h : Header) (es ls array row : List ℕ) (r : Result Replayed Refusal) (array' row' : List ℕ) : Type 0 where
  pub ran : is_ok r ≡ ran_by (up_of h)
  pub last : left_of r array' row' ≡ tried_of h es ls array row
