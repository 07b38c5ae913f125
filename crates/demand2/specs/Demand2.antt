-- Demand 2, of captures; of images it is RoundTrip (document 01, What goes in and what comes out; State and time, each sample). For every capture that is
-- accepted, and every outcome that keeps the replay's promise: the state, the array and the answer row are those that
-- one sample's rule gives, applied to the samples one after another; each answer is that of the part after the samples
-- up to its own; and the count is the length of the rows. Two pieces of a capture that are accepted one after the
-- other, state and array carried on, give what the whole gives: joined, their outcomes are one that keeps the promise
-- for the whole, and there is only one such (OneReply). And an accepted capture can be cut anywhere: its first piece is
-- accepted, and so is its second, from the state and the array that the first leaves.
-- For a person from the line: what it answers to a recording is what the rules give, one sample after the other, and there is an answer for every
-- sample. You may play a recording of at most 65,536 samples in pieces.
use Rattle.std.specs.Prelude.{ℕ, ◌+◌, ◌<◌, ◌≤◌, List, ◌++◌, ◌≡◌, length, get_or, take, Ok}
use Rattle.ground.specs.Numbers.{most_samples}
use Rattle.part.specs.declared.state.State.{State}
use Rattle.levels.specs.Level.{answer_of}
use Rattle.ground.specs.Verdict.{accepted}
use Rattle.refusals.specs.Refusals.{judged_of}
use Rattle.power.specs.declared.Replayed.{Replayed}
use Rattle.sample.specs.Run.{Part, run_of, answers_of}
use Rattle.twin.specs.Promises.{Replays, Runs}

-- A capture that is accepted with a count, and an outcome that keeps the promise (What goes in and what comes out).
pub record Accepts (s : State) (es ls array row : List ℕ) (n : ℕ) (r : Replayed) (array' row' : List ℕ) : Type 0 where
  pub judged : judged_of s es ls array row ≡ accepted n
  pub replays : Replays s es ls array row r array' row'

-- All of it as the rules give it, answer i that of the part after samples 0 to i (What goes in and what comes out).
pub record ByRules (s : State) (es ls array row : List ℕ) (n : ℕ) (r : Replayed) (array' row' : List ℕ) : Type 0 where
  pub reply : r.reply ≡ Ok n
  pub runs : Runs s es ls array r.state array' row'
  pub answers : length row' ≡ n
  pub each : (i : ℕ) → i < length ls → get_or row' i 0
      ≡ answer_of (run_of (take (i + 1) es) (take (i + 1) ls) (record { state = s; array = array })).state

-- Two pieces, the part carried on, give what the whole gives, by the rules and by the operation (State and time).
pub record Pieces (es₁ ls₁ es₂ ls₂ : List ℕ) : Type 0 where
  pub run : (p : Part) → length es₁ ≡ length ls₁ → run_of (es₁ ++ es₂) (ls₁ ++ ls₂) p ≡ run_of es₂ ls₂ (run_of es₁ ls₁ p)
  pub answers : (p : Part) → length es₁ ≡ length ls₁
      → answers_of (es₁ ++ es₂) (ls₁ ++ ls₂) p ≡ answers_of es₁ ls₁ p ++ answers_of es₂ ls₂ (run_of es₁ ls₁ p)
  pub replay : (s : State) (array row row₁ row₂ : List ℕ) (n₁ n₂ : ℕ)
      (r₁ r₂ : Replayed) (array₁ array₂ said₁ said₂ : List ℕ)
      → Accepts s es₁ ls₁ array row₁ n₁ r₁ array₁ said₁
      → Accepts r₁.state es₂ ls₂ array₁ row₂ n₂ r₂ array₂ said₂
      → length row ≡ n₁ + n₂ → n₁ + n₂ ≤ most_samples
      → Accepts s (es₁ ++ es₂) (ls₁ ++ ls₂) array row (n₁ + n₂)
      (record { reply = Ok (n₁ + n₂); state = r₂.state }) array₂ (said₁ ++ said₂)
  -- An accepted whole can be cut anywhere: both pieces are accepted (Refusal numbers, 4 to 10; State and time, ranges).
  pub split : (p : Part) (row row₁ row₂ : List ℕ) (n : ℕ) → length es₁ ≡ length ls₁
      → judged_of p.state (es₁ ++ es₂) (ls₁ ++ ls₂) p.array row ≡ accepted n
      → length row₁ ≡ length ls₁ → length row₂ ≡ length ls₂
      → (judged_of p.state es₁ ls₁ p.array row₁ ≡ accepted (length ls₁))
      × (judged_of (run_of es₁ ls₁ p).state es₂ ls₂ (run_of es₁ ls₁ p).array row₂ ≡ accepted (length ls₂))

-- What two pieces of a capture came to, beside what the whole came to: both are accepted with their lengths, and joined they are the whole
-- (State and time, each sample).
pub record Joined (k m : ℕ) (r r₁ r₂ : Replayed) (array' array₂ said said₁ said₂ : List ℕ) : Type 0 where
  pub first : r₁.reply ≡ Ok k
  pub second : r₂.reply ≡ Ok m
  pub state : r.state ≡ r₂.state
  pub kept : array' ≡ array₂
  pub answers : said ≡ said₁ ++ said₂

-- The count of an accepted capture is the length of its rows (Leaving no slack, the count's being the row length).
pub record Counted (es ls row : List ℕ) (n : ℕ) : Type 0 where
  pub elapsed : length es ≡ n
  pub levels : length ls ≡ n
  pub answers : length row ≡ n

-- Demand 2: whole, in pieces, and counted (Leaving no slack, demand 2 at every sample).
pub record Demand2 : Type 0 where
  pub whole : (s : State) (es ls array row : List ℕ) (n : ℕ) (r : Replayed) (array' row' : List ℕ)
      → Accepts s es ls array row n r array' row' → ByRules s es ls array row n r array' row'
  pub pieces : (es₁ ls₁ es₂ ls₂ : List ℕ) → Pieces es₁ ls₁ es₂ ls₂
  pub count : (s : State) (es ls array row : List ℕ) (n : ℕ)
      → judged_of s es ls array row ≡ accepted n → Counted es ls row n
