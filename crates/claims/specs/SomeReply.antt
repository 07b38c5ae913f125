-- There is a reply (document 01, Leaving no slack). For each public operation and every input there is an outcome that keeps what the
-- operation promises: no promise asks for what cannot be. With OneReply there is exactly one. A lent row, array or buffer that comes back
-- is as long as it was, by its type; that is not said here.
-- For a person from the line: whatever you ask, there is an answer.
use Rattle.std.specs.Prelude.{ℕ, List, Result}
use Rattle.part.specs.declared.state.State.{State}
use Rattle.ground.specs.declared.Refusal.{Refusal}
use Rattle.power.specs.declared.Replayed.{Replayed}
use Rattle.ground.specs.Size.{SizesPart}
use Rattle.power.specs.Promises.{PowersUp, ReadsRegister}
use Rattle.twin.specs.Promises.{Replays}
use Rattle.intel.specs.Intel.{intel}
use Rattle.image.specs.Promises.{ReadsImage, WritesImage}
use Rattle.texts.specs.Laying.{Starts}
use Rattle.tidying.specs.Shown.{shown_of}
use Rattle.telling.specs.Told.{ReadsThrough, WritesThrough}
use Rattle.door.specs.Promises.{ReplaysOnce, ReplaysDump}
use Rattle.judging.specs.Promises.{Judges}
use Rattle.disagreements.specs.Promises.{Reports}
use Rattle.transfers.specs.Promises.{Listed}
use Rattle.transfers.specs.Promises.{Lists}

-- An outcome that keeps a promise (Leaving no slack, only one possible reply).
abbrev pub Some : {A : Type 0} → (A → Type 0) → Type 0
Some {A} keeps = (x : A) × keeps x

-- An outcome for each public operation, whatever goes in (Leaving no slack, each public operation).
pub record SomeReply : Type 0 where
  pub power-up : (part select stored : ℕ) → Some (PowersUp part select stored)
  pub replay : (s : State) (es ls array row : List ℕ)
      → Some (λ ((r, array', row') : Replayed × List ℕ × List ℕ). Replays s es ls array row r array' row')
  pub register : (s : State) → Some (ReadsRegister s)
  pub size : (part : ℕ) → Some (SizesPart part)
  pub read-image : (part : ℕ) (text array : List ℕ)
      → Some (λ ((r, array') : Result ℕ Refusal × List ℕ). ReadsImage intel part text array r array')
  pub write-image : (part : ℕ) (array out : List ℕ) → Some (λ ((r, out') : Result ℕ Refusal × List ℕ). WritesImage intel part array out r out')
  pub tidy : (part : ℕ) (text out : List ℕ) → Some (λ ((r, out') : ℕ × List ℕ). Starts (shown_of part text) out r out')
  pub door-replay : (part select stored : ℕ) (es ls array row numbers : List ℕ)
      → Some (λ ((r, array', row', numbers') : ℕ × List ℕ × List ℕ × List ℕ). ReplaysOnce part select stored es ls array row numbers r array' row' numbers')
  pub door-read-image : (part : ℕ) (text array numbers : List ℕ)
      → Some (λ ((r, array', numbers') : ℕ × List ℕ × List ℕ). ReadsThrough part text array numbers r array' numbers')
  pub door-write-image : (part : ℕ) (array out numbers : List ℕ)
      → Some (λ ((r, out', numbers') : ℕ × List ℕ × List ℕ). WritesThrough part array out numbers r out' numbers')
  pub list : (s : State) (es ls array row : List ℕ)
      → Some (λ ((r, array', row') : Listed × List ℕ × List ℕ). Lists s es ls array row r array' row')
  pub judge : (dump : List ℕ) → Some (Judges dump)
  pub report : (part select stored : ℕ) (dump array row : List ℕ)
      → Some (λ ((r, array', row') : Result ℕ Refusal × List ℕ × List ℕ). Reports part select stored dump array row r array' row')
  pub door-replay-dump : (part select stored : ℕ) (dump array row numbers : List ℕ)
      → Some (λ ((r, array', row', numbers') : ℕ × List ℕ × List ℕ × List ℕ). ReplaysDump part select stored dump array row numbers r array' row' numbers')
