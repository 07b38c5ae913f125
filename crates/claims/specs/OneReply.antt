-- There is only one possible reply (document 01, Leaving no slack). For each public operation and every input, two
-- outcomes that both keep what the operation promises are one and the same: in the reply, in the state beside it, and
-- in every lent row, array and buffer; through the door in the answer and the reply row too. That it is the right one, Demand1 and Demand2 say. The buffer that
-- the program lends has room for the longest text, by its type.
-- For a person from the line: ask the same thing twice and you get the same answer; nothing is left open.
use Rattle.std.specs.Prelude.{ℕ, List, ◌≡◌, Result}
use Rattle.part.specs.declared.state.State.{State}
use Rattle.ground.specs.declared.Refusal.{Refusal}
use Rattle.power.specs.declared.Replayed.{Replayed}
use Rattle.ground.specs.Size.{SizesPart}
use Rattle.power.specs.Promises.{PowersUp, ReadsRegister}
use Rattle.twin.specs.Promises.{Replays}
use Rattle.intel.specs.Intel.{intel}
use Rattle.image.specs.Promises.{ReadsImage, WritesImage}
use Rattle.texts.specs.Laying.{Starts}
use Rattle.tidying.specs.Shown.{shown_of}
use Rattle.telling.specs.Told.{ReadsThrough, WritesThrough}
use Rattle.door.specs.Promises.{ReplaysOnce}
use Rattle.transfers.specs.Promises.{Listed}
use Rattle.transfers.specs.Promises.{Lists}

-- Two outcomes that both keep a promise are one (Leaving no slack, only one possible reply).
abbrev pub OnlyOne : {A : Type 0} → (A → Type 0) → Type 0
OnlyOne {A} keeps = (x y : A) → keeps x → keeps y → x ≡ y

-- One outcome for each public operation, whatever goes in (Leaving no slack, each public operation).
pub record OneReply : Type 0 where
  pub power-up : (part select stored : ℕ) → OnlyOne (PowersUp part select stored)
  pub replay : (s : State) (es ls array row : List ℕ)
      → OnlyOne (λ ((r, array', row') : Replayed × List ℕ × List ℕ). Replays s es ls array row r array' row')
  pub register : (s : State) → OnlyOne (ReadsRegister s)
  pub size : (part : ℕ) → OnlyOne (SizesPart part)
  pub read-image : (part : ℕ) (text array : List ℕ)
      → OnlyOne (λ ((r, array') : Result ℕ Refusal × List ℕ). ReadsImage intel part text array r array')
  pub write-image : (part : ℕ) (array out : List ℕ) → OnlyOne (λ ((r, out') : Result ℕ Refusal × List ℕ). WritesImage intel part array out r out')
  pub tidy : (part : ℕ) (text out : List ℕ) → OnlyOne (λ ((r, out') : ℕ × List ℕ). Starts (shown_of part text) out r out')
  pub door-replay : (part select stored : ℕ) (es ls array row numbers : List ℕ)
      → OnlyOne (λ ((r, array', row', numbers') : ℕ × List ℕ × List ℕ × List ℕ). ReplaysOnce part select stored es ls array row numbers r array' row' numbers')
  pub door-read-image : (part : ℕ) (text array numbers : List ℕ)
      → OnlyOne (λ ((r, array', numbers') : ℕ × List ℕ × List ℕ). ReadsThrough part text array numbers r array' numbers')
  pub door-write-image : (part : ℕ) (array out numbers : List ℕ)
      → OnlyOne (λ ((r, out', numbers') : ℕ × List ℕ × List ℕ). WritesThrough part array out numbers r out' numbers')
  pub list : (s : State) (es ls array row : List ℕ)
      → OnlyOne (λ ((r, array', row') : Listed × List ℕ × List ℕ). Lists s es ls array row r array' row')
