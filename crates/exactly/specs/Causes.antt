-- For a person from the line: nothing is turned away that the table of refusals lets through.
-- No refusal without cause: where an outcome that keeps an operation's contract says a refusal, the table has it. What an operation does
-- where the table has a refusal, Demand1 says (document 01, Refusal numbers, given exactly when; Leaving no slack, refuses everything).
use Rattle.std.specs.Prelude.{ℕ, false, List, [], ◌∷◌, ◌⊎◌, ◌≡◌, take, Result, Option}
use Rattle.ground.specs.Kind.{known}
use Rattle.ground.specs.Size.{size_meant, SizesPart}
use Rattle.ground.specs.Verdict.{accepted, refused, meant}
use Rattle.ground.specs.declared.Refusal.{Refusal}
use Rattle.part.specs.declared.state.State.{State}
use Rattle.refusals.specs.Refusals.{power_of, judged_of, capture_of}
use Rattle.transfers.specs.Promises.{Listed}
use Rattle.transfers.specs.Promises.{Lists}
use Rattle.power.specs.declared.Replayed.{Replayed}
use Rattle.power.specs.Power.{powered_up}
use Rattle.power.specs.Promises.{PowersUp}
use Rattle.twin.specs.Promises.{Replays}
use Rattle.intel.specs.Intel.{intel}
use Rattle.forms.specs.Reading.{bad}
use Rattle.image.specs.Promises.{image_of, write_verdict, ReadsImage, WritesImage}
use Rattle.texts.specs.Laying.{Starts}
use Rattle.texts.specs.Refusal.{refusal_line}
use Rattle.tidying.specs.Shown.{text_gives, shown_of}
use Rattle.telling.specs.Told.{ReadsThrough, WritesThrough}
use Rattle.door.specs.Promises.{ReplaysOnce}

-- What each operation says where it refuses, the table has (Refusal numbers, given exactly when).
pub record NoRefusalWithoutCause : Type 0 where
  pub power-up : (part select stored : ℕ) (r : Replayed) (k p : ℕ)
      → PowersUp part select stored r → meant r.reply ≡ refused k p → power_of part select stored ≡ refused k p
  pub replay : (s : State) (es ls array row : List ℕ) (r : Replayed) (array' row' : List ℕ) (k p : ℕ)
      → Replays s es ls array row r array' row' → meant r.reply ≡ refused k p → judged_of s es ls array row ≡ refused k p
  pub list : (s : State) (es ls array row : List ℕ) (r : Listed) (array' row' : List ℕ) (k p : ℕ)
      → Lists s es ls array row r array' row' → meant r.reply ≡ refused k p → capture_of s es ls array ≡ refused k p
  pub size : (part : ℕ) (r : Option ℕ) (k p : ℕ) → SizesPart part r → size_meant r ≡ refused k p
      → (known part ≡ false) × (k ≡ 1) × (p ≡ 0)
  pub read-image : (part : ℕ) (text array : List ℕ) (r : Result ℕ Refusal) (array' : List ℕ) (k p : ℕ)
      → ReadsImage intel part text array r array' → meant r ≡ refused k p → image_of intel part text array ≡ bad k p
  pub write-image : (part : ℕ) (array out : List ℕ) (r : Result ℕ Refusal) (out' : List ℕ) (k p : ℕ)
      → WritesImage intel part array out r out' → meant r ≡ refused k p → write_verdict intel part array out ≡ refused k p
  -- the program writes a refusal's line only where the table has that refusal
  pub tidy : (part : ℕ) (text out : List ℕ) (r : ℕ) (out' : List ℕ) (k p : ℕ)
      → Starts (shown_of part text) out r out' → take r out' ≡ refusal_line k p
      → text_gives part text ≡ bad k p
  -- through the door the reply row has a number that is not 0
  pub door-replay : (part select stored : ℕ) (es ls array row numbers : List ℕ) (r : ℕ) (array' row' numbers' : List ℕ) (k p : ℕ)
      → ReplaysOnce part select stored es ls array row numbers r array' row' numbers' → r ≡ 1 → ¬ (k ≡ 0)
      → numbers' ≡ k ∷ p ∷ []
      → (power_of part select stored ≡ refused k p)
      ⊎ ((n : ℕ)
      × (power_of part select stored ≡ accepted n)
      × (judged_of (powered_up part select stored) es ls array row ≡ refused k p))
  pub door-read-image : (part : ℕ) (text array numbers : List ℕ) (r : ℕ) (array' numbers' : List ℕ) (k p : ℕ)
      → ReadsThrough part text array numbers r array' numbers' → r ≡ 1 → ¬ (k ≡ 0) → numbers' ≡ k ∷ p ∷ []
      → image_of intel part text array ≡ bad k p
  pub door-write-image : (part : ℕ) (array out numbers : List ℕ) (r : ℕ) (out' numbers' : List ℕ) (k p : ℕ)
      → WritesThrough part array out numbers r out' numbers' → r ≡ 1 → ¬ (k ≡ 0) → numbers' ≡ k ∷ p ∷ []
      → write_verdict intel part array out ≡ refused k p
