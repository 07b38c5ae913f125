-- Demand 1 (document 01, Refusal numbers, last lines). Whatever goes in: where the table of refusals has a number and a place for it, an
-- outcome that keeps the operation's promise says these, and nothing has changed: a replay hands back the state given and leaves array and
-- answer row as they were, a list of transfers the state, the array and the row of entries, a reading leaves the array, a writing the buffer; the program writes one line. A refused power-up hands back the
-- state of part 4323, select 0, stored byte 00h. Through the door the two numbers of the reply row are that number and that place: this row
-- and the program's line are all that a refusal writes. Where a reply row is not two numbers long nothing is done, and the answer is 0. What
-- is lent for reading only (times, levels, text) no operation can change.
-- For a person from the line: give it anything. What it cannot use it turns away with a number that says why and a place that says where, and
-- everything you lent comes back as you lent it, but for the row or the line that tells you this.
use Rattle.std.specs.Prelude.{ℕ, List, [], ◌∷◌, ◌++◌, ◌≡◌, length, drop, false, Result, Option}
use Rattle.ground.specs.Kind.{known}
use Rattle.ground.specs.Numbers.{x4323}
use Rattle.part.specs.declared.state.State.{State}
use Rattle.ground.specs.Verdict.{accepted, refused, meant}
use Rattle.refusals.specs.Refusals.{power_of, capture_of, judged_of}
use Rattle.ground.specs.declared.Refusal.{Refusal}
use Rattle.power.specs.declared.Replayed.{Replayed}
use Rattle.ground.specs.Size.{size_meant, SizesPart}
use Rattle.power.specs.Power.{powered_up}
use Rattle.power.specs.Promises.{PowersUp}
use Rattle.twin.specs.Promises.{Replays}
use Rattle.intel.specs.Intel.{intel}
use Rattle.forms.specs.Reading.{bad}
use Rattle.image.specs.Promises.{image_of, write_verdict, ReadsImage, WritesImage}
use Rattle.texts.specs.Refusal.{refusal_line}
use Rattle.texts.specs.Laying.{Starts}
use Rattle.tidying.specs.Shown.{text_gives, shown_of}
use Rattle.telling.specs.Told.{ReadsThrough, WritesThrough}
use Rattle.door.specs.Promises.{ReplaysOnce}
use Rattle.transfers.specs.Promises.{Listed}
use Rattle.transfers.specs.Promises.{Lists}

-- What each operation says and leaves where it refuses: k is the paper's number and p its place (Refusal numbers, last lines).
pub record Demand1 : Type 0 where
  pub power-up : (part select stored : ℕ) (r : Replayed) (k p : ℕ)
      → PowersUp part select stored r → power_of part select stored ≡ refused k p
      → (meant r.reply ≡ refused k p) × (r.state ≡ powered_up x4323 0 0)
  pub replay : (s : State) (es ls array row : List ℕ) (r : Replayed) (array' row' : List ℕ) (k p : ℕ)
      → Replays s es ls array row r array' row' → judged_of s es ls array row ≡ refused k p
      → (meant r.reply ≡ refused k p) × (r.state ≡ s) × (array' ≡ array) × (row' ≡ row)
  pub read-image : (part : ℕ) (text array : List ℕ) (r : Result ℕ Refusal) (array' : List ℕ) (k p : ℕ)
      → ReadsImage intel part text array r array' → image_of intel part text array ≡ bad k p → (meant r ≡ refused k p) × (array' ≡ array)
  pub write-image : (part : ℕ) (array out : List ℕ) (r : Result ℕ Refusal) (out' : List ℕ) (k p : ℕ)
      → WritesImage intel part array out r out' → write_verdict intel part array out ≡ refused k p → (meant r ≡ refused k p) × (out' ≡ out)
  pub tidy : (part : ℕ) (text out : List ℕ) (r : ℕ) (out' : List ℕ) (k p : ℕ)
      → Starts (shown_of part text) out r out' → text_gives part text ≡ bad k p
      → (r ≡ length (refusal_line k p)) × (out' ≡ refusal_line k p ++ drop r out)
  pub size : (part : ℕ) (r : Option ℕ) → SizesPart part r → known part ≡ false → size_meant r ≡ refused 1 0
  pub door-power-up : (part select stored : ℕ) (es ls array row numbers : List ℕ) (r : ℕ) (array' row' numbers' : List ℕ) (k p : ℕ)
      → ReplaysOnce part select stored es ls array row numbers r array' row' numbers' → length numbers ≡ 2
      → power_of part select stored ≡ refused k p
      → (r ≡ 1) × (numbers' ≡ k ∷ p ∷ []) × (array' ≡ array) × (row' ≡ row)
  pub door-replay : (part select stored : ℕ) (es ls array row numbers : List ℕ) (r : ℕ) (array' row' numbers' : List ℕ) (n k p : ℕ)
      → ReplaysOnce part select stored es ls array row numbers r array' row' numbers' → length numbers ≡ 2
      → power_of part select stored ≡ accepted n → judged_of (powered_up part select stored) es ls array row ≡ refused k p
      → (r ≡ 1) × (numbers' ≡ k ∷ p ∷ []) × (array' ≡ array) × (row' ≡ row)
  pub door-read-image : (part : ℕ) (text array numbers : List ℕ) (r : ℕ) (array' numbers' : List ℕ) (k p : ℕ)
      → ReadsThrough part text array numbers r array' numbers' → length numbers ≡ 2 → image_of intel part text array ≡ bad k p
      → (r ≡ 1) × (numbers' ≡ k ∷ p ∷ []) × (array' ≡ array)
  pub door-write-image : (part : ℕ) (array out numbers : List ℕ) (r : ℕ) (out' numbers' : List ℕ) (k p : ℕ)
      → WritesThrough part array out numbers r out' numbers' → length numbers ≡ 2 → write_verdict intel part array out ≡ refused k p
      → (r ≡ 1) × (numbers' ≡ k ∷ p ∷ []) × (out' ≡ out)
  -- by our choice nothing is done for a reply row that is not two numbers long
  pub door-row-replay : (part select stored : ℕ) (es ls array row numbers : List ℕ) (r : ℕ) (array' row' numbers' : List ℕ)
      → ReplaysOnce part select stored es ls array row numbers r array' row' numbers' → ¬ (length numbers ≡ 2)
      → (r ≡ 0) × (numbers' ≡ numbers) × (array' ≡ array) × (row' ≡ row)
  pub door-row-read-image : (part : ℕ) (text array numbers : List ℕ) (r : ℕ) (array' numbers' : List ℕ)
      → ReadsThrough part text array numbers r array' numbers' → ¬ (length numbers ≡ 2)
      → (r ≡ 0) × (numbers' ≡ numbers) × (array' ≡ array)
  pub door-row-write-image : (part : ℕ) (array out numbers : List ℕ) (r : ℕ) (out' numbers' : List ℕ)
      → WritesThrough part array out numbers r out' numbers' → ¬ (length numbers ≡ 2)
      → (r ≡ 0) × (numbers' ≡ numbers) × (out' ≡ out)
  pub list : (s : State) (es ls array row : List ℕ) (r : Listed) (array' row' : List ℕ) (k p : ℕ)
      → Lists s es ls array row r array' row' → capture_of s es ls array ≡ refused k p
      → (meant r.reply ≡ refused k p) × (r.state ≡ s) × (array' ≡ array) × (row' ≡ row)
  -- a replay says a refusal only where the table has it
  pub only : (s : State) (es ls array row : List ℕ) (r : Replayed) (array' row' : List ℕ) (k p : ℕ)
      → Replays s es ls array row r array' row' → meant r.reply ≡ refused k p → judged_of s es ls array row ≡ refused k p
