-- Laws of the door's replays. Assumes nothing.
use Prim.Native.Nat.{ℕ}
use mathlib.Core.List.{List}
use mathlib.Core.Path.{◌≡◌, ap, ◌∙◌}
use lib.ListN.{length}
use borrow.Author.Tests.{eq-eqb, ne_eqb}
use Rattle.std.specs.Prelude.{Result}
use Rattle.ground.specs.Verdict.{meant}
use Rattle.ground.specs.declared.Refusal.{Refusal}
use Rattle.telling.specs.Told.{told}
use Rattle.captures.specs.Once.{Captures}
use Rattle.disagreements.specs.Promises.{Reports}
use Rattle.door.specs.Promises.{ReplaysOnce, ReplaysDump}

-- A reply row of another length: nothing is done.
pub replays-none : (numbers : List ℕ) → (length numbers ≡ 2 → ⊥) → (part select stored : ℕ) (es ls array row : List ℕ)
    → ReplaysOnce part select stored es ls array row numbers 0 array row numbers
replays-none numbers h part select stored es ls array row =
    let e = ne_eqb (length numbers) 2 h in
    record { answer = rw e; reply = rw e; kept = rw e; said = rw e }

-- A reply row of two numbers: the capture is replayed, and its reply told.
pub replays-told : (numbers numbers' : List ℕ) (r : Result ℕ Refusal) → length numbers ≡ 2 → numbers' ≡ told (meant r)
    → (part select stored : ℕ) (es ls array row array' row' : List ℕ) → Captures part select stored es ls array row r array' row'
    → ReplaysOnce part select stored es ls array row numbers 1 array' row' numbers'
replays-told numbers numbers' r h t part select stored es ls array row array' row' x =
    let e = eq-eqb (length numbers) 2 h in
    record { answer = rw e; reply = t ∙ ap told x.reply ∙ rw e; kept = x.kept ∙ rw e; said = x.said ∙ rw e }

-- The same of a dump.
pub dump-none : (numbers : List ℕ) → (length numbers ≡ 2 → ⊥) → (part select stored : ℕ) (dump array row : List ℕ)
    → ReplaysDump part select stored dump array row numbers 0 array row numbers
dump-none numbers h part select stored dump array row =
    let e = ne_eqb (length numbers) 2 h in
    record { answer = rw e; reply = rw e; kept = rw e; said = rw e }

pub dump-told : (numbers numbers' : List ℕ) (r : Result ℕ Refusal) → length numbers ≡ 2 → numbers' ≡ told (meant r)
    → (part select stored : ℕ) (dump array row array' row' : List ℕ) → Reports part select stored dump array row r array' row'
    → ReplaysDump part select stored dump array row numbers 1 array' row' numbers'
dump-told numbers numbers' r h t part select stored dump array row array' row' x =
    let e = eq-eqb (length numbers) 2 h in
    record { answer = rw e; reply = t ∙ ap told x.reply ∙ rw e; kept = x.kept ∙ rw e; said = x.said ∙ rw e }
