-- Laws of replies that are told in two numbers. Assumes nothing.
use Prim.Native.Nat.{ℕ}
use mathlib.Core.List.{List}
use mathlib.Core.Path.{◌≡◌, ap, ◌∙◌}
use lib.ListN.{length}
use borrow.Author.Tests.{eq-eqb, ne_eqb}
use Rattle.std.specs.Prelude.{Result}
use Rattle.ground.specs.Verdict.{meant}
use Rattle.ground.specs.declared.Refusal.{Refusal}
use Rattle.intel.specs.Intel.{intel}
use Rattle.image.specs.Promises.{ReadsImage, WritesImage}
use Rattle.telling.specs.Told.{told, ReadsThrough, WritesThrough}

-- A reply row of another length: nothing is done.
module _ (part : ℕ) (numbers : List ℕ) (h : length numbers ≡ 2 → ⊥) where
  pub reads_none : (text array : List ℕ) → ReadsThrough part text array numbers 0 array numbers
  reads_none text array =
      let e = ne_eqb (length numbers) 2 h in
      record { answer = rw e; reply = rw e; kept = rw e }

  pub writes-none : (array out : List ℕ) → WritesThrough part array out numbers 0 out numbers
  writes-none array out =
      let e = ne_eqb (length numbers) 2 h in
      record { answer = rw e; reply = rw e; said = rw e }

-- A reply row of two numbers: the operation is done, and its reply told.
module _ (part : ℕ) (numbers numbers' : List ℕ) (r : Result ℕ Refusal) (h : length numbers ≡ 2) (t : numbers' ≡ told (meant r)) where
  pub reads-told : (text array array' : List ℕ) → ReadsImage intel part text array r array'
      → ReadsThrough part text array numbers 1 array' numbers'
  reads-told text array array' x =
      let e = eq-eqb (length numbers) 2 h in
      record { answer = rw e; reply = t ∙ ap told x.reply ∙ rw e; kept = x.kept ∙ rw e }

  pub writes-told : (array out out' : List ℕ) → WritesImage intel part array out r out'
      → WritesThrough part array out numbers 1 out' numbers'
  writes-told array out out' x =
      let e = eq-eqb (length numbers) 2 h in
      record { answer = rw e; reply = t ∙ ap told x.reply ∙ rw e; said = x.said ∙ rw e }
