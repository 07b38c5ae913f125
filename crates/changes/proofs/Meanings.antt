-- What a change says, case by case. Assumes nothing.
use Prim.Native.Nat.{ℕ}
use mathlib.Core.Path.{◌≡◌}
use Rattle.sections.specs.declared.Stage.TheVariants.{Body}
use Rattle.sections.specs.Sections.{moves, times, puts, breaks}
use Rattle.changes.specs.declared.Mode.{Mode}
use Rattle.changes.specs.declared.Change.{Change}
use Rattle.changes.specs.declared.Change.TheVariants.{Time, Value, Moves}
use Rattle.std.specs.Prelude.{Option, None, Some}
use Rattle.changes.specs.Parts.{place_of, change_meant}

module _ (r : Option Change) where
  pub means-time : (t : ℕ) → r ≡ Some (Time t) → change_meant r ≡ times t
  unfolding change_meant
  means-time t h = rw h

  pub means-value : (c marks : ℕ) → r ≡ Some (Value c marks) → change_meant r ≡ puts c marks
  unfolding change_meant
  means-value c marks h = rw h

  pub means-moves : (next : Mode) → r ≡ Some (Moves next) → change_meant r ≡ moves (record { stage = Body; place = place_of next })
  unfolding change_meant
  means-moves next h = rw h

  pub means-breaks : r ≡ None → change_meant r ≡ breaks
  unfolding change_meant
  means-breaks h = rw h
