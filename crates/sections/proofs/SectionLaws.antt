-- Laws of the sections, for the proofs here and for callers. Assumes nothing.
use Prim.Native.Nat.{ℕ}
use mathlib.Core.Bool.{Bool, true, false, ◌&&◌, true≢false}
use mathlib.Core.List.{List, [], ◌∷◌}
use mathlib.Core.Path.{◌≡◌, refl, ap, sym, ◌∙◌}
use Rattle.sections.specs.declared.Stage.{Stage}
use Rattle.sections.specs.declared.Place.{Place}
use Rattle.sections.specs.declared.Step.{Step}
use Rattle.sections.specs.declared.Step.TheVariants.{Moves, Codes, Names, Defines}
use Rattle.std.specs.Prelude.{Option, None, Some}
use Rattle.std.specs.Bool.{then_some}
use Rattle.std.specs.Char.{is_ascii_graphic}
use Rattle.std.specs.List.{list_all}
use Rattle.sections.specs.Spelling.{printable}
use Rattle.sections.specs.Sections.{Says, moves, codes, names, defines, times, puts, breaks, step_meant, say_by}

-- What a step says, by its case.
module _ (r : Option Step) where
  pub step-moves : (stage : Stage) (place : Place) → r ≡ Some (Moves stage place)
      → step_meant r ≡ moves (record { stage = stage; place = place })
  unfolding step_meant
  step-moves stage place e = rw e

  pub step-codes : r ≡ Some Codes → step_meant r ≡ codes
  unfolding step_meant
  step-codes e = rw e

  pub step-names : r ≡ Some Names → step_meant r ≡ names
  unfolding step_meant
  step-names e = rw e

  pub step-defines : r ≡ Some Defines → step_meant r ≡ defines
  unfolding step_meant
  step-defines e = rw e

  pub step-breaks : r ≡ None → step_meant r ≡ breaks
  unfolding step_meant
  step-breaks e = rw e

-- A step taken if a test holds.
pub then_says : (b : Bool) (step : Step) → step_meant (then_some b step) ≡ say_by b (step_meant (Some step))
unfolding step_meant
then_says true step = refl
then_says false step = refl

-- And back: the one step that says a thing. A time or a value is none of a section's.
abbrev pub step_of : Says → Option Step
step_of (moves spot) = Some (Moves spot.stage spot.place)
step_of codes = Some Codes
step_of names = Some Names
step_of defines = Some Defines
step_of (times t) = None
step_of (puts mark v) = None
step_of breaks = None

step_back : (r : Option Step) → step_of (step_meant r) ≡ r
unfolding step_meant
step_back (Some (Moves stage place)) = refl
step_back (Some Codes) = refl
step_back (Some Names) = refl
step_back (Some Defines) = refl
step_back None = refl

pub step_from : (r : Option Step) (x : Says) → step_meant r ≡ x → r ≡ step_of x
step_from r x e = sym (step_back r) ∙ ap step_of e

-- No step says a time or a value.
in_section : Says → Bool
in_section (moves spot) = true
in_section codes = true
in_section names = true
in_section defines = true
in_section (times t) = false
in_section (puts mark v) = false
in_section breaks = true

step-inside : (r : Option Step) → in_section (step_meant r) ≡ true
unfolding step_meant in_section
step-inside (Some (Moves stage place)) = refl
step-inside (Some Codes) = refl
step-inside (Some Names) = refl
step-inside (Some Defines) = refl
step-inside None = refl

pub no-time : (r : Option Step) (t : ℕ) → step_meant r ≡ times t → ⊥
unfolding in_section
no-time r t e = true≢false (sym (step-inside r) ∙ ap in_section e)

pub no_value : (r : Option Step) (mark v : ℕ) → step_meant r ≡ puts mark v → ⊥
unfolding in_section
no_value r mark v e = true≢false (sym (step-inside r) ∙ ap in_section e)

-- Characters that can be seen, one after the other.
pub printable-all : (w : List ℕ) → list_all is_ascii_graphic w ≡ printable w
printable-all [] = refl
printable-all (c ∷ cs) = ap (λ b. is_ascii_graphic c && b) (printable-all cs)
