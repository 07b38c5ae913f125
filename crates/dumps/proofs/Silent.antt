-- Laws of what stands behind a malformed token: it gives no fault, no sample and no wire. Assumes nothing.
use Prim.Native.Nat.{ℕ}
use mathlib.Core.Bool.{Bool, true, false, ◌&&◌}
use mathlib.Core.List.{List, [], ◌∷◌}
use mathlib.Core.Path.{◌≡◌, refl}
use Rattle.sections.specs.declared.Stage.{Stage}
use Rattle.sections.specs.declared.Place.TheVariants.{Wrong}
use Rattle.sections.specs.Sections.{section_says, is_body}
use Rattle.tokens.specs.Tokens.{Token}
use Rattle.wires.specs.Wires.{Var}
use Rattle.dumps.specs.Reading.{Known, says_of, after_by}
use Rattle.dumps.specs.Defined.{defined_by, defined_from}
use Rattle.dumps.specs.Samples.{moments_from, samples_from}
use Rattle.dumps.specs.Faults.{Heard, heard_by, fault_by, end_fault, note, faults_from}

-- A reading behind a malformed token.
abbrev pub wrong_at : Stage → List ℕ → List Var → Bool → Known
wrong_at stage code vars begun = record { spot = record { stage = stage; place = Wrong }; code = code; vars = vars; begun = begun }

module _ (stage : Stage) (code : List ℕ) (vars : List Var) (begun : Bool) where
  pub silent-faults : (h : Heard) (ts : List Token) (last : ℕ) → faults_from (wrong_at stage code vars begun) h ts last ≡ []
  unfolding says_of section_says after_by heard_by fault_by end_fault note
  silent-faults h [] last = refl
  silent-faults h (t ∷ ts) last = silent-faults h ts last

  pub silent-samples : (ws : List (List ℕ)) → samples_from (wrong_at stage code vars begun) ws ≡ []
  unfolding says_of section_says after_by
  silent-samples [] = refl
  silent-samples (w ∷ ws) = silent-samples ws

  pub silent-moments : (ws : List (List ℕ)) (time level : ℕ)
      → moments_from (wrong_at stage code vars begun) ws time level ≡ record { time = time; level = level } ∷ []
  unfolding says_of section_says after_by
  silent-moments [] time level = refl
  silent-moments (w ∷ ws) time level = silent-moments ws time level

  silent-by : (b : Bool) (rest : Known) → rest.vars ≡ vars → (defined_by b (wrong_at stage code vars begun) rest).vars ≡ vars
  silent-by true rest e = refl
  silent-by false rest e = e

  pub silent-vars : (ws : List (List ℕ)) → (defined_from (wrong_at stage code vars begun) ws).vars ≡ vars
  unfolding says_of section_says after_by
  silent-vars [] = refl
  silent-vars (w ∷ ws) = silent-by (is_body stage && false) (defined_from (wrong_at stage code vars begun) ws) (silent-vars ws)
