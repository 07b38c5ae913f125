-- Laws of one token taken: what it leaves of a dump's faults, samples, moments and wires, by what it says. Assumes nothing.
use Prim.Native.Nat.{ℕ}
use mathlib.Core.Bool.{true, false}
use mathlib.Core.List.{List, [], ◌∷◌}
use mathlib.Core.Path.{◌≡◌, refl}
use Rattle.tokens.specs.Tokens.{Token}
use Rattle.sections.specs.Sections.{Says}
use Rattle.dumps.specs.Reading.{Known, says_of, after_by}
use Rattle.dumps.specs.Defined.{is_defined, defined_from}
use Rattle.dumps.specs.Samples.{moments_by, moments_from, samples_by, samples_from}
use Rattle.dumps.specs.Faults.{Heard, heard_by, fault_by, note, faults_from}

-- Its fault stands before those of the tokens behind it.
pub faults-token : (r : Known) (h : Heard) (t : Token) (ts : List Token) (last : ℕ) {s : Says} → says_of r t.word ≡ s
    → faults_from r h (t ∷ ts) last
    ≡ note t.line (fault_by s r h t.word) (faults_from (after_by s r t.word) (heard_by s h) ts last)
faults-token r h t ts last e = rw e

module _ (r : Known) (w : List ℕ) (ws : List (List ℕ)) where
  module _ {s : Says} (e : says_of r w ≡ s) where
    -- Its samples and moments are those of the tokens behind it, unless it is a time or a value.
    pub samples-token : samples_from r (w ∷ ws) ≡ samples_by s (moments_from (after_by s r w) ws) (samples_from (after_by s r w) ws)
    samples-token = rw e

    pub moments-token : (time level : ℕ)
        → moments_from r (w ∷ ws) time level ≡ moments_by s time level (moments_from (after_by s r w) ws)
    moments-token time level = rw e

    -- Before the definitions are over they are read on behind it.
    pub defined-token : is_defined r ≡ false → defined_from r (w ∷ ws) ≡ defined_from (after_by s r w) ws
    defined-token d = rw (d, e)

-- Where they are over they are read no further.
pub defined-over : (r : Known) (ws : List (List ℕ)) → is_defined r ≡ true → defined_from r ws ≡ r
defined-over r [] d = refl
defined-over r (w ∷ ws) d = rw d
