-- Laws of one token behind the definitions of a dump: what it leaves of the moments and of the samples. Assumes nothing.
use Prim.Native.Nat.{ℕ, ◌-◌}
use mathlib.Core.Bool.{Bool, true}
use mathlib.Core.List.{List, [], ◌∷◌}
use mathlib.Core.Path.{◌≡◌, sym, subst, ◌∙◌}
use lib.ListN.{take, drop}
use Rattle.std.specs.Prelude.{Option, Some, None}
use Rattle.tokens.specs.Tokens.{words_of, tokens_from}
use Rattle.tokens.specs.Parts.{FindsWord}
use Rattle.tokens.proofs.TokenLaws.{words-found, words-none}
use Rattle.sections.specs.declared.Place.TheVariants as place
use Rattle.sections.specs.Sections.{Says}
use Rattle.wires.specs.Wires.{laid}
use Rattle.wires.specs.Values.{level_of}
use Rattle.dumps.specs.Reading.{says_of}
use Rattle.dumps.specs.Defined.{body_at}
use Rattle.dumps.specs.Samples.{moments_from, samples_from, spread}
use Rattle.dumps.proofs.SampleLaws.{moments-moves, samples-moves, moments-times, samples-times, moments-puts, moments-breaks, samples-breaks}
use Rattle.changes.specs.declared.Mode.{Mode}
use Rattle.changes.specs.declared.Mode.TheVariants.{Between}
use Rattle.changes.specs.declared.Change.{Change}
use Rattle.changes.specs.declared.Change.TheVariants.{Time, Value, Moves}
use Rattle.changes.specs.Parts.{place_of, change_meant}
use Rattle.changes.proofs.Fitting.{Fitting, fits}
use Rattle.changes.proofs.Meanings.{means-time, means-value, means-moves, means-breaks}

-- A token that was found in a dump and taken by what it says.
module _ (dump : List ℕ) (mode : Mode) (begun : Bool) (at line from to on : ℕ) (f : FindsWord dump at line from to on) (r : Option Change)
    (e : change_meant r ≡ says_of (body_at dump (place_of mode) begun) (take (to - from) (drop from dump))) where
  says : {s : Says} → change_meant r ≡ s → says_of (body_at dump (place_of mode) begun) (take (to - from) (drop from dump)) ≡ s
  says h = sym e ∙ h

  fitting : {s : Says} → change_meant r ≡ s → Fitting mode begun s
  fitting h = subst (Fitting mode begun) (says h) (fits dump mode begun (take (to - from) (drop from dump)))

  found : words_of (drop at dump) ≡ take (to - from) (drop from dump) ∷ words_of (drop to dump)
  found = words-found dump at line from to on f

  -- A time line stands outside every section.
  pub time-between : (t : ℕ) → r ≡ Some (Time t) → mode ≡ Between
  time-between t h = (fitting (means-time r t h)).0

  -- Before the first time line there is no value.
  pub no_value : (c marks : ℕ) → r ≡ Some (Value c marks) → begun ≡ true
  no_value c marks h = fitting (means-value r c marks h)

  module _ (time level : ℕ) where
    pub moment-time : (t : ℕ) → r ≡ Some (Time t)
        → moments_from (body_at dump (place_of mode) begun) (words_of (drop at dump)) time level
        ≡ record { time = time; level = level } ∷ moments_from (body_at dump place.Between true) (words_of (drop to dump)) t level
    moment-time t h =
        rw (found, moments-times dump (place_of mode) begun _ (words_of (drop to dump)) t (says (means-time r t h)), time-between t h)

    pub moment-value : (c marks : ℕ) → r ≡ Some (Value c marks)
        → moments_from (body_at dump (place_of mode) begun) (words_of (drop at dump)) time level
        ≡ moments_from (body_at dump (place_of mode) begun) (words_of (drop to dump)) time (laid (level_of c) marks level)
    moment-value c marks h =
        rw found (moments-puts dump (place_of mode) begun _ (words_of (drop to dump)) c marks time level (says (means-value r c marks h)))

    pub moment-moves : (next : Mode) → r ≡ Some (Moves next)
        → moments_from (body_at dump (place_of mode) begun) (words_of (drop at dump)) time level
        ≡ moments_from (body_at dump (place_of next) begun) (words_of (drop to dump)) time level
    moment-moves next h =
        rw found (moments-moves dump (place_of mode) begun _ (words_of (drop to dump)) _ (says (means-moves r next h)) time level)

    pub moment-breaks : r ≡ None
        → moments_from (body_at dump (place_of mode) begun) (words_of (drop at dump)) time level ≡ record { time = time; level = level } ∷ []
    moment-breaks h = rw found (moments-breaks dump (place_of mode) begun _ (words_of (drop to dump)) (says (means-breaks r h)) time level)

  pub sample-time : (t : ℕ) → r ≡ Some (Time t)
      → samples_from (body_at dump (place_of mode) begun) (words_of (drop at dump))
      ≡ spread 0 0 (moments_from (body_at dump place.Between true) (words_of (drop to dump)) t 0)
  sample-time t h =
      rw (found, samples-times dump (place_of mode) begun _ (words_of (drop to dump)) t (says (means-time r t h)), time-between t h)

  pub sample-moves : (next : Mode) → r ≡ Some (Moves next)
      → samples_from (body_at dump (place_of mode) begun) (words_of (drop at dump))
      ≡ samples_from (body_at dump (place_of next) begun) (words_of (drop to dump))
  sample-moves next h = rw found (samples-moves dump (place_of mode) begun _ (words_of (drop to dump)) _ (says (means-moves r next h)))

  pub sample-breaks : r ≡ None → samples_from (body_at dump (place_of mode) begun) (words_of (drop at dump)) ≡ []
  sample-breaks h = rw found (samples-breaks dump (place_of mode) begun _ (words_of (drop to dump)) (says (means-breaks r h)))

-- Where no token is left the open moment is the last, and there are no samples without one.
module _ (dump : List ℕ) (mode : Mode) (begun : Bool) (at line : ℕ) (e : tokens_from line (drop at dump) ≡ []) where
  pub moment-none : (time level : ℕ)
      → moments_from (body_at dump (place_of mode) begun) (words_of (drop at dump)) time level ≡ record { time = time; level = level } ∷ []
  moment-none time level = rw (words-none dump at line e)

  pub sample-none : samples_from (body_at dump (place_of mode) begun) (words_of (drop at dump)) ≡ []
  sample-none = rw (words-none dump at line e)
