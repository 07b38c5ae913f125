-- Laws of reading on behind the definitions: what is left from a place on gives the same. Assumes nothing.
use Prim.Native.Nat.{ℕ, ◌-◌, ◌≤◌}
use mathlib.Core.Bool.{true, false, true≢false}
use mathlib.Core.List.{List, []}
use mathlib.Core.Path.{◌≡◌, refl, sym, ◌∙◌}
use native.Mathlib.Omega.{arith}
use lib.ListN.{length, take, drop}
use Rattle.std.specs.Prelude.{Option, Result, Some, None, Ok, Err}
use Rattle.tokens.specs.Tokens.{words_of, tokens_from}
use Rattle.tokens.specs.Parts.{FindsWord}
use Rattle.sections.specs.declared.Place.TheVariants as place
use Rattle.wires.specs.Wires.{laid}
use Rattle.wires.specs.Values.{level_of}
use Rattle.dumps.specs.Reading.{says_of}
use Rattle.dumps.specs.Defined.{vars_of, body_at}
use Rattle.dumps.specs.Samples.{moments_from, samples_from}
use Rattle.headings.specs.declared.Heading.{Heading}
use Rattle.headings.specs.declared.faults.Fault.{Fault}
use Rattle.headings.specs.Parts.{Tabled, Opens, Fails, Defines}
use Rattle.changes.specs.declared.Mode.{Mode}
use Rattle.changes.specs.declared.Mode.TheVariants.{Between}
use Rattle.changes.specs.declared.Change.{Change}
use Rattle.changes.specs.declared.Change.TheVariants.{Time, Value, Moves}
use Rattle.changes.specs.Parts.{place_of, change_meant}
use Rattle.pieces.specs.declared.Mark.{Mark}
use Rattle.pieces.specs.Marks.{left_from}
use Rattle.pieces.specs.Parts as parts
use Rattle.pieces.specs.Promises.{Begins}
use Rattle.pieces.proofs.Turns.{no_value, moment-time, moment-value, moment-moves, moment-breaks, moment-none, sample-time, sample-moves, sample-breaks, sample-none}

-- What is left of a moment's values.
pub record Moving (dump : List ℕ) (start level at on : ℕ) (mode : Mode) (levels : ℕ) : Type 0 where
  pub inside : at ≤ length dump
  pub small : on ≤ at
  pub moments : (time : ℕ) → moments_from (body_at dump place.Between true) (words_of (drop start dump)) time level
      ≡ moments_from (body_at dump (place_of mode) true) (words_of (drop at dump)) time levels
  pub low : level ≤ 15 → levels ≤ 15

-- At the start nothing was read.
pub moving-first : (dump : List ℕ) (start level : ℕ) → start ≤ length dump → Moving dump start level start 0 Between level
moving-first dump start level h = record { inside = h; small = omega arith; moments = λ time. refl; low = λ h. h }

-- One token more.
module _ (dump : List ℕ) (start level at on : ℕ) (mode : Mode) (levels : ℕ) (m : Moving dump start level at on mode levels)
    (from to line : ℕ) (f : FindsWord dump at on from to line) (r : Option Change)
    (e : change_meant r ≡ says_of (body_at dump (place_of mode) true) (take (to - from) (drop from dump))) where
  pub moving-value : (c marks : ℕ) {v l : ℕ} → r ≡ Some (Value c marks) → v ≡ level_of c → l ≡ laid v marks levels → l ≤ 15
      → Moving dump start level to line mode l
  moving-value c marks h v k n =
      let s = f.small in
      let b = f.some in
      record {
        inside = f.inside;
        small = omega arith;
        moments = λ time. rw (k, v) (m.moments time ∙ moment-value dump mode true at on from to line f r e time levels c marks h);
        low = λ _. n;
      }

  pub moving-moves : (next : Mode) → r ≡ Some (Moves next) → Moving dump start level to line next levels
  moving-moves next h =
      let s = f.small in
      let b = f.some in
      record {
        inside = f.inside;
        small = omega arith;
        moments = λ time. m.moments time ∙ moment-moves dump mode true at on from to line f r e time levels next h;
        low = m.low;
      }

  -- A time line closes the moment, and nothing counts behind a malformed token.
  pub moves-time : (t : ℕ) → r ≡ Some (Time t)
      → parts.Moves dump start level (record { level = levels; next = Some (record { at = to; time = t }) })
  moves-time t h =
      record { moments = λ time. m.moments time ∙ moment-time dump mode true at on from to line f r e time levels t h; low = m.low }

  pub moves-breaks : r ≡ None → parts.Moves dump start level (record { level = levels; next = None })
  moves-breaks h =
      record { moments = λ time. m.moments time ∙ moment-breaks dump mode true at on from to line f r e time levels h; low = m.low }

-- The last moment ends with the dump.
pub moves-none : (dump : List ℕ) (start level at on : ℕ) (mode : Mode) (levels : ℕ) → Moving dump start level at on mode levels
    → tokens_from on (drop at dump) ≡ [] → parts.Moves dump start level (record { level = levels; next = None })
moves-none dump start level at on mode levels m e =
    record { moments = λ time. m.moments time ∙ moment-none dump mode true at on e time levels; low = m.low }

-- What is left before the first time line.
pub record Starting (dump : List ℕ) (start at on : ℕ) (mode : Mode) : Type 0 where
  pub inside : at ≤ length dump
  pub small : on ≤ at
  pub samples : samples_from (body_at dump place.Between false) (words_of (drop start dump))
      ≡ samples_from (body_at dump (place_of mode) false) (words_of (drop at dump))

-- Nothing is left where there are no samples.
pub starts-over : (dump : List ℕ) (start : ℕ)
    → samples_from (body_at dump place.Between false) (words_of (drop start dump)) ≡ [] → parts.StartsAt dump start None
unfolding left_from
starts-over dump start e = record { left = sym e; low = tt }

pub starts_none : (dump : List ℕ) (start at on : ℕ) (mode : Mode) → Starting dump start at on mode
    → tokens_from on (drop at dump) ≡ [] → parts.StartsAt dump start None
starts_none dump start at on mode m e = starts-over dump start (m.samples ∙ sample-none dump mode false at on e)

module _ (dump : List ℕ) (start at on : ℕ) (mode : Mode) (m : Starting dump start at on mode)
    (from to line : ℕ) (f : FindsWord dump at on from to line) (r : Option Change)
    (e : change_meant r ≡ says_of (body_at dump (place_of mode) false) (take (to - from) (drop from dump))) where
  pub starting-moves : (next : Mode) → r ≡ Some (Moves next) → Starting dump start to line next
  starting-moves next h =
      let s = f.small in
      let b = f.some in
      record {
        inside = f.inside;
        small = omega arith;
        samples = m.samples ∙ sample-moves dump mode false at on from to line f r e next h;
      }

  -- The first time line opens a moment with all levels low.
  pub starts-time : (t : ℕ) → r ≡ Some (Time t)
      → parts.StartsAt dump start (Some (record { at = to; time = t; left = 0; level = 0 }))
  unfolding left_from
  starts-time t h = record { left = sym (m.samples ∙ sample-time dump mode false at on from to line f r e t h); low = omega arith }

  -- No value stands before it.
  pub starts-value : (c marks : ℕ) → r ≡ Some (Value c marks) → parts.StartsAt dump start None
  starts-value c marks h = absurd (true≢false (sym (no_value dump mode false at on from to line f r e c marks h)))

  pub starts-breaks : r ≡ None → parts.StartsAt dump start None
  starts-breaks h = starts-over dump start (m.samples ∙ sample-breaks dump mode false at on from to line f r e h)

-- Where the definitions do not end the dump has no samples.
pub begins-over : (dump table : List ℕ) (f : Fault) → Fails dump f table → Begins dump None
unfolding left_from
begins-over dump table f d = record { left = sym d.samples; low = tt }

pub begins-first : (dump table : List ℕ) (h : Heading) (r : Option Mark) → Opens dump h table → parts.StartsAt dump h.at r → Begins dump r
begins-first dump table h r d s = record { left = s.left ∙ sym d.samples; low = s.low }

-- However they are left, the table has the marks.
pub tabled-by : (dump table : List ℕ) (r : Result Heading Fault) → Defines dump r table → Tabled (vars_of dump) table
tabled-by dump table (Ok h) d = d.tabled
tabled-by dump table (Err f) d = d.tabled
