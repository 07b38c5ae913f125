-- Laws of the tokens behind a dump's definitions, for the proofs here and for callers. Assumes nothing.
use Prim.Native.Nat.{ℕ, ◌-◌, ◌<◌, ◌≤◌}
use mathlib.Core.Bool.{Bool, true, false}
use mathlib.Core.List.{List, [], ◌∷◌}
use mathlib.Core.Path.{◌≡◌, refl, ap, sym, subst, ◌∙◌}
use native.Mathlib.Omega.{arith}
use lib.Dec.{eqb}
use lib.ListN.{length, get_or, take, drop}
use borrow.Author.Tests.{le-leb, lt-leb, eq-eqb, ne_eqb}
use Rattle.ground.proofs.Rows.{tail-whole}
use Rattle.codes.specs.Codes.{hash}
use Rattle.sections.specs.declared.Keyword.{Keyword}
use Rattle.sections.specs.declared.Keyword.TheVariants.{Remark, Comment, Timescale, Scope, Var, Upscope, EndDefinitions, Dumpvars, End, Other}
use Rattle.sections.specs.declared.Stage.TheVariants.{Body}
use Rattle.sections.specs.declared.Place.TheVariants as place
use Rattle.sections.specs.declared.Step.{Step}
use Rattle.sections.specs.Spelling.{keyword_of, is_end}
use Rattle.std.specs.Bool.{then_some}
use Rattle.sections.specs.Sections.{Says, moves, times, puts, breaks, step_meant, say_by, go_by, skip_by, opens, section_says}
use Rattle.sections.proofs.SectionLaws.{step_of, step_from}
use Rattle.wires.specs.Wires.{marks_of}
use Rattle.wires.specs.Times.{highest_time, time_of}
use Rattle.wires.specs.Values.{is_value}
use Rattle.dumps.specs.Reading.{Known, time_says, value_says, body_by, dumped_by, dumped_says, says_at, says_of}
use Rattle.dumps.specs.Defined.{vars_of, body_at}
use Rattle.changes.specs.declared.Mode.{Mode}
use Rattle.changes.specs.declared.Change.{Change}
use Rattle.changes.specs.declared.Change.TheVariants.{Time, Value, Moves}
use Rattle.std.specs.Prelude.{Option, None, Some}
use Rattle.changes.specs.Parts.{place_of, change_meant, moved_by}
use Rattle.changes.proofs.Fitting.{Fitting, fits}
use Rattle.changes.proofs.Meanings.{means-time, means-value, means-moves, means-breaks}

-- A time by whether it is one.
module _ (t : ℕ) where
  pub time-fits : t ≤ highest_time → change_meant (Some (Time t)) ≡ time_says t
  unfolding change_meant
  time-fits h = rw (le-leb t highest_time h)

  pub time-over : highest_time < t → change_meant None ≡ time_says t
  unfolding change_meant
  time-over h = rw (lt-leb t highest_time h)

-- A value if a test holds.
pub value_given : (b : Bool) (c marks : ℕ) → change_meant (then_some b (Value c marks)) ≡ say_by b (puts c marks)
unfolding change_meant
value_given true c marks = refl
value_given false c marks = refl

-- A section's token behind the definitions leads to a mode, or is malformed.
moved-opens : (k : Keyword) → change_meant (moved_by (step_of (opens k Body))) ≡ opens k Body
unfolding change_meant
moved-opens Remark = refl
moved-opens Comment = refl
moved-opens Timescale = refl
moved-opens Scope = refl
moved-opens Var = refl
moved-opens Upscope = refl
moved-opens EndDefinitions = refl
moved-opens Dumpvars = refl
moved-opens End = refl
moved-opens Other = refl

moved-skips : (b : Bool) → change_meant (moved_by (step_of (skip_by b Body))) ≡ skip_by b Body
unfolding change_meant
moved-skips true = refl
moved-skips false = refl

ends_by : (b : Bool) → change_meant (moved_by (step_of (go_by b (record { stage = Body; place = place.Between }))))
    ≡ go_by b (record { stage = Body; place = place.Between })
unfolding change_meant
ends_by true = refl
ends_by false = refl

moved_ends : (w : List ℕ) → change_meant (moved_by (step_of (section_says place.Values Body w))) ≡ section_says place.Values Body w
unfolding section_says
moved_ends w = ends_by (is_end w)

moved-says : (r : Option Change) (step : Option Step) (x : Says) → r ≡ moved_by step → step_meant step ≡ x → change_meant (moved_by (step_of x)) ≡ x
    → change_meant r ≡ x
moved-says r step x e h k = ap change_meant (e ∙ ap moved_by (step_from step x h)) ∙ k

-- What a token says behind the definitions, by its first character.
between-by : (r : Known) (w : List ℕ) → 0 < length w → r.spot.stage ≡ Body
    → says_at place.Between r w ≡ body_by (eqb (get_or w 0 0) hash) (is_value (get_or w 0 0)) r (get_or w 0 0) (drop 1 w)
between-by r [] h e = absurd (omega arith)
between-by r (c ∷ cs) h e = rw e

dumped-by : (r : Known) (w : List ℕ) → 0 < length w
    → dumped_says r w ≡ dumped_by (is_value (get_or w 0 0)) r (get_or w 0 0) (drop 1 w)
dumped-by r [] h = absurd (omega arith)
dumped-by r (c ∷ cs) h = refl

first_tail : (w : List ℕ) → 0 < length w → get_or w 0 0 ∷ drop 1 w ≡ w
first_tail [] h = absurd (omega arith)
first_tail (c ∷ cs) h = refl

module _ (dump w : List ℕ) (begun : Bool) (r : Option Change) (some : 0 < length w) where
  -- Outside every section: a time, a value, or a section's first word.
  pub between-time : get_or w 0 0 ≡ hash → change_meant r ≡ time_says (time_of (take (length w - 1) (drop 1 w)))
      → change_meant r ≡ says_of (body_at dump place.Between begun) w
  unfolding says_of
  between-time h e = rw (between-by (body_at dump place.Between begun) w some refl, eq-eqb (get_or w 0 0) hash h, ← tail-whole 1 w) e

  module _ (h : get_or w 0 0 ≡ hash → ⊥) {v : Bool} (k : v ≡ is_value (get_or w 0 0)) where
    pub between-value : v ≡ true → change_meant r ≡ value_says begun (marks_of (vars_of dump) (drop 1 w)) (get_or w 0 0)
        → change_meant r ≡ says_of (body_at dump place.Between begun) w
    unfolding says_of
    between-value m e =
        rw (between-by (body_at dump place.Between begun) w some refl, ne_eqb (get_or w 0 0) hash h, ← k, m) e

    pub between-opens : v ≡ false → (step : Option Step) → r ≡ moved_by step → step_meant step ≡ opens (keyword_of w) Body
        → change_meant r ≡ says_of (body_at dump place.Between begun) w
    unfolding says_of section_says
    between-opens m step e f =
        rw (between-by (body_at dump place.Between begun) w some refl, ne_eqb (get_or w 0 0) hash h, ← k, m, first_tail w some)
        (moved-says r step _ e f (moved-opens (keyword_of w)))

  -- Among dumped values: a value, or their end.
  module _ {v : Bool} (k : v ≡ is_value (get_or w 0 0)) where
    pub dumped-value : v ≡ true → change_meant r ≡ value_says begun (marks_of (vars_of dump) (drop 1 w)) (get_or w 0 0)
        → change_meant r ≡ says_of (body_at dump place.Values begun) w
    unfolding says_of
    dumped-value m e = rw (dumped-by (body_at dump place.Values begun) w some, ← k, m) e

    pub dumped-ends : v ≡ false → (step : Option Step) → r ≡ moved_by step → step_meant step ≡ section_says place.Values Body w
        → change_meant r ≡ says_of (body_at dump place.Values begun) w
    unfolding says_of
    dumped-ends m step e f =
        rw (dumped-by (body_at dump place.Values begun) w some, ← k, m, first_tail w some)
        (moved-says r step _ e f (moved_ends w))

-- In a comment: its end, or any other word of it.
pub skipped-goes : (dump w : List ℕ) (begun : Bool) (r : Option Change) (step : Option Step) → r ≡ moved_by step
    → step_meant step ≡ section_says place.Skipped Body w → change_meant r ≡ says_of (body_at dump place.Skipped begun) w
unfolding says_of section_says
skipped-goes dump w begun r step e f = moved-says r step _ e f (moved-skips (is_end w))

-- What follows a token behind the definitions: it is read on in the same way.
module _ (dump w : List ℕ) (mode : Mode) (begun : Bool) (r : Option Change) (h : change_meant r ≡ says_of (body_at dump (place_of mode) begun) w) where
  pub says-time : (t : ℕ) → r ≡ Some (Time t) → says_of (body_at dump (place_of mode) begun) w ≡ times t
  says-time t e = sym h ∙ means-time r t e

  pub time-small : (t : ℕ) → r ≡ Some (Time t) → t ≤ highest_time
  time-small t e = (subst (Fitting mode begun) (says-time t e) (fits dump mode begun w)).1

  pub says-value : (c marks : ℕ) → r ≡ Some (Value c marks) → says_of (body_at dump (place_of mode) begun) w ≡ puts c marks
  says-value c marks e = sym h ∙ means-value r c marks e

  pub says-moves : (next : Mode) → r ≡ Some (Moves next)
      → says_of (body_at dump (place_of mode) begun) w ≡ moves (record { stage = Body; place = place_of next })
  says-moves next e = sym h ∙ means-moves r next e

  pub says-breaks : r ≡ None → says_of (body_at dump (place_of mode) begun) w ≡ breaks
  says-breaks e = sym h ∙ means-breaks r e
