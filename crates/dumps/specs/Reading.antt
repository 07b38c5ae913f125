-- What a token says where it stands, and what is known behind it (request 2026-03; docs/DECISIONS.md, "2026-03, sections" and "2026-03,
-- values").
use Rattle.std.specs.Prelude.{ℕ, Bool, true, false, ◌&&◌, List, [], ◌∷◌, eqb, ltb, leb}
use Rattle.codes.specs.Codes.{hash}
use Rattle.sections.specs.declared.Stage.{Stage}
use Rattle.sections.specs.declared.Stage.TheVariants.{Start, Scaled, Scoped, Closed, Body}
use Rattle.sections.specs.declared.Place.{Place}
use Rattle.sections.specs.declared.Place.TheVariants.{Between, Skipped, ScaleNumber, ScaleUnit, ScopeKind, ScopeName, VarKind, VarWidth, VarCode, VarName, Close, Values, Wrong}
use Rattle.sections.specs.Sections.{Spot, Says, moves, codes, names, defines, times, puts, breaks, say_by, section_says}
use Rattle.wires.specs.Wires.{Var, marks_of}
use Rattle.wires.specs.Times.{highest_time, time_of}
use Rattle.wires.specs.Values.{is_value}

-- What is known of a dump at a token: where it stands, the code of the wire that is being declared, the wires declared, the latest first,
-- and whether a time line has come.
pub record Known : Type 0 where
  pub spot : Spot
  pub code : List ℕ
  pub vars : List Var
  pub begun : Bool

-- Before the first token nothing has come.
abbrev pub unread : Known
unread = record { spot = record { stage = Start; place = Between }; code = []; vars = []; begun = false }

-- Whether a place is outside every section.
abbrev pub is_between : Place → Bool
is_between Between = true
is_between Skipped = false
is_between ScaleNumber = false
is_between ScaleUnit = false
is_between ScopeKind = false
is_between ScopeName = false
is_between VarKind = false
is_between VarWidth = false
is_between VarCode = false
is_between VarName = false
is_between Close = false
is_between Values = false
is_between Wrong = false

-- A time line, if it is one (2026-03, refusal 20: time over 4,294,967,295).
abbrev pub time_says : ℕ → Says
time_says t = say_by (leb t highest_time) (times t)

-- A value for the wires of a code: the code must be declared, and a time line must stand before it (2026-03, refusal 20).
abbrev pub value_says : Bool → ℕ → ℕ → Says
value_says begun marks c = say_by (begun && ltb 0 marks) (puts c marks)

-- A token behind the definitions by its first character: a time, a value, or what else may stand there (2026-03, time lines, values).
abbrev pub body_by : Bool → Bool → Known → ℕ → List ℕ → Says
body_by true value r c cs = time_says (time_of cs)
body_by false true r c cs = value_says r.begun (marks_of r.vars cs) c
body_by false false r c cs = section_says Between Body (c ∷ cs)

-- A token between two sections behind the definitions (2026-03, time lines, values).
abbrev pub body_says : Known → List ℕ → Says
body_says r [] = breaks
body_says r (c ∷ cs) = body_by (eqb c hash) (is_value c) r c cs

-- A token among dumped values: a value, or their end (2026-03, dumpvars: values alone inside).
abbrev pub dumped_by : Bool → Known → ℕ → List ℕ → Says
dumped_by true r c cs = value_says r.begun (marks_of r.vars cs) c
dumped_by false r c cs = section_says Values Body (c ∷ cs)

-- The same by its first character (2026-03, dumpvars: values alone inside).
abbrev pub dumped_says : Known → List ℕ → Says
dumped_says r [] = breaks
dumped_says r (c ∷ cs) = dumped_by (is_value c) r c cs

-- Only behind the definitions does a token between sections give times and values (2026-03, sections: after the definitions).
abbrev pub between_says : Stage → Known → List ℕ → Says
between_says Start r w = section_says Between Start w
between_says Scaled r w = section_says Between Scaled w
between_says Scoped r w = section_says Between Scoped w
between_says Closed r w = section_says Between Closed w
between_says Body r w = body_says r w

-- A token by the place where it stands (2026-03, sections, time lines, values).
abbrev pub says_at : Place → Known → List ℕ → Says
says_at Between r w = between_says r.spot.stage r w
says_at Skipped r w = section_says Skipped r.spot.stage w
says_at ScaleNumber r w = section_says ScaleNumber r.spot.stage w
says_at ScaleUnit r w = section_says ScaleUnit r.spot.stage w
says_at ScopeKind r w = section_says ScopeKind r.spot.stage w
says_at ScopeName r w = section_says ScopeName r.spot.stage w
says_at VarKind r w = section_says VarKind r.spot.stage w
says_at VarWidth r w = section_says VarWidth r.spot.stage w
says_at VarCode r w = section_says VarCode r.spot.stage w
says_at VarName r w = section_says VarName r.spot.stage w
says_at Close r w = section_says Close r.spot.stage w
says_at Values r w = dumped_says r w
says_at Wrong r w = section_says Wrong r.spot.stage w

-- What a token says (2026-03, sections, time lines, values).
unfoldable pub says_of : Known → List ℕ → Says
says_of r w = says_at r.spot.place r w

-- A reading at another spot.
abbrev pub with_spot : Known → Stage → Place → Known
with_spot r stage place = record { spot = record { stage = stage; place = place }; code = r.code; vars = r.vars; begun = r.begun }

-- What is known behind a token, by what it said; behind a malformed one nothing counts any more (2026-03, faults).
unfoldable pub after_by : Says → Known → List ℕ → Known
after_by (moves spot) r w = with_spot r spot.stage spot.place
after_by codes r w = record { spot = record { stage = r.spot.stage; place = VarName }; code = w; vars = r.vars; begun = r.begun }
after_by names r w =
    record {
      spot = record { stage = r.spot.stage; place = Close };
      code = [];
      vars = record { code = r.code; name = w } ∷ r.vars;
      begun = r.begun;
    }
after_by defines r w = with_spot r Body Close
after_by (times t) r w = record { spot = r.spot; code = r.code; vars = r.vars; begun = true }
after_by (puts c marks) r w = r
after_by breaks r w = with_spot r r.spot.stage Wrong

-- What is known behind a token.
abbrev pub after : Known → List ℕ → Known
after r w = after_by (says_of r w) r w
