-- Which sections may stand where, and what each token of one does (request 2026-03, sections; docs/DECISIONS.md, "2026-03, sections").
use Rattle.std.specs.Prelude.{ℕ, Bool, true, false, not, List, Option, None, Some}
use Rattle.tokens.specs.Tokens.{same_word}
use Rattle.sections.specs.declared.Keyword.{Keyword}
use Rattle.sections.specs.declared.Keyword.TheVariants.{Remark, Comment, Timescale, Scope, Var, Upscope, EndDefinitions, Dumpvars, End, Other}
use Rattle.sections.specs.declared.Stage.{Stage}
use Rattle.sections.specs.declared.Stage.TheVariants.{Start, Scaled, Scoped, Closed, Body}
use Rattle.sections.specs.declared.Place.{Place}
use Rattle.sections.specs.declared.Place.TheVariants.{Between, Skipped, ScaleNumber, ScaleUnit, ScopeKind, ScopeName, VarKind, VarWidth, VarCode, VarName, Close, Values, Wrong}
use Rattle.sections.specs.declared.Step.{Step}
use Rattle.sections.specs.declared.Step.TheVariants.{Moves, Codes, Names, Defines}
use Rattle.sections.specs.Spelling.{keyword_of, is_end, free, is_scope_kind, one_word, micro_word, one_micro_word, wire_word}

-- Where a token stands: how far the definitions are, and what is expected.
pub record Spot : Type 0 where
  pub stage : Stage
  pub place : Place

-- What a token says: it leads on, is the code or the name of a wire, ends the definitions, is a time, gives a value to the wires of some
-- marks, or is malformed (2026-03, sections and refusal 20).
pub data Says : Type 0 where
  moves : Spot → Says
  codes : Says
  names : Says
  defines : Says
  times : ℕ → Says
  puts : ℕ → ℕ → Says
  breaks : Says

-- What each case of the code's answer says; none is of a malformed token.
unfoldable pub step_meant : Option Step → Says
step_meant (Some (Moves stage place)) = moves (record { stage = stage; place = place })
step_meant (Some Codes) = codes
step_meant (Some Names) = names
step_meant (Some Defines) = defines
step_meant None = breaks

-- Before the timescale (2026-03, sections: each once, in that order).
abbrev pub is_start : Stage → Bool
is_start Start = true
is_start Scaled = false
is_start Scoped = false
is_start Closed = false
is_start Body = false

-- Behind the timescale, before the scope (2026-03, sections: each once, in that order).
abbrev pub is_scaled : Stage → Bool
is_scaled Start = false
is_scaled Scaled = true
is_scaled Scoped = false
is_scaled Closed = false
is_scaled Body = false

-- Inside the scope (2026-03, sections: the `$var` inside it).
abbrev pub is_scoped : Stage → Bool
is_scoped Start = false
is_scoped Scaled = false
is_scoped Scoped = true
is_scoped Closed = false
is_scoped Body = false

-- Behind the scope (2026-03, sections: each once, in that order).
abbrev pub is_closed : Stage → Bool
is_closed Start = false
is_closed Scaled = false
is_closed Scoped = false
is_closed Closed = true
is_closed Body = false

-- Behind the definitions (2026-03, sections).
abbrev pub is_body : Stage → Bool
is_body Start = false
is_body Scaled = false
is_body Scoped = false
is_body Closed = false
is_body Body = true

-- What a token says if a test holds; else it is malformed (2026-03, refusal 20).
abbrev pub say_by : Bool → Says → Says
say_by true says = says
say_by false says = breaks

-- It leads to a spot if a test holds (2026-03, refusal 20).
abbrev pub go_by : Bool → Spot → Says
go_by b spot = say_by b (moves spot)

-- A section that is skipped ends at its `$end`, with any bytes before it (2026-03, sections: skipped).
abbrev pub skip_by : Bool → Stage → Says
skip_by true stage = moves (record { stage = stage; place = Between })
skip_by false stage = moves (record { stage = stage; place = Skipped })

-- A timescale is `1 us` or `1us` (2026-03, timescale 1 us).
abbrev pub number_by : Bool → Bool → Stage → Says
number_by true whole stage = moves (record { stage = stage; place = ScaleUnit })
number_by false true stage = moves (record { stage = stage; place = Close })
number_by false false stage = breaks

-- A word between two sections: date and version are for the definitions, comments stand anywhere; timescale, scope, wires, upscope and the
-- end of the definitions come in this order, and dumped values only after them (2026-03, sections).
abbrev pub opens : Keyword → Stage → Says
opens Remark stage = go_by (not (is_body stage)) (record { stage = stage; place = Skipped })
opens Comment stage = moves (record { stage = stage; place = Skipped })
opens Timescale stage = go_by (is_start stage) (record { stage = Scaled; place = ScaleNumber })
opens Scope stage = go_by (is_scaled stage) (record { stage = Scoped; place = ScopeKind })
opens Var stage = go_by (is_scoped stage) (record { stage = Scoped; place = VarKind })
opens Upscope stage = go_by (is_scoped stage) (record { stage = Closed; place = Close })
opens EndDefinitions stage = say_by (is_closed stage) defines
opens Dumpvars stage = go_by (is_body stage) (record { stage = Body; place = Values })
opens End stage = breaks
opens Other stage = breaks

-- A token by its place: `$timescale 1 us $end`, `$scope KIND NAME $end`, `$var wire 1 CODE NAME $end`, `$upscope $end` and `$enddefinitions
-- $end`; nothing is said behind a malformed token (2026-03, sections).
unfoldable pub section_says : Place → Stage → List ℕ → Says
section_says Between stage w = opens (keyword_of w) stage
section_says Skipped stage w = skip_by (is_end w) stage
section_says ScaleNumber stage w = number_by (same_word w one_word) (same_word w one_micro_word) stage
section_says ScaleUnit stage w = go_by (same_word w micro_word) (record { stage = stage; place = Close })
section_says ScopeKind stage w = go_by (is_scope_kind w) (record { stage = stage; place = ScopeName })
section_says ScopeName stage w = go_by (free w) (record { stage = stage; place = Close })
section_says VarKind stage w = go_by (same_word w wire_word) (record { stage = stage; place = VarWidth })
section_says VarWidth stage w = go_by (same_word w one_word) (record { stage = stage; place = VarCode })
section_says VarCode stage w = say_by (free w) codes
section_says VarName stage w = say_by (free w) names
section_says Close stage w = go_by (is_end w) (record { stage = stage; place = Between })
section_says Values stage w = go_by (is_end w) (record { stage = stage; place = Between })
section_says Wrong stage w = moves (record { stage = stage; place = Wrong })
