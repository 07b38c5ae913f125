-- Laws of what a token can say behind the definitions, by where it stands. Assumes nothing.
use Prim.Native.Nat.{ℕ, ◌≤◌}
use mathlib.Core.Bool.{Bool, true, false, ◌&&◌}
use mathlib.Core.List.{List, [], ◌∷◌}
use mathlib.Core.Path.{◌≡◌, refl}
use lib.Dec.{eqb, ltb, leb}
use borrow.Author.Tests.{leb-true}
use Rattle.codes.specs.Codes.{hash}
use Rattle.sections.specs.declared.Keyword.{Keyword}
use Rattle.sections.specs.declared.Keyword.TheVariants as keyword
use Rattle.sections.specs.declared.Stage.TheVariants.{Body}
use Rattle.sections.specs.declared.Place.TheVariants as place
use Rattle.sections.specs.Spelling.{keyword_of, is_end}
use Rattle.sections.specs.Sections.{Spot, Says, moves, codes, names, defines, times, puts, breaks, go_by, say_by, skip_by, opens, section_says}
use Rattle.wires.specs.Wires.{marks_of}
use Rattle.wires.specs.Times.{highest_time, time_of}
use Rattle.wires.specs.Values.{is_value}
use Rattle.dumps.specs.Reading.{Known, body_by, dumped_by, says_of}
use Rattle.dumps.specs.Defined.{body_at}
use Rattle.changes.specs.declared.Mode.{Mode}
use Rattle.changes.specs.declared.Mode.TheVariants.{Between, Dumped, Skipped}
use Rattle.changes.specs.Parts.{place_of}

-- A time line stands outside every section and its time is one, and a value stands behind a time line.
abbrev pub Fitting : Mode → Bool → Says → Type 0
Fitting mode begun (moves spot) = Unit {0}
Fitting mode begun codes = Unit {0}
Fitting mode begun names = Unit {0}
Fitting mode begun defines = Unit {0}
Fitting mode begun (times t) = (mode ≡ Between) × (t ≤ highest_time)
Fitting mode begun (puts c marks) = begun ≡ true
Fitting mode begun breaks = Unit {0}

fit-value : (mode : Mode) (begun b : Bool) (c marks : ℕ) → Fitting mode begun (say_by (begun && b) (puts c marks))
fit-value mode true true c marks = refl
fit-value mode true false c marks = tt
fit-value mode false b c marks = tt

fit-time : (begun : Bool) (t : ℕ) (b : Bool) → leb t highest_time ≡ b → Fitting Between begun (say_by b (times t))
fit-time begun t true e = (refl, leb-true t highest_time e)
fit-time begun t false e = tt

fit-opens : (begun : Bool) (k : Keyword) → Fitting Between begun (opens k Body)
fit-opens begun keyword.Remark = tt
fit-opens begun keyword.Comment = tt
fit-opens begun keyword.Timescale = tt
fit-opens begun keyword.Scope = tt
fit-opens begun keyword.Var = tt
fit-opens begun keyword.Upscope = tt
fit-opens begun keyword.EndDefinitions = tt
fit-opens begun keyword.Dumpvars = tt
fit-opens begun keyword.End = tt
fit-opens begun keyword.Other = tt

fit-end : (begun b : Bool) (spot : Spot) → Fitting Dumped begun (go_by b spot)
fit-end begun true spot = tt
fit-end begun false spot = tt

fit-skip : (begun b : Bool) → Fitting Skipped begun (skip_by b Body)
fit-skip begun true = tt
fit-skip begun false = tt

fit-body : (time value : Bool) (r : Known) (c : ℕ) (cs : List ℕ) → Fitting Between r.begun (body_by time value r c cs)
unfolding section_says
fit-body true value r c cs = fit-time r.begun (time_of cs) (leb (time_of cs) highest_time) refl
fit-body false true r c cs = fit-value Between r.begun (ltb 0 (marks_of r.vars cs)) c (marks_of r.vars cs)
fit-body false false r c cs = fit-opens r.begun (keyword_of (c ∷ cs))

fit-dumped : (value : Bool) (r : Known) (c : ℕ) (cs : List ℕ) → Fitting Dumped r.begun (dumped_by value r c cs)
unfolding section_says
fit-dumped true r c cs = fit-value Dumped r.begun (ltb 0 (marks_of r.vars cs)) c (marks_of r.vars cs)
fit-dumped false r c cs = fit-end r.begun (is_end (c ∷ cs)) _

-- What a token says behind the definitions fits where it stands.
pub fits : (dump : List ℕ) (mode : Mode) (begun : Bool) (w : List ℕ) → Fitting mode begun (says_of (body_at dump (place_of mode) begun) w)
unfolding says_of section_says
fits dump Between begun [] = tt
fits dump Between begun (c ∷ cs) = fit-body (eqb c hash) (is_value c) (body_at dump place.Between begun) c cs
fits dump Dumped begun [] = tt
fits dump Dumped begun (c ∷ cs) = fit-dumped (is_value c) (body_at dump place.Values begun) c cs
fits dump Skipped begun w = fit-skip begun (is_end w)
