-- The faults of a dump, and its verdict (request 2026-03, refusals 20 to 23; docs/DECISIONS.md, "2026-03, faults").
use Rattle.std.specs.Prelude.{ℕ, suc, ◌+◌, Bool, true, false, ◌&&◌, ◌||◌, not, List, [], ◌∷◌, eqb, ltb, leb, length}
use Rattle.ground.specs.Verdict.{Verdict, accepted, refused}
use Rattle.sections.specs.declared.Place.{Place}
use Rattle.sections.specs.declared.Place.TheVariants.{Between, Skipped, ScaleNumber, ScaleUnit, ScopeKind, ScopeName, VarKind, VarWidth, VarCode, VarName, Close, Values, Wrong}
use Rattle.sections.specs.Sections.{Says, moves, codes, names, defines, times, puts, breaks}
use Rattle.tokens.specs.Tokens.{Token, tokens_from, last_line}
use Rattle.wires.specs.Wires.{all_wires, laid, named_of, has_wire, weight_of}
use Rattle.wires.specs.Values.{unfit}
use Rattle.dumps.specs.Reading.{Known, unread, says_of, after}
use Rattle.dumps.specs.Defined.{is_defined}
use Rattle.dumps.specs.Samples.{samples_in}

-- What the time lines and values so far were: how many time lines, the latest time, and the wires that have a value.
pub record Heard : Type 0 where
  pub lines : ℕ
  pub time : ℕ
  pub given : ℕ

-- Before the first token.
abbrev pub unheard : Heard
unheard = record { lines = 0; time = 0; given = 0 }

-- A time line counts and its time is the latest; a value gives its wires one (2026-03, refusals 22 and 23).
unfoldable pub heard_by : Says → Heard → Heard
heard_by (moves spot) h = h
heard_by codes h = h
heard_by names h = h
heard_by defines h = h
heard_by (times t) h = record { lines = h.lines + 1; time = t; given = h.given }
heard_by (puts c marks) h = record { lines = h.lines; time = h.time; given = laid 1 marks h.given }
heard_by breaks h = h

-- A number if the test holds; 0 is no fault.
abbrev pub fault_if : Bool → ℕ → ℕ
fault_if true n = n
fault_if false n = 0

-- At one time line 22 comes before 23 (2026-03, in this order at one line).
abbrev pub time_fault : Bool → Bool → ℕ
time_fault true incomplete = 22
time_fault false incomplete = fault_if incomplete 23

-- Whether a wanted wire is not among those with a value (2026-03, refusal 23: a wanted wire without one).
abbrev pub lacking : ℕ → Bool
lacking given = not (eqb given all_wires)

-- The fault of a time line behind so many others: 22 where its time is not above the one before, 23 where it is the second and a wire has no
-- value (2026-03, refusals 22 and 23).
abbrev pub late_of : ℕ → ℕ → ℕ → ℕ → ℕ
late_of lines before given time = time_fault (ltb 0 lines && leb time before) (eqb lines 1 && lacking given)

-- Whether a dump ends before its second time line, which asks for all wires, and one has no value (2026-03, refusal 23: at the end).
abbrev pub unfinished : ℕ → ℕ → Bool
unfinished lines given = ltb lines 2 && lacking given

-- The fault of a token, by what it says: 20 malformed; 21 a wanted name a second time, or one that is missing at the end of the
-- definitions; 22 a time not above the one before; 23 a value that its wire does not take, or a wire without one at the second time line
-- (2026-03, refusals).
unfoldable pub fault_by : Says → Known → Heard → List ℕ → ℕ
fault_by (moves spot) r h w = 0
fault_by codes r h w = 0
fault_by names r h w = fault_if (has_wire (named_of r.vars) (weight_of w)) 21
fault_by defines r h w = fault_if (not (eqb (named_of r.vars) all_wires)) 21
fault_by (times t) r h w = late_of h.lines h.time h.given t
fault_by (puts c marks) r h w = fault_if (unfit c marks) 23
fault_by breaks r h w = 20

-- At the end of the dump: 20 inside a section or before the definitions ended, 23 where fewer than two time lines left a wire without a
-- value; nothing more behind a malformed token (2026-03, refusals: at the end).
abbrev pub end_by : Bool → Bool → Bool → ℕ
end_by true whole short = 0
end_by false false short = 20
end_by false true short = fault_if short 23

-- Whether a place is behind a malformed token, where nothing counts any more (2026-03, faults).
abbrev pub is_wrong : Place → Bool
is_wrong Between = false
is_wrong Skipped = false
is_wrong ScaleNumber = false
is_wrong ScaleUnit = false
is_wrong ScopeKind = false
is_wrong ScopeName = false
is_wrong VarKind = false
is_wrong VarWidth = false
is_wrong VarCode = false
is_wrong VarName = false
is_wrong Close = false
is_wrong Values = false
is_wrong Wrong = true

-- The fault at the end (2026-03, refusals: at the end).
unfoldable pub end_fault : Known → Heard → ℕ
end_fault r h =
    end_by (is_wrong r.spot.place) (is_defined r) (unfinished h.lines h.given)

-- A fault: its number, and its line, counted from 0 (2026-03, tokens: the line of a fault).
pub record Fault : Type 0 where
  pub line : ℕ
  pub number : ℕ

-- A fault put before others, if there is one.
abbrev pub note_by : Bool → ℕ → ℕ → List Fault → List Fault
note_by true line number fs = fs
note_by false line number fs = record { line = line; number = number } ∷ fs

-- The same by the number, 0 being no fault.
unfoldable pub note : ℕ → ℕ → List Fault → List Fault
note line number fs = note_by (eqb number 0) line number fs

-- All faults of tokens, with those at the end on the last line (2026-03, refusals).
abbrev pub faults_from : Known → Heard → List Token → ℕ → List Fault
faults_from r h [] last = note last (end_fault r h) []
faults_from r h (t ∷ ts) last =
    note t.line (fault_by (says_of r t.word) r h t.word)
    (faults_from (after r t.word) (heard_by (says_of r t.word) h) ts last)

-- All faults of a dump (2026-03, refusals).
unfoldable pub faults_of : List ℕ → List Fault
faults_of dump = faults_from unread unheard (tokens_from 0 dump) (last_line dump)

-- The earliest line comes first, and at one line the lower number (2026-03, in this order at one line, the earliest line first).
abbrev pub comes_first : Fault → Fault → Bool
comes_first f g = ltb f.line g.line || (eqb f.line g.line && leb f.number g.number)

-- The first of two faults.
abbrev pub first_by : Bool → Fault → Fault → Fault
first_by true f g = f
first_by false f g = g

-- The first of two by their order (2026-03, in this order at one line, the earliest line first).
unfoldable pub first : Fault → Fault → Fault
first f g = first_by (comes_first f g) f g

-- The first of a fault and those behind it (2026-03, the earliest line first).
abbrev pub least_from : Fault → List Fault → Fault
least_from f [] = f
least_from f (g ∷ gs) = least_from (first f g) gs

-- A sound dump is accepted with the number of its samples; any other is refused with the least of its faults by line and number, lines
-- counted from 1 (2026-03, refusals).
abbrev pub verdict_by : List Fault → ℕ → Verdict
verdict_by [] count = accepted count
verdict_by (f ∷ fs) count = refused (least_from f fs).number (suc (least_from f fs).line)

-- The verdict on a dump (2026-03, refusals 20 to 23).
unfoldable pub dump_verdict : List ℕ → Verdict
dump_verdict dump = verdict_by (faults_of dump) (length (samples_in dump))
