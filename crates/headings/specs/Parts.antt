-- What the functions over a dump's definitions promise those above.
use Rattle.std.specs.Prelude.{ℕ, suc, ◌≤◌, ◌<◌, Bool, true, false, List, [], ◌∷◌, ◌≡◌, eqb, length, get_or, set, drop, Option, None, Some, IfSome, Result, Ok, Err}
use Rattle.ground.specs.declared.Reason.{Reason}
use Rattle.ground.specs.Verdict.{refused, number_of}
use Rattle.sections.specs.declared.Place.TheVariants.{Between}
use Rattle.tokens.specs.Tokens.{words_of, tokens_from, last_line}
use Rattle.wires.specs.Wires.{Var, marked, marks_of}
use Rattle.dumps.specs.Defined.{vars_of, body_at}
use Rattle.dumps.specs.Samples.{samples_in, samples_from}
use Rattle.dumps.specs.Faults as dumped
use Rattle.dumps.specs.Faults.{unheard, comes_first, verdict_by, faults_of, faults_from}
use Rattle.headings.specs.declared.Heading.{Heading}
use Rattle.headings.specs.declared.faults.Fault.{Fault}
use Rattle.headings.specs.declared.faults.Numbered.{Numbered}

-- A table of marks: one entry for each code of one character.
pub record Tabled (vars : List Var) (table : List ℕ) : Type 0 where
  pub size : length table ≡ 256
  pub entry : (c : ℕ) → c < 256 → get_or table c 0 ≡ marks_of vars (c ∷ [])

-- The table with one more wire for a code; longer codes are not in it (2026-03, wires: an alias).
unfoldable pub declared_in : List ℕ → List ℕ → ℕ → List ℕ
declared_in table [] wire = table
declared_in table (c ∷ []) wire = set table c (marked (get_or table c 0) wire)
declared_in table (c ∷ d ∷ cs) wire = table

-- The number of a reason; 0 where there is none.
abbrev pub number_in : Option Reason → ℕ
number_in None = 0
number_in (Some reason) = number_of reason

-- A fault by its number and line.
abbrev pub fault_meant : Fault → dumped.Fault
fault_meant f = record { line = f.line; number = number_of f.reason }

-- A fault put before others, if there is one.
abbrev pub noted : Option Fault → List dumped.Fault → List dumped.Fault
noted None fs = fs
noted (Some f) fs = fault_meant f ∷ fs

-- A fault of the code by its number.
abbrev pub numbered_of : Fault → Numbered
numbered_of f = record { number = number_of f.reason; line = f.line }

-- What a fault by its number means in the words of the dump.
abbrev pub numbered_meant : Numbered → dumped.Fault
numbered_meant f = record { line = f.line; number = f.number }

-- The first of a fault and another, number 0 being none.
abbrev pub numbers_joined_by : Bool → Bool → Bool → Numbered → Numbered → Numbered
numbers_joined_by true free before f g = f
numbers_joined_by false true before f g = g
numbers_joined_by false false true f g = f
numbers_joined_by false false false f g = g

-- The same, by their numbers and lines (2026-03, in this order at one line, the earliest line first).
unfoldable pub numbers_joined_of : Numbered → ℕ → ℕ → Numbered
numbers_joined_of f number line =
    numbers_joined_by (eqb number 0) (eqb f.number 0) (comes_first (numbered_meant f) (record { line = line; number = number })) f
    (record { number = number; line = line })

-- No fault at all.
abbrev pub no_fault : Option Fault
no_fault = None

-- The first of two faults, by the test.
abbrev pub joined_by : Bool → Fault → Fault → Fault
joined_by true f g = f
joined_by false f g = g

-- The first of a fault, if there is one, and another (2026-03, in this order at one line, the earliest line first).
abbrev pub first_of : Option Fault → Fault → Fault
first_of None g = g
first_of (Some f) g = joined_by (comes_first (fault_meant f) (fault_meant g)) f g

-- The same, where there may be no other.
unfoldable pub joined_of : Option Fault → Option Reason → ℕ → Option Fault
joined_of f None line = f
joined_of f (Some reason) line = Some (first_of f (record { reason = reason; line = line }))

-- The definitions read to their end: what is left behind them is read outside every section, and nothing was heard (2026-03, refusal 21).
pub record Opens (dump : List ℕ) (r : Heading) (table : List ℕ) : Type 0 where
  pub tabled : Tabled (vars_of dump) table
  pub inside : r.at ≤ length dump
  pub small : r.line ≤ r.at
  pub faulty : IfSome r.fault (λ f. f.line ≤ length dump)
  pub verdict : (count : ℕ)
      → verdict_by (faults_of dump) count
      ≡ verdict_by (noted r.fault (faults_from (body_at dump Between false) unheard (tokens_from r.line (drop r.at dump)) (last_line dump))) count
  pub samples : samples_in dump ≡ samples_from (body_at dump Between false) (words_of (drop r.at dump))

-- The dump ends among them, which is 20 at its last line, or a token of them is malformed: then it is refused with the first fault
-- (2026-03, refusals 20 and 21).
pub record Fails (dump : List ℕ) (f : Fault) (table : List ℕ) : Type 0 where
  pub tabled : Tabled (vars_of dump) table
  pub faulty : f.line ≤ length dump
  pub verdict : (count : ℕ) → verdict_by (faults_of dump) count ≡ refused (number_of f.reason) (suc f.line)
  pub samples : samples_in dump ≡ []

-- The definitions read.
abbrev pub Defines : List ℕ → Result Heading Fault → List ℕ → Type 0
Defines dump (Ok heading) table = Opens dump heading table
Defines dump (Err fault) table = Fails dump fault table
