-- A text and its lines (document 01, Image files).
use Rattle.std.specs.Prelude.{ℕ, ◌+◌, ◌-◌, Bool, true, false, Option, Some, None, List, [], ◌∷◌, eqb, length, get_or, take}
use Rattle.lines.specs.declared.Line.{Line}

-- The character that ends a line (Image files, a line runs to).
abbrev pub line_feed : ℕ
line_feed = 10

-- The character of which one is dropped before a line's end (Image files, one carriage return).
abbrev pub carriage_return : ℕ
carriage_return = 13

-- A character put before a text's lines: a line feed closes an empty line, any other joins the first line (Image files).
abbrev pub join_by : Bool → ℕ → List (List ℕ) → List (List ℕ)
join_by true c ls = [] ∷ ls
join_by false c [] = (c ∷ []) ∷ []
join_by false c (l ∷ ls) = (c ∷ l) ∷ ls

-- The lines of a text, without their line feeds; no line follows a last line feed (Image files, a line runs to).
abbrev pub lines_of : List ℕ → List (List ℕ)
lines_of [] = []
lines_of (c ∷ cs) = join_by (eqb c line_feed) c (lines_of cs)

-- The first of the lines, empty where there is none (Image files, a line runs to).
abbrev pub first_line : List (List ℕ) → List ℕ
first_line [] = []
first_line (l ∷ ls) = l

-- A line that ends in a carriage return, and one that does not (Image files, one carriage return).
abbrev pub trim_by : Bool → List ℕ → List ℕ
trim_by true l = take (length l - 1) l
trim_by false l = l

-- A line with one carriage return dropped before its end, be that a line feed or the end of the text (Image files).
unfoldable pub trimmed : List ℕ → List ℕ
trimmed l = trim_by (eqb (get_or l (length l - 1) 0) carriage_return) l

-- A line step: a line, with where its characters end without and with its carriage return, or the end (Image files).
pub data LineStep : Type 0 where
  line_at : ℕ → ℕ → LineStep
  no_line : LineStep

-- What each case of the code's answer says.
abbrev pub step_meant : Option Line → LineStep
step_meant (Some line) = line_at line.trimmed line.feed
step_meant None = no_line

-- The step at a place, given the lines that are left from there on (Image files, a line runs to).
unfoldable pub line_step_of : ℕ → List (List ℕ) → LineStep
line_step_of at [] = no_line
line_step_of at (l ∷ ls) = line_at (at + length (trimmed l)) (at + length l)
