-- What a glance promises: a token, and what it says outside every section behind a time line.
use Rattle.std.specs.Prelude.{◌≡◌, ℕ, ◌+◌, ◌<◌, ◌≤◌, true, List, drop, slice_index, slice_range, Option, None, Some}
use Rattle.sections.specs.declared.Place.TheVariants.{Between}
use Rattle.sections.specs.Sections.{Says, times, puts}
use Rattle.tokens.specs.Tokens.{tokens_from}
use Rattle.tokens.specs.Parts.{FindsWord}
use Rattle.dumps.specs.Reading.{says_of}
use Rattle.dumps.specs.Defined.{body_at}
use Rattle.tokens.specs.declared.Past.{Past}
use Rattle.glances.specs.declared.Seen.{Seen}

-- A token found with what it says.
pub record Sees (dump : List ℕ) (at line to on : ℕ) (says : Says) : Type 0 where
  pub from : ℕ
  pub word : FindsWord dump at line from to on
  pub said : says_of (body_at dump Between true) (slice_range dump from to) ≡ says

-- A value of two characters by its marks, on any line; 0 says nothing.
pub record SeesMarks (dump : List ℕ) (from r : ℕ) : Type 0 where
  pub seen : 0 < r → (line : ℕ) → line ≤ from → Sees dump from line (from + 2) line (puts (slice_index dump from) r)

-- A time and its token's length, on any line; none says nothing.
abbrev pub SeesTime : List ℕ → ℕ → Option Seen → Type 0
SeesTime dump from None = Unit {0}
SeesTime dump from (Some seen) = (line : ℕ) → line ≤ from → Sees dump from line (from + seen.length) line (times seen.time)

-- Past a blank, if there is one: the same tokens are left.
pub record Skims (dump : List ℕ) (at line : ℕ) (r : Past) : Type 0 where
  pub from : at ≤ r.at
  pub near : r.at ≤ at + 1
  pub small : r.line ≤ r.at
  pub left : tokens_from line (drop at dump) ≡ tokens_from r.line (drop r.at dump)
