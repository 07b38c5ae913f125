-- What the functions over tokens promise.
use Rattle.std.specs.Prelude.{ℕ, ◌-◌, ◌≤◌, ◌<◌, Bool, true, false, not, ◌&&◌, List, [], ◌∷◌, ◌≡◌, length, take, drop, Option, None, Some}
use Rattle.tokens.specs.declared.Past.{Past}
use Rattle.tokens.specs.declared.Word.{Word}
use Rattle.tokens.specs.Tokens.{blank, goes_on, tokens_from}

-- A place past blanks: the same tokens are left from there, and a token begins there or the text ends.
pub record Passes (text : List ℕ) (at line : ℕ) (r : Past) : Type 0 where
  pub from : at ≤ r.at
  pub inside : r.at ≤ length text
  pub small : r.line ≤ r.at
  pub left : tokens_from line (drop at text) ≡ tokens_from r.line (drop r.at text)
  pub stops : r.at < length text → goes_on (drop r.at text) ≡ true

-- Whether no character is a blank.
abbrev pub solid : List ℕ → Bool
solid [] = true
solid (c ∷ cs) = not (blank c) && solid cs

-- Where a token ends: no blank stands before, and none of it follows.
pub record EndsWord (text : List ℕ) (at r : ℕ) : Type 0 where
  pub from : at ≤ r
  pub inside : r ≤ length text
  pub word : solid (take (r - at) (drop at text)) ≡ true
  pub stops : goes_on (drop r text) ≡ false

-- A token found: its characters and line, and the tokens that are left behind it.
pub record FindsWord (text : List ℕ) (at line from to on : ℕ) : Type 0 where
  pub after : at ≤ from
  pub some : from < to
  pub inside : to ≤ length text
  pub small : on ≤ from
  pub left : tokens_from line (drop at text) ≡ record { line = on; word = take (to - from) (drop from text) } ∷ tokens_from on (drop to text)

-- The next token, or that none is left.
abbrev pub Finds : List ℕ → ℕ → ℕ → Option Word → Type 0
Finds text at line (Some w) = FindsWord text at line w.from w.to w.line
Finds text at line None = tokens_from line (drop at text) ≡ []
