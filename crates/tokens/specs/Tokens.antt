-- The text of a dump as tokens with their lines (request 2026-03, the line's analyser saves; docs/DECISIONS.md, "2026-03, tokens").
use Rattle.std.specs.Prelude.{ℕ, ◌+◌, ◌-◌, Bool, true, false, not, ◌&&◌, ◌||◌, List, [], ◌∷◌, map, eqb, length, take}
use Rattle.lines.specs.Lines.{line_feed, carriage_return}

-- Blanks, tabs, carriage returns and line feeds part tokens (2026-03, tokens).
abbrev pub blank : ℕ → Bool
blank c = eqb c 0x20 || (eqb c line_feed || (eqb c carriage_return || eqb c 0x09))

-- A token: its characters, and its line, counted from 0 (2026-03, tokens: the line of a fault is that of its token).
pub record Token : Type 0 where
  pub line : ℕ
  pub word : List ℕ

-- Whether a text goes on with a character of a token (2026-03, tokens).
abbrev pub goes_on : List ℕ → Bool
goes_on [] = false
goes_on (c ∷ cs) = not (blank c)

-- A line feed ends a line, any other character does not (2026-03, tokens).
abbrev pub line_by : Bool → ℕ → ℕ
line_by true n = n + 1
line_by false n = n

-- A character put before the tokens of what follows it: a blank is no part of any, any other begins a token or joins the one that
-- goes on behind it (2026-03, tokens).
abbrev pub put_by : Bool → Bool → ℕ → ℕ → List Token → List Token
put_by true joins n c ts = ts
put_by false false n c ts = record { line = n; word = c ∷ [] } ∷ ts
put_by false true n c [] = record { line = n; word = c ∷ [] } ∷ []
put_by false true n c (t ∷ ts) = record { line = n; word = c ∷ t.word } ∷ ts

-- The tokens of a text whose first character stands on a line (2026-03, tokens).
abbrev pub tokens_from : ℕ → List ℕ → List Token
tokens_from n [] = []
tokens_from n (c ∷ cs) = put_by (blank c) (goes_on cs) n c (tokens_from (line_by (eqb c line_feed) n) cs)

-- The tokens of a text, without their lines (2026-03, tokens).
unfoldable pub words_of : List ℕ → List (List ℕ)
words_of text = map (λ (t : Token). t.word) (tokens_from 0 text)

-- How many line feeds there are (2026-03, tokens).
abbrev pub feeds_in : List ℕ → ℕ
feeds_in [] = 0
feeds_in (c ∷ cs) = line_by (eqb c line_feed) (feeds_in cs)

-- The line of a text's last character, that of a fault at the end; no line follows a last line feed (2026-03, tokens: at the end).
unfoldable pub last_line : List ℕ → ℕ
last_line text = feeds_in (take (length text - 1) text)

-- Whether two words are the same, character by character.
abbrev pub same_word : List ℕ → List ℕ → Bool
same_word [] [] = true
same_word [] (d ∷ ds) = false
same_word (c ∷ cs) [] = false
same_word (c ∷ cs) (d ∷ ds) = eqb c d && same_word cs ds
