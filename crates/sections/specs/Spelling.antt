-- How the words of a dump are spelt, as character codes (request 2026-03, sections; docs/DECISIONS.md, "2026-03, sections").
use Rattle.std.specs.Prelude.{ℕ, Bool, true, false, not, ◌&&◌, ◌||◌, List, [], ◌∷◌, leb}
use Rattle.codes.specs.Codes.{codes_of}
use Rattle.tokens.specs.Tokens.{same_word}
use Rattle.sections.specs.declared.Keyword.{Keyword}
use Rattle.sections.specs.declared.Keyword.TheVariants.{Remark, Comment, Timescale, Scope, Var, Upscope, EndDefinitions, Dumpvars, End, Other}

-- `$end` (2026-03, sections).
abbrev pub end_word : List ℕ
end_word = codes_of "$end"

-- `1` (2026-03, sections).
abbrev pub one_word : List ℕ
one_word = codes_of "1"

-- `us` (2026-03, sections).
abbrev pub micro_word : List ℕ
micro_word = codes_of "us"

-- `1us` (2026-03, sections).
abbrev pub one_micro_word : List ℕ
one_micro_word = codes_of "1us"

-- `wire` (2026-03, sections).
abbrev pub wire_word : List ℕ
wire_word = codes_of "wire"

-- A word with the keyword that it is.
pub record Spelt : Type 0 where
  pub word : List ℕ
  pub keyword : Keyword

-- Every word that begins or ends a section (2026-03, sections).
abbrev pub spelling : List Spelt
spelling =
    record { word = end_word; keyword = End }
    ∷ record { word = codes_of "$comment"; keyword = Comment }
    ∷ record { word = codes_of "$dumpvars"; keyword = Dumpvars }
    ∷ record { word = codes_of "$var"; keyword = Var }
    ∷ record { word = codes_of "$date"; keyword = Remark }
    ∷ record { word = codes_of "$version"; keyword = Remark }
    ∷ record { word = codes_of "$timescale"; keyword = Timescale }
    ∷ record { word = codes_of "$scope"; keyword = Scope }
    ∷ record { word = codes_of "$upscope"; keyword = Upscope }
    ∷ record { word = codes_of "$enddefinitions"; keyword = EndDefinitions }
    ∷ []

-- The first of two keywords if the test holds, else the second.
abbrev pub keyword_by : Bool → Keyword → Keyword → Keyword
keyword_by true k l = k
keyword_by false k l = l

-- The keyword of a word in such a list; a word that is not in it is none.
abbrev pub keyword_in : List Spelt → List ℕ → Keyword
keyword_in [] w = Other
keyword_in (s ∷ ss) w = keyword_by (same_word w s.word) s.keyword (keyword_in ss w)

-- The keyword that a word is (2026-03, sections).
unfoldable pub keyword_of : List ℕ → Keyword
keyword_of w = keyword_in spelling w

-- Whether every character is one from 21h to 7Eh (2026-03, sections: a code is any token of these).
abbrev pub printable : List ℕ → Bool
printable [] = true
printable (c ∷ cs) = (leb 0x21 c && leb c 0x7E) && printable cs

-- Whether a word ends a section (2026-03, sections).
abbrev pub is_end : List ℕ → Bool
is_end w = same_word w end_word

-- Whether a word may be a code or a name: any but the one that ends a section (2026-03, sections: but `$end`).
abbrev pub free : List ℕ → Bool
free w = printable w && not (is_end w)

-- Whether a word is one of the five kinds of scope (2026-03, sections).
abbrev pub is_scope_kind : List ℕ → Bool
is_scope_kind w =
    same_word w (codes_of "module") || (same_word w (codes_of "task") || (same_word w (codes_of "function") || (same_word w (codes_of "begin") || same_word w (codes_of "fork"))))
