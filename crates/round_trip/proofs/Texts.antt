-- Texts and their lines: a text that ends in a line feed is its lines, each with its line feed; a line without carriage
-- returns keeps its last character; texts joined end as the second does. Assumes nothing.
use Prim.Native.Nat.{ℕ, suc, ◌+◌, ◌-◌, ◌<◌}
use mathlib.Core.Bool.{Bool, true, false, true≢false}
use mathlib.Core.List.{List, [], ◌∷◌, ◌++◌}
use mathlib.Core.Path.{◌≡◌, refl, ap, sym}
use native.Mathlib.Omega.{arith}
use lib.Dec.{eqb}
use lib.ListN.{length, length-append}
use lib.Seq.{get_or-append-add}
use borrow.Author.Tests.{eqb-true}
use Rattle.lines.specs.Lines.{line_feed, join_by, lines_of, trimmed}
use Rattle.lines.proofs.LineLaws.{trim-none}
use Rattle.round_trip.specs.Words.{no_return, ends_in_feed}
use Rattle.round_trip.proofs.Tests.{return-at}

-- Lines as a text, each with its line feed.
abbrev pub joined : List (List ℕ) → List ℕ
joined [] = []
joined (l ∷ ls) = l ++ (line_feed ∷ joined ls)

-- A character put before lines that are some text is put before that text.
joined-put : (b : Bool) (c d : ℕ) (cs : List ℕ) (ls : List (List ℕ)) → eqb c line_feed ≡ b → joined ls ≡ d ∷ cs
    → joined (join_by b c ls) ≡ c ∷ d ∷ cs
joined-put true c d cs ls e p = rw (eqb-true c line_feed e, p)
joined-put false c d cs [] e p = absurd (true≢false (cc))
joined-put false c d cs (l ∷ ls) e p = ap (λ (r : List ℕ). c ∷ r) p

-- A text that ends in a line feed is its lines, each with its line feed.
pub lines-joined : (text : List ℕ) → ends_in_feed text ≡ true → joined (lines_of text) ≡ text
lines-joined [] e = refl
lines-joined (c ∷ []) e = rw e (ap (λ (x : ℕ). x ∷ []) (sym (eqb-true c line_feed e)))
lines-joined (c ∷ d ∷ cs) e =
    let p : suc (suc (length cs)) - 1 ≡ suc (length cs) = omega arith in
    let q : suc (length cs) - 1 ≡ length cs = omega arith in
    joined-put (eqb c line_feed) c d cs (lines_of (d ∷ cs)) refl (lines-joined (d ∷ cs) (rw q (rw p at e)))

-- A line without carriage returns keeps its last character.
pub trimmed-same : (l : List ℕ) → no_return l ≡ true → trimmed l ≡ l
trimmed-same l e = trim-none l (return-at l (length l - 1) e)

-- Texts joined end as the second does.
pub ends-append : (xs ys : List ℕ) → 0 < length ys → ends_in_feed (xs ++ ys) ≡ ends_in_feed ys
ends-append xs ys h =
    let e : length (xs ++ ys) - 1 ≡ length xs + (length ys - 1) = rw length-append (omega arith) in
    rw (e, get_or-append-add)
