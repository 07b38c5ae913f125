-- Laws of a text's tokens, for the proofs here and for callers. Assumes nothing.
use Prim.Native.Nat.{ℕ, zero, suc, ◌+◌, ◌-◌, ◌<◌, ◌≤◌}
use mathlib.Core.Bool.{Bool, true, false, not, cond, ◌&&◌, true≢false}
use mathlib.Core.List.{List, [], ◌∷◌, map}
use mathlib.Core.Path.{◌≡◌, refl, ap, sym, subst, ◌∙◌}
use native.Mathlib.Numerals.{add-one}
use native.Mathlib.Omega.{arith}
use lib.Dec.{eqb, ltb}
use lib.ListN.{length, get_or, take, drop, length-drop, drop_of_length-le}
use lib.Seq.{drop-cons, drop-drop, get_or-drop, length-take-le}
use borrow.Author.Tests.{ltb-false, eqb-true, eq-eqb, ne_eqb, not-true}
use Rattle.ground.proofs.Tests.{and_split}
use Rattle.lines.specs.Lines.{line_feed, carriage_return}
use Rattle.std.specs.Prelude.{Option, None, Some}
use Rattle.std.specs.List.{position, position_or_len, count_by}
use Rattle.std.specs.Option.{unwrap_or}
use Rattle.std.specs.Cmp.Lexicographic.{pointwise}
use Rattle.std.proofs.lemmas.List.Recursion.{is_count_by}
use Rattle.std.proofs.lemmas.List.Sums.{prefix_len-le-length}
use Rattle.tokens.specs.declared.Past.{Past}
use Rattle.tokens.specs.declared.Word.{Word}
use Rattle.tokens.specs.Tokens.{Token, blank, goes_on, line_by, put_by, tokens_from, words_of, feeds_in, same_word}
use Rattle.tokens.specs.Parts.{Passes, solid, EndsWord, FindsWord, Finds}

-- A character that parts no tokens ends no line.
no-feed : (c : ℕ) → blank c ≡ false → eqb c line_feed ≡ false
no-feed c h = ne_eqb c line_feed (λ e. true≢false (ap blank (sym e) ∙ h))

-- Characters by their number.
module _ (c : ℕ) where
  above : (k : ℕ) → k ≤ 0x20 → 0x20 < c → eqb c k ≡ false
  above k a h = ne_eqb c k (λ e. omega arith)

  pub blank-above : 0x20 < c → false ≡ blank c
  blank-above h =
      rw (above 0x20 (omega arith) h, above line_feed (omega arith) h, above carriage_return (omega arith) h, above 0x09 (omega arith) h)

-- The words of a text are the same, whatever line it starts on.
put-words : (b joins : Bool) (n m c : ℕ) (ts us : List Token)
    → map (λ (t : Token). t.word) ts ≡ map (λ (t : Token). t.word) us
    → map (λ (t : Token). t.word) (put_by b joins n c ts) ≡ map (λ (t : Token). t.word) (put_by b joins m c us)
put-words true joins n m c ts us h = h
put-words false false n m c ts us h = ap (λ (ws : List (List ℕ)). (c ∷ []) ∷ ws) h
put-words false true n m c [] [] h = refl
put-words false true n m c [] (u ∷ us) h = let z : ◌≡◌ {A = ℕ} 0 1 = cc in absurd (omega arith)
put-words false true n m c (t ∷ ts) [] h = let z : ◌≡◌ {A = ℕ} 0 1 = cc in absurd (omega arith)
put-words false true n m c (t ∷ ts) (u ∷ us) h = cc

pub words-line : (n m : ℕ) (xs : List ℕ)
    → map (λ (t : Token). t.word) (tokens_from n xs) ≡ map (λ (t : Token). t.word) (tokens_from m xs)
words-line n m [] = refl
words-line n m (c ∷ cs) =
    put-words (blank c) (goes_on cs) n m c _ _
    (words-line (line_by (eqb c line_feed) n) (line_by (eqb c line_feed) m) cs)

-- The next word and the words behind it; or none.
pub words-found : (text : List ℕ) (at line from to on : ℕ) → FindsWord text at line from to on
    → words_of (drop at text) ≡ take (to - from) (drop from text) ∷ words_of (drop to text)
unfolding words_of
words-found text at line from to on f =
    words-line 0 line (drop at text) ∙ ap (map (λ (t : Token). t.word)) f.left
    ∙ ap (λ (ws : List (List ℕ)). take (to - from) (drop from text) ∷ ws) (words-line on 0 (drop to text))

pub words-none : (text : List ℕ) (at line : ℕ) → tokens_from line (drop at text) ≡ [] → words_of (drop at text) ≡ []
unfolding words_of
words-none text at line e = words-line 0 line (drop at text) ∙ ap (map (λ (t : Token). t.word)) e

-- What is found, by its case.
pub found_word : (text : List ℕ) (at line : ℕ) (r : Option Word) (w : Word) → Finds text at line r → r ≡ Some w
    → FindsWord text at line w.from w.to w.line
found_word text at line r w h e = subst (Finds text at line) e h

pub found-end : (text : List ℕ) (at line : ℕ) (r : Option Word) → Finds text at line r → r ≡ None → tokens_from line (drop at text) ≡ []
found-end text at line r h e = subst (Finds text at line) e h

-- A word found is as long as its ends say.
pub word-length : (text : List ℕ) (at line from to on : ℕ) → FindsWord text at line from to on
    → length (take (to - from) (drop from text)) ≡ to - from
word-length text at line from to on f =
    let k = f.inside in
    length-take-le (to - from) (drop from text) (simp length-drop (omega arith))

-- Words that are the same are equal, and equal ones the same.
pub same-equal : (a b : List ℕ) → same_word a b ≡ true → a ≡ b
same-equal [] [] e = refl
same-equal [] (d ∷ ds) e = absurd (true≢false (sym e))
same-equal (c ∷ cs) [] e = absurd (true≢false (sym e))
same-equal (c ∷ cs) (d ∷ ds) e =
    let t = and_split (eqb c d) (same_word cs ds) e in
    let p : c ≡ d = eqb-true c d t.0 in
    let q : cs ≡ ds = same-equal cs ds t.1 in
    cc

pub equal-same : (a : List ℕ) → same_word a a ≡ true
equal-same [] = refl
equal-same (c ∷ cs) = rw (eq-eqb c c refl) (equal-same cs)

-- Words of two lengths are not the same.
pub other_length : (a b : List ℕ) → (length a ≡ length b → ⊥) → false ≡ same_word a b
other_length [] [] h = absurd (h refl)
other_length [] (d ∷ ds) h = refl
other_length (c ∷ cs) [] h = refl
other_length (c ∷ cs) (d ∷ ds) h = other-by (eqb c d) (same_word cs ds) (other_length cs ds (λ e. h (ap suc e)))
  where
    other-by : (b r : Bool) → false ≡ r → false ≡ b && r
    other-by true r e = e
    other-by false r e = refl

-- What `==` tells of two words.
pub same-pointwise : (a b : List ℕ) → pointwise eqb a b ≡ same_word a b
same-pointwise [] [] = refl
same-pointwise [] (d ∷ ds) = refl
same-pointwise (c ∷ cs) [] = refl
same-pointwise (c ∷ cs) (d ∷ ds) = ap (λ b. eqb c d && b) (same-pointwise cs ds)

-- The line behind a line feed, and behind any other character.
pub line-feed : (c n m : ℕ) → c ≡ line_feed → m ≡ n + 1 → m ≡ line_by (eqb c line_feed) n
line-feed c n m h e = rw (eq-eqb c line_feed h) e

pub line_same : (c n m : ℕ) → (c ≡ line_feed → ⊥) → m ≡ n → m ≡ line_by (eqb c line_feed) n
line_same c n m h e = rw (ne_eqb c line_feed h) e

-- A text from a place on: whether a token goes on there.
module _ (text : List ℕ) (i : ℕ) where
  pub goes-here : {r : Bool} → i < length text → r ≡ blank (get_or text i 0) → goes_on (drop i text) ≡ not r
  goes-here h e = rw (e, drop-cons text i 0 h)

  -- A blank is passed, and the line counted.
  pub pass-turn : (n m : ℕ) {r : Bool} → i < length text → r ≡ blank (get_or text i 0) → r ≡ true
      → m ≡ line_by (eqb (get_or text i 0) line_feed) n → tokens_from n (drop i text) ≡ tokens_from m (drop (i + 1) text)
  pass-turn n m h e f g = rw (add-one, g, drop-cons text i 0 h, sym e ∙ f)

-- Up to its first blank a text is solid, and no token goes on there.
solid-first : (xs : List ℕ) → solid (take (position_or_len blank xs) xs) ≡ true
solid-first [] = refl
solid-first (c ∷ cs) = by (blank c) refl (solid-first cs)
  where
    by : (b : Bool) → blank c ≡ b → solid (take (position_or_len blank cs) cs) ≡ true
        → solid (take (position_or_len blank (c ∷ cs)) (c ∷ cs)) ≡ true
    by true e s = rw e
    by false e s = let one : 1 + position_or_len blank cs ≡ suc (position_or_len blank cs) = omega arith in rw (e, one, e) s

goes-first : (xs : List ℕ) → goes_on (drop (position_or_len blank xs) xs) ≡ false
goes-first [] = refl
goes-first (c ∷ cs) = by (blank c) refl (goes-first cs)
  where
    by : (b : Bool) → blank c ≡ b → goes_on (drop (position_or_len blank cs) cs) ≡ false
        → goes_on (drop (position_or_len blank (c ∷ cs)) (c ∷ cs)) ≡ false
    by true e g = rw (e, e)
    by false e g = let one : 1 + position_or_len blank cs ≡ suc (position_or_len blank cs) = omega arith in rw (e, one) g

first-by : (xs : List ℕ) (b : Bool) → b ≡ ltb (position_or_len blank xs) (length xs)
    → unwrap_or (cond b (Some (position_or_len blank xs)) None) (length xs) ≡ position_or_len blank xs
first-by xs true e = refl
first-by xs false e =
    let above = ltb-false (position_or_len blank xs) (length xs) (sym e) in
    omega (arith, prefix_len-le-length (λ x. not (blank x)) xs)

pub or-length : (xs : List ℕ) → unwrap_or (position blank xs) (length xs) ≡ position_or_len blank xs
or-length xs = first-by xs (ltb (position_or_len blank xs) (length xs)) refl

pub ends-first : (text : List ℕ) (at n : ℕ) → at ≤ length text → n ≡ position_or_len blank (drop at text) → EndsWord text at (at + n)
ends-first text at n a e =
    let rest = drop at text in
    let small : n ≤ length rest = omega (arith, prefix_len-le-length (λ x. not (blank x)) rest) in
    let l : at + n - at ≡ n = omega arith in
    record {
      from = omega arith;
      inside = omega (arith, length-drop {A = ℕ});
      word = rw (l, e) (solid-first rest);
      stops = let d : drop n rest ≡ drop (at + n) text = drop-drop n at text in rw (← d, e) (goes-first rest);
    }

-- A character more of a word.
solid-more : (xs : List ℕ) (k : ℕ) → k < length xs → blank (get_or xs k 0) ≡ false → solid (take k xs) ≡ true
    → solid (take (suc k) xs) ≡ true
solid-more [] k h e s = absurd (omega arith)
solid-more (c ∷ cs) zero h e s = rw e
solid-more (c ∷ cs) (suc k) h e s =
    let t = and_split (not (blank c)) (solid (take k cs)) s in
    rw t.0 (solid-more cs k (omega arith) e t.1)

pub word-turn : (text : List ℕ) (at i : ℕ) {r : Bool} → at ≤ i → i < length text → r ≡ blank (get_or text i 0) → r ≡ false
    → solid (take (i - at) (drop at text)) ≡ true → solid (take (i + 1 - at) (drop at text)) ≡ true
word-turn text at i a h e f s =
    let n : i + 1 - at ≡ suc (i - at) = omega arith in
    let m : at + (i - at) ≡ i = omega arith in
    rw n
    (solid-more (drop at text) (i - at) (simp length-drop (omega arith))
    (rw (get_or-drop, m) (sym e ∙ f)) s)

-- A word that ends is the first token.
word_first : (n m : ℕ) (xs : List ℕ) → 0 < m → m ≤ length xs → solid (take m xs) ≡ true → goes_on (drop m xs) ≡ false
    → tokens_from n xs ≡ record { line = n; word = take m xs } ∷ tokens_from n (drop m xs)
word_first n zero xs p h s g = absurd (omega arith)
word_first n (suc m) [] p h s g = absurd (omega arith)
word_first n (suc zero) (c ∷ cs) p h s g =
    let b = not-true (blank c) (and_split (not (blank c)) true s).0 in
    rw (b, g, no-feed c b)
word_first n (suc (suc m)) (c ∷ []) p h s g = absurd (omega arith)
word_first n (suc (suc m)) (c ∷ d ∷ cs) p h s g =
    let t = and_split (not (blank c)) (solid (take (suc m) (d ∷ cs))) s in
    let b = not-true (blank c) t.0 in
    let u = and_split (not (blank d)) (solid (take m cs)) t.1 in
    let f = word_first n (suc m) (d ∷ cs) (omega arith) (omega arith) t.1 g in
    rw (b, u.0, no-feed c b, f)

-- Past blanks to where a token begins or the text ends, and past that token to where it ends.
module _ (text : List ℕ) (at line : ℕ) (s : Past) (p : Passes text at line s) where
  pub finds-word : (to : ℕ) → s.at < length text → EndsWord text s.at to → FindsWord text at line s.at to s.line
  finds-word to h e =
      let apart : s.at ≡ to → ⊥ =
      λ q. true≢false (sym (p.stops h) ∙ ap (λ (i : ℕ). goes_on (drop i text)) q ∙ e.stops) in
      let a = e.from in
      let b = e.inside in
      let some : s.at < to = omega arith in
      let d : drop (to - s.at) (drop s.at text) ≡ drop to text =
      drop-drop (to - s.at) s.at text ∙ (let n : s.at + (to - s.at) ≡ to = omega arith in ap (λ (i : ℕ). drop i text) n) in
      let w =
      word_first s.line (to - s.at) (drop s.at text) (omega arith) (simp length-drop (omega arith)) e.word (rw d e.stops) in
      record { after = p.from; some = some; inside = b; small = p.small; left = p.left ∙ rw d at w }

  pub finds-end : length text ≤ s.at → tokens_from line (drop at text) ≡ []
  finds-end h = p.left ∙ rw (drop_of_length-le text h)

-- Line feeds are counted.
pub feeds-count : (xs : List ℕ) → feeds_in xs ≡ count_by (λ x. eqb x line_feed) xs
feeds-count = is_count_by feeds_in (λ x. eqb x line_feed) refl (λ x xs. by (eqb x line_feed) (feeds_in xs))
  where
    by : (b : Bool) (n : ℕ) → line_by b n ≡ cond b (1 + n) n
    by true n = omega arith
    by false n = refl
