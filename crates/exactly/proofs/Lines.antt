-- The lines of a text by their places, and the lines that the reader goes through. Assumes nothing.
use Prim.Native.Nat.{ℕ, zero, suc, ◌+◌, ◌-◌, ◌≤◌, ◌<◌}
use mathlib.Core.Bool.{Bool, true, false, cond}
use mathlib.Core.List.{List, [], ◌∷◌}
use mathlib.Core.Logic.{◌⊎◌, inl, inr}
use mathlib.Core.Path.{◌≡◌, refl, sym, ◌∙◌}
use native.Mathlib.Omega.{arith}
use lib.Dec.{eqb, ltb}
use lib.ListN.{length, get_or, take, drop, length-drop}
use lib.Seq.{drop-drop, get_or-drop}
use borrow.Author.Tests.{eqb-true, eqb-false, ltb-true, ltb-false}
use Rattle.lines.specs.Lines.{join_by, lines_of, first_line, trim_by, trimmed}
use Rattle.lines.proofs.LineLaws.{first-take, first-length, lines_cons}
use Rattle.exactly.specs.Lines.{StartsLine, Ends, LineAt, characters_of}

-- One of two numbers is less, or they are equal.
pub three_ways : (a b : ℕ) → (a < b) ⊎ ((a ≡ b) ⊎ (b < a))
three_ways a b = go (ltb a b) refl (ltb b a) refl
  where
    go : (x : Bool) → ltb a b ≡ x → (y : Bool) → ltb b a ≡ y → (a < b) ⊎ ((a ≡ b) ⊎ (b < a))
    go true e y f = inl (ltb-true a b e)
    go false e true f = inr (inr (ltb-true b a f))
    go false e false f = let h = ltb-false a b e in let k = ltb-false b a f in inr (inl (omega arith))

end-inside : (text : List ℕ) (e : ℕ) → Ends text e → e ≤ length text
end-inside text e (inl h) = omega arith
end-inside text e (inr h) = let k = h.0 in omega arith

-- A line has one end.
no-shorter : (text : List ℕ) (p e f : ℕ) → LineAt text p e → LineAt text p f → e < f → ⊥
no-shorter text p e f x y h = go x.ends (end-inside text f y.ends)
  where
    go : Ends text e → f ≤ length text → ⊥
    go (inl a) k = omega arith
    go (inr a) k = y.plain e x.order h a.1

pub one_end : (text : List ℕ) (p e f : ℕ) → LineAt text p e → LineAt text p f → e ≡ f
one_end text p e f x y = go (three_ways e f)
  where
    go : (e < f) ⊎ ((e ≡ f) ⊎ (f < e)) → e ≡ f
    go (inl h) = absurd (no-shorter text p e f x y h)
    go (inr (inl h)) = h
    go (inr (inr h)) = absurd (no-shorter text p f e y x h)

-- No line starts within another.
pub none_within : (text : List ℕ) (p e q f : ℕ) → LineAt text p e → LineAt text q f → p < q → q ≤ e → ⊥
none_within text p e q f x y h k = go y.starts
  where
    go : StartsLine text q → ⊥
    go (inl z) = omega arith
    go (inr z) = x.plain (q - 1) (omega arith) (omega arith) z.1

-- A character that ends no line stands at the start of the first line.
first-join : (c : ℕ) (ls : List (List ℕ)) → first_line (join_by false c ls) ≡ c ∷ first_line ls
first-join c [] = refl
first-join c (l ∷ ls) = refl

-- No line feed stands in the first line, and one stands behind it.
first_plain : (xs : List ℕ) (i : ℕ) → i < length (first_line (lines_of xs)) → ¬ (get_or xs i 0 ≡ 0x0A)
first_plain [] i h = absurd (omega arith)
first_plain (c ∷ cs) i h = go (eqb c 0x0A) refl (first_plain cs) i h
  where
    go : (b : Bool) → eqb c 0x0A ≡ b → ((j : ℕ) → j < length (first_line (lines_of cs)) → ¬ (get_or cs j 0 ≡ 0x0A)) → (j : ℕ)
        → j < length (first_line (join_by b c (lines_of cs))) → ¬ (get_or (c ∷ cs) j 0 ≡ 0x0A)
    go true e ih j k f = omega arith
    go false e ih zero k f = eqb-false c 0x0A e f
    go false e ih (suc j) k f =
        let m : suc j < suc (length (first_line (lines_of cs))) = rw (first-join c (lines_of cs)) at k in
        ih j (omega arith) f

first-feed : (xs : List ℕ) → length (first_line (lines_of xs)) < length xs → get_or xs (length (first_line (lines_of xs))) 0 ≡ 0x0A
first-feed [] h = absurd (omega arith)
first-feed (c ∷ cs) h = go (eqb c 0x0A) refl (first-feed cs) h
  where
    go : (b : Bool) → eqb c 0x0A ≡ b
        → (length (first_line (lines_of cs)) < length cs → get_or cs (length (first_line (lines_of cs))) 0 ≡ 0x0A)
        → length (first_line (join_by b c (lines_of cs))) < length (c ∷ cs)
        → get_or (c ∷ cs) (length (first_line (join_by b c (lines_of cs)))) 0 ≡ 0x0A
    go true e ih k = eqb-true c 0x0A e
    go false e ih k =
        let m : suc (length (first_line (lines_of cs))) < suc (length cs) = rw (first-join c (lines_of cs)) at k in
        rw (first-join c (lines_of cs)) (ih (omega arith))

-- Where the line that starts at a place ends.
abbrev pub end_of : List ℕ → ℕ → ℕ
end_of text at = at + length (first_line (lines_of (drop at text)))

module _ (text : List ℕ) (at : ℕ) (h : at < length text) where
  rest-length : length (drop at text) ≡ length text - at
  rest-length = length-drop at text

  pub line-here : StartsLine text at → LineAt text at (end_of text at)
  line-here s =
      let n = first-length (drop at text) in
      let m = rest-length in
      record {
        inside = h;
        starts = s;
        order = omega arith;
        ends = ends (ltb (end_of text at) (length text)) refl;
        plain = λ i a b f.
            let j : i - at < length (first_line (lines_of (drop at text))) = omega arith in
            let k : at + (i - at) ≡ i = omega arith in
            first_plain (drop at text) (i - at) j (get_or-drop at text (i - at) 0 ∙ rw k f);
      }
    where
      ends : (b : Bool) → ltb (end_of text at) (length text) ≡ b → Ends text (end_of text at)
      ends true e =
          let k = ltb-true (end_of text at) (length text) e in
          let m = rest-length in
          inr (k, sym (get_or-drop at text (length (first_line (lines_of (drop at text)))) 0) ∙ first-feed (drop at text) (omega arith))
      ends false e =
          let k = ltb-false (end_of text at) (length text) e in
          let n = first-length (drop at text) in
          let m = rest-length in
          inl (omega arith)

  -- Its characters are the reader's.
  pub characters-here : characters_of text at (end_of text at) ≡ trimmed (first_line (lines_of (drop at text)))
  unfolding characters_of trimmed
  characters-here =
      let n : end_of text at - at ≡ length (first_line (lines_of (drop at text))) = omega arith in
      rw (n, ← first-take (drop at text)) (same (eqb (get_or (first_line (lines_of (drop at text))) (length (first_line (lines_of (drop at text))) - 1) 0) 0x0D))
    where
      same : (b : Bool)
          → cond b (take (length (first_line (lines_of (drop at text))) - 1) (first_line (lines_of (drop at text)))) (first_line (lines_of (drop at text)))
          ≡ trim_by b (first_line (lines_of (drop at text)))
      same true = refl
      same false = refl

  -- And the lines after it.
  pub lines-here : lines_of (drop at text) ≡ first_line (lines_of (drop at text)) ∷ lines_of (drop (end_of text at + 1) text)
  lines-here =
      let m = rest-length in
      let e : at + suc (length (first_line (lines_of (drop at text)))) ≡ end_of text at + 1 = omega arith in
      lines_cons (drop at text) (omega arith) ∙ rw (drop-drop, e)

-- Behind a line that is not the last another one starts.
pub starts-next : (text : List ℕ) (p e : ℕ) → LineAt text p e → e + 1 < length text → StartsLine text (e + 1)
starts-next text p e x h = go x.ends
  where
    go : Ends text e → StartsLine text (e + 1)
    go (inl z) = absurd (omega arith)
    go (inr z) = let k : e + 1 - 1 ≡ e = omega arith in inr (omega arith, rw k z.1)
