-- Laws of a text's lines that several proofs cite. Assumes nothing.
use Prim.Native.Nat.{ℕ, zero, suc, ◌+◌, ◌-◌, ◌<◌, ◌≤◌}
use mathlib.Core.Bool.{Bool, true, false, ◌||◌, or_assoc, or-false}
use mathlib.Core.List.{List, [], ◌∷◌, ◌++◌}
use mathlib.Core.Path.{◌≡◌, refl, ap, sym, ◌∙◌}
use native.Mathlib.Omega.{arith}
use lib.Dec.{eqb}
use Rattle.std.specs.Prelude.{cond, not}
use Rattle.std.specs.List.{fold, prefix_len}
use lib.ListN.{length, get_or, take, drop, length-append, length-drop, drop_of_length-le}
use lib.Seq.{drop-cons, drop-drop, get_or-take, get_or-drop, length-take-le, take-append-le, take-length, take_all, drop_at}
use borrow.Author.Tests.{eq-eqb, ne_eqb}
use Rattle.lines.specs.Lines.{line_feed, carriage_return, join_by, lines_of, first_line, trim_by, trimmed, line_step_of, line_at, no_line}
use Rattle.lines.specs.Parts.{feed_in, Skips}
use Rattle.ground.proofs.Tests.{or_split}

-- A character that ends no line stands at the start of the first line.
first-join : (c : ℕ) (ls : List (List ℕ)) → first_line (join_by false c ls) ≡ c ∷ first_line ls
first-join c [] = refl
first-join c (l ∷ ls) = refl

-- The first line stands at the start of the text.
take_by : (b : Bool) (c : ℕ) (cs : List ℕ) (ls : List (List ℕ)) → first_line ls ≡ take (length (first_line ls)) cs
    → first_line (join_by b c ls) ≡ take (length (first_line (join_by b c ls))) (c ∷ cs)
take_by true c cs ls h = refl
take_by false c cs ls h = rw (first-join c ls) (ap (λ (l : List ℕ). c ∷ l) h)

pub first-take : (xs : List ℕ) → first_line (lines_of xs) ≡ take (length (first_line (lines_of xs))) xs
first-take [] = refl
first-take (c ∷ cs) = take_by (eqb c line_feed) c cs (lines_of cs) (first-take cs)

-- So it is no longer than the text.
length-by : (b : Bool) (c : ℕ) (ls : List (List ℕ)) (n : ℕ) → length (first_line ls) ≤ n
    → length (first_line (join_by b c ls)) ≤ suc n
length-by true c ls n h = omega arith
length-by false c ls n h = rw (first-join c ls) (omega arith)

pub first-length : (xs : List ℕ) → length (first_line (lines_of xs)) ≤ length xs
first-length [] = omega arith
first-length (c ∷ cs) = length-by (eqb c line_feed) c (lines_of cs) (length cs) (first-length cs)

-- A text's lines are its first line and the lines of what follows the first line's line feed.
alone-by : (b : Bool) (c : ℕ)
    → join_by b c [] ≡ first_line (join_by b c []) ∷ lines_of (drop (suc (length (first_line (join_by b c [])))) (c ∷ []))
alone-by true c = refl
alone-by false c = refl

cons-by : (b : Bool) (c : ℕ) (cs l : List ℕ) → lines_of cs ≡ l ∷ lines_of (drop (suc (length l)) cs)
    → join_by b c (lines_of cs)
    ≡ first_line (join_by b c (lines_of cs)) ∷ lines_of (drop (suc (length (first_line (join_by b c (lines_of cs))))) (c ∷ cs))
cons-by true c cs l e = refl
cons-by false c cs l e = rw e

pub lines_cons : (xs : List ℕ) → 0 < length xs
    → lines_of xs ≡ first_line (lines_of xs) ∷ lines_of (drop (suc (length (first_line (lines_of xs)))) xs)
lines_cons [] h = absurd (omega arith)
lines_cons (c ∷ []) h = alone-by (eqb c line_feed) c
lines_cons (c ∷ d ∷ cs) h =
    cons-by (eqb c line_feed) c (d ∷ cs) (first_line (lines_of (d ∷ cs))) (lines_cons (d ∷ cs) (omega arith))

-- No line is left exactly where no character is.
pub lines_none : (xs : List ℕ) → length xs ≡ 0 → lines_of xs ≡ []
lines_none [] h = refl
lines_none (c ∷ cs) h = absurd (omega arith)

pub lines-nil : (xs : List ℕ) → lines_of xs ≡ [] → length xs ≡ 0
lines-nil [] e = refl
lines-nil (c ∷ cs) e =
    let f = lines_cons (c ∷ cs) (omega arith) in
    let z : ◌≡◌ {A = ℕ} 0 1 = cc in
    absurd (omega arith)

-- No character of the text ends a line.
abbrev pub Plain : List ℕ → Type 0
Plain [] = Unit {0}
Plain (c ∷ cs) = (c ≡ line_feed → ⊥) × Plain cs

-- Such a text and a line feed are one line.
pub line-ends : (l rest : List ℕ) → Plain l → lines_of (l ++ (line_feed ∷ rest)) ≡ l ∷ lines_of rest
line-ends [] rest h = refl
line-ends (c ∷ l) rest h = rw (ne_eqb c line_feed h.0, line-ends l rest h.1)

-- A line feed at an index ends the line there; any other character is the line's next.
pub first_ends : (xs : List ℕ) (i : ℕ) → i < length xs → get_or xs i 0 ≡ line_feed → first_line (lines_of (drop i xs)) ≡ []
first_ends xs i h e = rw (drop-cons xs i 0 h, eq-eqb (get_or xs i 0) line_feed e)

pub first-turn : (xs : List ℕ) (i : ℕ) → i < length xs → (get_or xs i 0 ≡ line_feed → ⊥)
    → length (first_line (lines_of (drop i xs))) ≡ suc (length (first_line (lines_of (drop (suc i) xs))))
first-turn xs i h e =
    rw (drop-cons xs i 0 h, ne_eqb (get_or xs i 0) line_feed e, first-join (get_or xs i 0) (lines_of (drop (suc i) xs)))

pub first-none : (xs : List ℕ) (i : ℕ) → length xs ≤ i → first_line (lines_of (drop i xs)) ≡ []
first-none xs i h = rw (drop_of_length-le xs h)

-- Characters without a line feed belong to the first line.
first_past : (k : ℕ) (xs : List ℕ) → k ≤ length xs → feed_in (take k xs) ≡ false
    → length (first_line (lines_of xs)) ≡ k + length (first_line (lines_of (drop k xs)))
first_past zero xs h e = omega arith
first_past (suc k) [] h e = absurd (omega arith)
first_past (suc k) (c ∷ cs) h e =
    let t = or_split (eqb c line_feed) (feed_in (take k cs)) e in
    let n = first_past k cs (omega arith) t.1 in
    rw (t.0, first-join c (lines_of cs)) (omega arith)

-- So a line ends where it does from behind them.
pub skip_part : (text part rest : List ℕ) (at i k : ℕ) {r : Bool} → part ++ rest ≡ drop i text → i ≤ length text → k ≤ length part
    → r ≡ feed_in (take k part) → r ≡ false → Skips text at i → Skips text at (i + k)
skip_part text part rest at i k d h m e f s =
    let l : length part + length rest ≡ length text - i = rw (← (length-append part rest), d) (length-drop i text) in
    let t : take k (drop i text) ≡ take k part = rw (← d) (take-append-le k part rest m) in
    let n = first_past k (drop i text) (simp length-drop (omega arith)) (ap feed_in t ∙ (sym e ∙ f)) in
    record { inside = omega arith; ends = s.ends ∙ (let p = rw drop-drop at n in omega arith) }

-- The same of a whole window, and what is left behind it.
pub window_more : (text window rest : List ℕ) (at i : ℕ) {r : Bool} → window ++ rest ≡ drop i text → length window ≡ 16
    → r ≡ feed_in window → r ≡ false → Skips text at i → Skips text at (i + 16)
window_more text window rest at i d n e f s =
    skip_part text window rest at i 16 d s.inside (omega arith) (e ∙ ap feed_in (sym (take_all 16 window (omega arith)))) f s

pub window_left : (text window rest : List ℕ) (i : ℕ) → window ++ rest ≡ drop i text → length window ≡ 16 → rest ≡ drop (i + 16) text
window_left text window rest i d n =
    sym (drop_at window rest 16 n) ∙ (ap (λ (l : List ℕ). drop 16 l) d ∙ drop-drop 16 i text)

-- What is trimmed is the line, or all of it but its last character.
pub trim-none : (l : List ℕ) → (get_or l (length l - 1) 0 ≡ carriage_return → ⊥) → trimmed l ≡ l
unfolding trimmed
trim-none l h = rw (ne_eqb (get_or l (length l - 1) 0) carriage_return h)

pub trim-one : (l : List ℕ) → get_or l (length l - 1) 0 ≡ carriage_return → trimmed l ≡ take (length l - 1) l
unfolding trimmed
trim-one l h = rw (eq-eqb (get_or l (length l - 1) 0) carriage_return h)

part_by : (b : Bool) (l : List ℕ)
    → (trim_by b l ≡ take (length (trim_by b l)) l) × (length (trim_by b l) ≤ length l)
part_by true l =
    let n : length (take (length l - 1) l) ≡ length l - 1 = length-take-le (length l - 1) l (omega arith) in
    (rw n, rw n (omega arith))
part_by false l = (sym (take-length l), omega arith)

pub trim-take : (l : List ℕ) → trimmed l ≡ take (length (trimmed l)) l
unfolding trimmed
trim-take l = (part_by (eqb (get_or l (length l - 1) 0) carriage_return) l).0

pub trim-length : (l : List ℕ) → length (trimmed l) ≤ length l
unfolding trimmed
trim-length l = (part_by (eqb (get_or l (length l - 1) 0) carriage_return) l).1

-- A line as a part of the text.
module _ (text : List ℕ) (at feed : ℕ) (h : at ≤ feed) (k : feed ≤ length text) where
  line-length : length (take (feed - at) (drop at text)) ≡ feed - at
  line-length = length-take-le (feed - at) (drop at text) (simp length-drop (omega arith))

  line-last : at < feed
      → get_or (take (feed - at) (drop at text)) (length (take (feed - at) (drop at text)) - 1) 0 ≡ get_or text (feed - 1) 0
  line-last p =
      let q : feed - at - 1 < feed - at = omega arith in
      let e : at + (feed - at - 1) ≡ feed - 1 = omega arith in
      rw (line-length, get_or-take (feed - at) (drop at text) (feed - at - 1) 0 q, get_or-drop, e)

  -- It ends before its carriage return, or where it ended.
  pub trim-at : at < feed → get_or text (feed - 1) 0 ≡ carriage_return
      → feed - 1 ≡ at + length (trimmed (take (feed - at) (drop at text)))
  trim-at p e =
      let l = take (feed - at) (drop at text) in
      let m : length l - 1 ≤ length l = omega arith in
      rw (trim-one l (line-last p ∙ e), length-take-le (length l - 1) l m, line-length) (omega arith)

  pub trim-kept : at < feed → (get_or text (feed - 1) 0 ≡ carriage_return → ⊥)
      → feed ≡ at + length (trimmed (take (feed - at) (drop at text)))
  trim-kept p e =
      rw (trim-none (take (feed - at) (drop at text)) (λ x. e (sym (line-last p) ∙ x)), line-length) (omega arith)

pub trim-empty : (text : List ℕ) (at feed : ℕ) → at ≡ feed → feed ≡ at + length (trimmed (take (feed - at) (drop at text)))
trim-empty text at feed e =
    let z : feed - at ≡ 0 = omega arith in
    rw (z, trim-none [] (λ x. omega arith)) (omega arith)

-- The line that starts at an index ends within the text.
pub line-fits : (text : List ℕ) (at : ℕ) → at ≤ length text → at + length (first_line (lines_of (drop at text))) ≤ length text
line-fits text at h =
    let k : length (first_line (lines_of (drop at text))) ≤ length text - at = rw length-drop at (first-length (drop at text)) in
    omega arith

-- The first line that is left, as the code finds it, is what the step says; or that none is left.
pub step_line : (text : List ℕ) (at feed trim : ℕ) → at < length text
    → feed ≡ at + length (first_line (lines_of (drop at text)))
    → trim ≡ at + length (trimmed (take (feed - at) (drop at text)))
    → line_at trim feed ≡ line_step_of at (lines_of (drop at text))
unfolding line_step_of
step_line text at feed trim h e t =
    let n : feed - at ≡ length (first_line (lines_of (drop at text))) = omega arith in
    let f = rw (n, ← first-take (drop at text)) at t in
    rw (lines_cons (drop at text) (simp length-drop (omega arith)), f, e)

pub step_end : (text : List ℕ) (at : ℕ) → length text ≤ at → no_line ≡ line_step_of at (lines_of (drop at text))
unfolding line_step_of
step_end text at h = rw (drop_of_length-le text h)

-- The search for a line feed, from what was found before on.
fold-feed : (xs : List ℕ) (any : Bool) → fold (λ b c. b || eqb c line_feed) any xs ≡ (any || feed_in xs)
fold-feed [] any = sym (or-false any)
fold-feed (c ∷ cs) any = fold-feed cs (any || eqb c line_feed) ∙ or_assoc any (eqb c line_feed) (feed_in cs)

pub feed_found : (r : Bool) (xs : List ℕ) → r ≡ fold (λ any c. any || eqb c line_feed) false xs → r ≡ feed_in xs
feed_found r xs e = e ∙ fold-feed xs false

-- The first line is what stands before the first line feed.
prefix-by : (b : Bool) (c n : ℕ) (ls : List (List ℕ)) → n ≡ length (first_line ls)
    → cond (not b) (1 + n) 0 ≡ length (first_line (join_by b c ls))
prefix-by true c n ls h = refl
prefix-by false c n ls h = rw (first-join c ls, h) (omega arith)

first-prefix : (xs : List ℕ) → prefix_len (λ c. not (eqb c line_feed)) xs ≡ length (first_line (lines_of xs))
first-prefix [] = refl
first-prefix (c ∷ cs) = prefix-by (eqb c line_feed) c _ (lines_of cs) (first-prefix cs)

pub first_left : (text : List ℕ) (from r : ℕ) → r ≡ prefix_len (λ c. not (eqb c line_feed)) (take (length text - from) (drop from text))
    → (r ≡ length (first_line (lines_of (drop from text)))) × (r ≤ length text - from)
first_left text from r e =
    let left = drop from text in
    let n = length-drop from text in
    let w : take (length text - from) left ≡ left = rw (← n) (take-length left) in
    let h : r ≡ length (first_line (lines_of left)) = (rw w at e) ∙ first-prefix left in
    (h, omega (arith, first-length left))
