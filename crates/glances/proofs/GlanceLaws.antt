-- Laws of tokens seen at a glance. Assumes nothing.
use Rattle.std.proofs.Common.{◌≡◌, ℕ, zero, suc, ◌+◌, ◌-◌, ◌*◌, ◌/◌, ◌^◌, ◌<◌, ◌≤◌, min, Bool, true, false, ◌&&◌, eqb, ltb, List, [], ◌∷◌, length, get_or, take, drop, sym, refl, ap, ◌∙◌, mul_assoc, pow-suc, add-one, arith, length-drop, length-take-le, get_or-drop, drop-cons, lt-ltb, eq-eqb, ne_eqb, le-leb}
use native.Mathlib.Nat.{min-eq_left, pow-le-pow_right}
use borrow.Author.Tests.{eqb-false}
use Rattle.codes.specs.Codes.{hash}
use Rattle.digits.specs.Digits.{within}
use Rattle.lines.specs.Lines.{line_feed}
use Rattle.tokens.specs.Tokens.{blank, line_by}
use Rattle.tokens.specs.Parts.{solid, FindsWord}
use Rattle.tokens.proofs.TokenLaws.{blank-above, goes-here, pass-turn, word-turn, finds-word}
use Rattle.words.specs.Words.{decimal_base, figure_of, all_figures, numeral, figures_value}
use Rattle.words.proofs.WordLaws.{digit-figure, numeral-some}
use Rattle.wires.specs.Wires.{marks_of}
use Rattle.wires.specs.Times.{highest_time, no_time, time_of}
use Rattle.wires.specs.Values.{is_value}
use Rattle.wires.proofs.WireLaws.{figure-decimal, time-whole}
use Rattle.sections.specs.declared.Place.TheVariants.{Between}
use Rattle.sections.specs.Sections.{Says, times, puts}
use Rattle.dumps.specs.Reading.{says_of}
use Rattle.dumps.specs.Defined.{vars_of, body_at}
use Rattle.headings.specs.Parts.{Tabled}
use Rattle.tokens.specs.declared.Past.{Past}
use Rattle.std.specs.Prelude.{Some}
use Rattle.glances.specs.Parts.{Sees, SeesMarks, SeesTime, Skims}

-- A blank is passed.
pub skims-blank : (dump : List ℕ) (at line on : ℕ) → at < length dump → line ≤ at → blank (get_or dump at 0) ≡ true
    → on ≡ line_by (eqb (get_or dump at 0) line_feed) line → on ≤ line + 1
    → Skims dump at line (record { at = at + 1; line = on })
skims-blank dump at line on h k b e m =
    record { from = omega arith; near = omega arith; small = omega arith; left = pass-turn dump at line on h (sym b) refl e }

-- What is seen past a blank is seen from before it.
pub sees-past : (dump : List ℕ) (at line : ℕ) (p : Past) (to on : ℕ) (s : Says) → Skims dump at line p
    → Sees dump p.at p.line to on s → Sees dump at line to on s
sees-past dump at line p to on s k h =
    let w = h.word in
    let a = k.from in
    let b = w.after in
    record {
      from = h.from;
      word = record { after = omega arith; some = w.some; inside = w.inside; small = w.small; left = k.left ∙ w.left };
      said = h.said;
    }

-- A token that begins here, up to a blank.
word-here : (dump : List ℕ) (from line to : ℕ) → from < to → to < length dump → line ≤ from → blank (get_or dump from 0) ≡ false
    → solid (take (to - from) (drop from dump)) ≡ true → blank (get_or dump to 0) ≡ true → FindsWord dump from line from to line
word-here dump from line to some inside small b s e =
    finds-word dump from line (record { at = from; line = line })
    (record { from = omega arith; inside = omega arith; small = small; left = refl; stops = λ h. goes-here dump from h (sym b) })
    to (omega arith)
    (record { from = omega arith; inside = omega arith; word = s; stops = goes-here dump to inside (sym e) })

-- What a time and a value say.
time-said : (dump ds : List ℕ) (c t : ℕ) → c ≡ hash → t ≤ highest_time → t ≡ time_of ds
    → says_of (body_at dump Between true) (c ∷ ds) ≡ times t
unfolding says_of
time-said dump ds c t h k e = rw (eq-eqb c hash h, ← e, le-leb t highest_time k)

value-by : (c : ℕ) (b : Bool) → eqb c 0x30 ≡ b → c / 2 ≡ 0x18 → is_value c ≡ true
unfolding is_value
value-by c true e h = rw e
value-by c false e h =
    let n : c ≡ 0x30 → ⊥ = eqb-false c 0x30 e in
    let k : c ≡ 0x31 = omega arith in
    rw (e, eq-eqb c 0x31 k)

value-said : (dump : List ℕ) (c code marks : ℕ) → c / 2 ≡ 0x18 → marks ≡ marks_of (vars_of dump) (code ∷ []) → 0 < marks
    → says_of (body_at dump Between true) (c ∷ code ∷ []) ≡ puts c marks
unfolding says_of
value-said dump c code marks h e k =
    rw (ne_eqb c hash (λ (q : c ≡ hash). omega arith), value-by c (eqb c 0x30) refl h, ← e, lt-ltb 0 marks k)

-- A value of two characters with a blank behind it.
pub sees-value : (dump table : List ℕ) (from line : ℕ) {b : Bool} → Tabled (vars_of dump) table → from + 12 ≤ length dump → line ≤ from
    → get_or dump from 0 / 2 ≡ 0x18 → 0x20 < get_or dump (from + 1) 0 → get_or dump (from + 1) 0 < 256
    → b ≡ blank (get_or dump (from + 2) 0) → b ≡ true → 0 < get_or table (get_or dump (from + 1) 0) 0
    → Sees dump from line (from + 2) line (puts (get_or dump from 0) (get_or table (get_or dump (from + 1) 0) 0))
sees-value dump table from line t inside small h above byte e f some =
    let c = get_or dump from 0 in
    let code = get_or dump (suc from) 0 in
    let j : from + 1 ≡ suc from = omega arith in
    let n : from + 2 - from ≡ 2 = omega arith in
    let u : blank c ≡ false = sym (blank-above c (omega arith)) in
    let v : blank code ≡ false = sym (blank-above code (rw j at above)) in
    let w : take (from + 2 - from) (drop from dump) ≡ c ∷ code ∷ [] =
    rw (n, drop-cons dump from 0 (omega arith), drop-cons dump (suc from) 0 (omega arith)) in
    record {
      from = from;
      word = word-here dump from line (from + 2) (omega arith) (omega arith) small u (rw (w, u, v)) (sym e ∙ f);
      said = rw (w, j) (value-said dump c code (get_or table code 0) h (t.entry code (rw j at byte)) (rw j at some));
    }

-- A number with one more digit behind it.
figures-more : (xs : List ℕ) (k : ℕ) → k < length xs
    → figures_value decimal_base (take (suc k) xs) ≡ figures_value decimal_base (take k xs) * decimal_base + figure_of (get_or xs k 0)
figures-more [] k h = absurd (omega arith)
figures-more (c ∷ cs) zero h = omega arith
figures-more (c ∷ cs) (suc k) h =
    let i = figures-more cs k (omega arith) in
    let m : length (take (suc k) cs) ≡ suc k = length-take-le (suc k) cs (omega arith) in
    let n : length (take k cs) ≡ k = length-take-le k cs (omega arith) in
    rw (m, n, pow-suc decimal_base k, ← mul_assoc (figure_of c) (decimal_base ^ k) decimal_base, i) (omega arith)

more_by : (b x y : Bool) → b && x ≡ true → (x ≡ true → y ≡ true) → b && y ≡ true
more_by true x y e f = f e
more_by false x y e f = e

digits_more : (xs : List ℕ) (k : ℕ) → k < length xs → figure_of (get_or xs k 0) < decimal_base
    → all_figures decimal_base (take k xs) ≡ true → all_figures decimal_base (take (suc k) xs) ≡ true
digits_more [] k h d e = absurd (omega arith)
digits_more (c ∷ cs) zero h d e = rw (lt-ltb (figure_of c) decimal_base d)
digits_more (c ∷ cs) (suc k) h d e =
    more_by (ltb (figure_of c) decimal_base) _ _ e (λ f. digits_more cs k (omega arith) d f)

-- So many digits behind a hash, and their value, which fits a word.
pub record Reads (dump : List ℕ) (from value i : ℕ) : Type 0 where
  pub few : i ≤ 11
  pub low : value < decimal_base ^ i
  pub digits : all_figures decimal_base (take i (drop (suc from) dump)) ≡ true
  pub told : value ≡ figures_value decimal_base (take i (drop (suc from) dump))
  pub whole : solid (take (suc i) (drop from dump)) ≡ true

-- What so many digits come to at most.
pub power_small : (i : ℕ) → i ≤ 11 → decimal_base ^ i ≤ 100000000000
power_small i h = let z : 0 < decimal_base = omega arith in pow-le-pow_right z h

module _ (dump : List ℕ) (from : ℕ) (inside : from + 12 ≤ length dump) where
  pub reads_none : get_or dump from 0 ≡ hash → Reads dump from 0 0
  reads_none h =
      record { few = omega arith; low = omega arith; digits = refl; told = refl; whole = rw (drop-cons dump from 0 (omega arith), h) }

  module _ (value i : ℕ) (r : Reads dump from value i) (more : i < 11) where
    pub reads_more : (digit : ℕ) → get_or dump (from + 1 + i) 0 ≡ digit + 0x30 → digit ≤ 9 → Reads dump from (value * 10 + digit) (i + 1)
    reads_more digit e f =
        let c = get_or dump (from + 1 + i) 0 in
        let d : within 0x30 0x39 c ≡ true = rw (le-leb 0x30 c (omega arith), le-leb c 0x39 (omega arith)) in
        let j : from + 1 + i ≡ suc from + i = omega arith in
        let l : i < length (drop (suc from) dump) = simp length-drop (omega arith) in
        let g : get_or (drop (suc from) dump) i 0 ≡ c = get_or-drop (suc from) dump i 0 ∙ ap (λ (k : ℕ). get_or dump k 0) (sym j) in
        let same = digit-figure c d in
        let n : from + 1 + i - from ≡ suc i = omega arith in
        let m : from + 1 + i + 1 - from ≡ suc (suc i) = omega arith in
        let s = word-turn dump from (from + 1 + i) (omega arith) (omega arith) (blank-above c (omega arith)) refl (rw n r.whole) in
        let a = r.low in
        let told : figure_of c ≡ digit = omega arith in
        record {
          few = omega arith;
          low = rw (add-one i, pow-suc decimal_base i) (omega arith);
          digits = rw (add-one i) (digits_more (drop (suc from) dump) i l (rw g (figure-decimal c d)) r.digits);
          told = rw (add-one i, figures-more (drop (suc from) dump) i l, g, ← r.told, told);
          whole = rw (add-one i) (rw m at s);
        }

    -- A blank ends them.
    pub sees-time : (line : ℕ) {b : Bool} → line ≤ from → get_or dump from 0 ≡ hash → b ≡ blank (get_or dump (from + 1 + i) 0) → b ≡ true → 0 < i
        → value < no_time → Sees dump from line (from + 1 + i) line (times value)
    sees-time line small h e f some fits =
        let ds = take i (drop (suc from) dump) in
        let n : from + 1 + i - from ≡ suc i = omega arith in
        let w : take (from + 1 + i - from) (drop from dump) ≡ get_or dump from 0 ∷ ds = rw (n, drop-cons dump from 0 (omega arith)) in
        let u : blank (get_or dump from 0) ≡ false = rw h in
        let l : length ds ≡ i = length-take-le i (drop (suc from) dump) (simp length-drop (omega arith)) in
        let k : numeral decimal_base ds ≡ true = sym (numeral-some decimal_base ds (λ z. omega arith)) ∙ r.digits in
        let v : value ≤ no_time = omega arith in
        let t : value ≡ time_of ds = time-whole ds k (sym (min-eq_left v) ∙ ap (λ (x : ℕ). min x no_time) r.told) in
        record {
          from = from;
          word = word-here dump from line (from + 1 + i) (omega arith) (omega arith) small u (rw n r.whole) (sym e ∙ f);
          said = rw w (time-said dump ds (get_or dump from 0) value h (omega arith) t);
        }

    pub time-seen : {b : Bool} → get_or dump from 0 ≡ hash → b ≡ blank (get_or dump (from + 1 + i) 0) → b ≡ true → 0 < i → value < no_time
        → SeesTime dump from (Some (record { time = value; length = i + 1 }))
    time-seen h e f some fits =
        let m : from + (i + 1) ≡ from + 1 + i = omega arith in
        λ line small. rw m (sees-time line small h e f some fits)

-- Nothing is said by marks of 0.
pub marks-unseen : (dump : List ℕ) (from : ℕ) → SeesMarks dump from 0
marks-unseen dump from = record { seen = λ z. absurd (omega arith) }
