-- Laws of wires, of their marks and of times, for the proofs here and for callers. Assumes nothing.
use Prim.Native.Nat.{ℕ, suc, ◌+◌, ◌-◌, ◌*◌, ◌^◌, ◌/◌, ◌%◌, ◌≤◌, ◌<◌, min}
use mathlib.Core.Bool.{Bool, true, false}
use mathlib.Core.List.{List, [], ◌∷◌}
use mathlib.Core.Path.{◌≡◌, refl, ap, sym, ◌∙◌}
use mathlib.Core.Logic.{◌⊎◌, inl, inr}
use native.Mathlib.Nat.{min-le_right, min-eq_left, min-eq_right, one-le-pow, le-mul_of_pos_right}
use native.Mathlib.Numerals.{add-one}
use native.Mathlib.Omega.{arith}
use lib.Dec.{leb, ltb}
use lib.ListN.{length, get_or, drop}
use borrow.Author.Tests.{leb-true, ltb-true, ltb-false, lt-ltb}
use Rattle.std.specs.Prelude.{Option, None, Some}
use Rattle.std.specs.Bool.{then_some}
use Rattle.std.specs.Option.{SomeIff}
use Rattle.ground.specs.Cases.{odd}
use Rattle.ground.proofs.Tests.{and_split}
use Rattle.digits.specs.Digits.{within}
use Rattle.tokens.specs.Tokens.{same_word}
use Rattle.words.specs.Words.{decimal_base, figure_by, figure_of, all_figures, numeral, figures_value}
use Rattle.words.proofs.WordLaws.{within_low, digit-figure, digit-fails, digit-holds, digits-end, comes_to, value-start, value-turn, value-end, numeral-some}
use Rattle.wires.specs.Wires.{Var, weight_of, bit_by, laid, marked, marks_by, marks_of}
use Rattle.wires.specs.Times.{no_time, time_by, time_of, digit_by, with_digit}

-- A bit is 0 or 1 if the value is.
pub bit-small : (b : Bool) (value old : ℕ) → value ≤ 1 → bit_by b value old ≤ 1
bit-small true value old h = h
bit-small false value old h = omega arith

-- So four of them are a level byte.
pub laid-small : (value marks old : ℕ) → value ≤ 1 → laid value marks old ≤ 15
unfolding laid
laid-small value marks old h =
    let a = bit-small (odd marks) value old h in
    let b = bit-small (odd (marks / 2)) value (old / 2) h in
    let c = bit-small (odd (marks / 4)) value (old / 4) h in
    let d = bit-small (odd (marks / 8)) value (old / 8) h in
    omega arith

pub marked-small : (marks wire : ℕ) → marked marks wire ≤ 31
marked-small marks wire = omega (arith, laid-small 1 wire marks (omega arith))

-- The marks of a code and the weights of the wanted wires, whatever is declared.
marks-by : (b : Bool) (wire marks : ℕ) → marks ≤ 31 → marks_by b wire marks ≤ 31
marks-by true wire marks h = marked-small marks wire
marks-by false wire marks h = h

pub marks-small : (vs : List Var) (code : List ℕ) → marks_of vs code ≤ 31
marks-small [] code = omega arith
marks-small (v ∷ vs) code = marks-by (same_word code v.code) (weight_of v.name) (marks_of vs code) (marks-small vs code)

-- A decimal digit lies within two characters; its lower four bits are its value, which is below ten.
module _ (c : ℕ) where
  module _ (e : within 0x30 0x39 c ≡ true) where
    pub figure-low : c % 16 ≡ figure_of c
    figure-low =
        let h = within_low 0x30 0x39 c e in
        let k = leb-true c 0x39 (and_split (leb 0x30 c) (leb c 0x39) e).1 in
        let f = digit-figure c e in
        omega arith

    pub figure-decimal : figure_of c < decimal_base
    figure-decimal =
        let k = leb-true c 0x39 (and_split (leb 0x30 c) (leb c 0x39) e).1 in
        let f = digit-figure c e in
        omega arith

  -- Any other character's value is not.
  other-by : (upper lower : Bool) → decimal_base ≤ figure_by false upper lower c
  other-by true lower = omega arith
  other-by false true = omega arith
  other-by false false = omega arith

  pub figure-other : within 0x30 0x39 c ≡ false → decimal_base ≤ figure_of c
  unfolding figure_of
  figure-other e = rw e (other-by (within 0x41 0x46 c) (within 0x61 0x66 c))

-- A time by whether its characters are a number.
module _ (ds : List ℕ) where
  pub time-none : numeral decimal_base ds ≡ false → no_time ≡ time_of ds
  unfolding time_of
  time-none e = rw e

  pub time-whole : {r : ℕ} → numeral decimal_base ds ≡ true → r ≡ min (figures_value decimal_base ds) no_time → r ≡ time_of ds
  unfolding time_of
  time-whole e f = rw e f

-- No time is more than what stands for none.
time-by : (b : Bool) (n : ℕ) → time_by b n ≤ no_time
time-by true n = min-le_right n no_time
time-by false n = omega arith

pub time-small : (ds : List ℕ) → time_of ds ≤ no_time
unfolding time_of
time-small ds = time-by (numeral decimal_base ds) (figures_value decimal_base ds)

-- One turn over a time's characters: one that is no digit is found, or a digit joins those so far.
module _ (ds : List ℕ) (i : ℕ) {b : Bool} (h : i < length ds) (e : b ≡ within 0x30 0x39 (get_or ds i 0)) where
  module _ (left : all_figures decimal_base (drop i ds) ≡ numeral decimal_base ds) where
    pub time-other : b ≡ false → no_time ≡ time_of ds
    time-other k = time-none ds (sym left ∙ sym (digit-fails decimal_base ds i h refl (figure-other (get_or ds i 0) (sym e ∙ k))))

    pub time-goes : b ≡ true → all_figures decimal_base (drop (suc i) ds) ≡ numeral decimal_base ds
    time-goes k = digit-holds decimal_base ds i h refl (figure-decimal (get_or ds i 0) (sym e ∙ k)) ∙ left

-- A number with a digit behind it is made if it is a time.
made : (r : Option ℕ) (v : ℕ) → SomeIff r (v < no_time) v → r ≡ then_some (ltb v no_time) v
made (Some x) v s = rw (lt-ltb v no_time s.0) (ap Some s.1)
made None v s = by (ltb v no_time) refl
  where
    by : (t : Bool) → ltb v no_time ≡ t → None ≡ then_some t v
    by true f = absurd (s (ltb-true v no_time f))
    by false f = refl

pub digit-made : (so_far c v : ℕ) (r : Option ℕ) → true ≡ within 0x30 0x39 c → v ≡ so_far * 10 + (c - 0x30)
    → SomeIff r (v < no_time) v → r ≡ with_digit so_far c
digit-made so_far c v r w e s = made r v s ∙ rw (← w, e, digit-figure c (sym w))

-- Which digit was behind it.
module _ (n c : ℕ) where
  digit-by : (b : Bool) (v x : ℕ) → Some x ≡ digit_by b v → (b ≡ true) × (x ≡ v) × (x < no_time)
  digit-by true v x e = by (ltb v no_time) refl e
    where
      by : (t : Bool) → ltb v no_time ≡ t → Some x ≡ then_some t v → (true ≡ true) × (x ≡ v) × (x < no_time)
      by true f e = let same : x ≡ v = cc in (refl, same, let k = ltb-true v no_time f in omega arith)
      by false f e = absurd (let z : ◌≡◌ {A = ℕ} 0 1 = cc in omega arith)
  digit-by false v x e = absurd (let z : ◌≡◌ {A = ℕ} 0 1 = cc in omega arith)

  pub digit-was : (x : ℕ) → Some x ≡ with_digit n c
      → (within 0x30 0x39 c ≡ true) × (x ≡ n * decimal_base + figure_of c) × (x < no_time)
  digit-was x e = digit-by (within 0x30 0x39 c) (n * decimal_base + figure_of c) x e

  none-by : (b : Bool) (v : ℕ) → None ≡ digit_by b v → (b ≡ false) ⊎ ((b ≡ true) × (no_time ≤ v))
  none-by true v e = by (ltb v no_time) refl e
    where
      by : (t : Bool) → ltb v no_time ≡ t → None ≡ then_some t v → (true ≡ false) ⊎ ((true ≡ true) × (no_time ≤ v))
      by true f e = absurd (let z : ◌≡◌ {A = ℕ} 0 1 = cc in omega arith)
      by false f e = inr (refl, ltb-false v no_time f)
  none-by false v e = inl refl

  pub digit-none_was : None ≡ with_digit n c
      → (within 0x30 0x39 c ≡ false) ⊎ ((within 0x30 0x39 c ≡ true) × (no_time ≤ n * decimal_base + figure_of c))
  digit-none_was e = none-by (within 0x30 0x39 c) (n * decimal_base + figure_of c) e

-- Digits so far that are no time are none with those that are left.
module _ (ds : List ℕ) (i : ℕ) (h : i < length ds) (n : ℕ)
    (come : min (comes_to decimal_base n (drop i ds)) no_time ≡ min (figures_value decimal_base ds) no_time) where
  over-by : (b : Bool) → min (figures_value decimal_base ds) no_time ≡ no_time → time_by b (figures_value decimal_base ds) ≡ no_time
  over-by true e = e
  over-by false e = refl

  pub time-over : no_time ≤ n * decimal_base + figure_of (get_or ds i 0) → time_of ds ≡ no_time
  unfolding time_of
  time-over k =
      let left = drop (suc i) ds in
      let turn = value-turn decimal_base no_time n i ds h (sym (min-eq_right k)) in
      let power : 0 < decimal_base ^ length left = one-le-pow (length left) decimal_base (omega arith) in
      let more : no_time ≤ no_time * decimal_base ^ length left = le-mul_of_pos_right no_time power in
      let all : no_time ≤ comes_to decimal_base no_time left = omega arith in
      over-by (numeral decimal_base ds) (sym come ∙ sym turn ∙ min-eq_right all)

-- One turn: the digits so far stay what they come to, and those that are left stay the same digits.
pub record Counts (ds : List ℕ) (i n : ℕ) : Type 0 where
  pub small : n < no_time
  pub come : min (comes_to decimal_base n (drop i ds)) no_time ≡ min (figures_value decimal_base ds) no_time
  pub left : all_figures decimal_base (drop i ds) ≡ numeral decimal_base ds

pub counts-start : (ds : List ℕ) → (length ds ≡ 0 → ⊥) → Counts ds 0 0
counts-start ds h = record { small = omega arith; come = value-start decimal_base no_time ds; left = numeral-some decimal_base ds h }

module _ (ds : List ℕ) (i n : ℕ) (h : i < length ds) (k : Counts ds i n) where
  pub counts-turn : (x : ℕ) → Some x ≡ with_digit n (get_or ds i 0) → Counts ds (i + 1) x
  counts-turn x e =
      let w = digit-was n (get_or ds i 0) x e in
      record {
        small = w.2;
        come =
            rw (add-one i)
            (value-turn decimal_base no_time n i ds h (w.1 ∙ sym (min-eq_left (omega (arith, w.1, w.2)))) ∙ k.come);
        left = rw (add-one i) (time-goes ds i h (sym w.0) k.left refl);
      }

  pub counts-none : None ≡ with_digit n (get_or ds i 0) → time_of ds ≡ no_time
  counts-none e =
      elim (digit-none_was n (get_or ds i 0) e) [
        | inl f ↦ sym (time-other ds i h (sym f) k.left refl)
        | inr f ↦ time-over ds i h n k.come f.1
      ]

pub counts-end : (ds : List ℕ) (n i : ℕ) → length ds ≤ i → Counts ds i n → (n ≡ time_of ds) × (n < no_time)
counts-end ds n i h k =
    let small = k.small in
    let whole = value-end decimal_base no_time n i ds h (omega arith) k.come in
    (time-whole ds (sym (digits-end decimal_base ds i h ∙ k.left)) whole, small)
