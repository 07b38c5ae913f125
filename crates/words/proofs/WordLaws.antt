-- Laws of number words that the proofs cite. Assumes nothing.
use Prim.Native.Nat.{ℕ, zero, suc, ◌+◌, ◌*◌, ◌-◌, ◌^◌, ◌<◌, ◌≤◌, min}
use mathlib.Core.Bool.{Bool, true, false}
use mathlib.Core.List.{List, [], ◌∷◌}
use mathlib.Core.Path.{◌≡◌, refl, ap, sym, ◌∙◌}
use native.Mathlib.Omega.{arith}
use native.Mathlib.Nat.{add-zero, zero-add, mul-zero, zero-mul, mul-one, add-mul, mul_assoc, mul_comm, pow-zero, pow-suc, le-mul_of_pos_right, min-eq_left, min-eq_right, min-le_right}
use Rattle.std.specs.List.{fold, list_all}
use lib.Dec.{leb, ltb}
use lib.ListN.{length, get_or, take, drop, drop_of_length-le}
use lib.Seq.{drop-cons, take_all}
use borrow.Author.Tests.{leb-true, leb-false, lt-ltb, le-ltb, eq-eqb, ne_eqb}
use Rattle.ground.proofs.Tests.{and_split}
use Rattle.digits.specs.Digits.{base, within}
use Rattle.words.specs.Words.{decimal_base, figure_of, all_figures, numeral, figures_value, after_mark, is_number, counts_by, counts_as}

-- A character within two others is not below the first.
pub within_low : (low high c : ℕ) → within low high c ≡ true → low ≤ c
within_low low high c e = leb-true low c (and_split (leb low c) (leb c high) e).0

-- A character by where it lies.
module _ (c : ℕ) where
  pub digit-figure : within 0x30 0x39 c ≡ true → c - 0x30 ≡ figure_of c
  unfolding figure_of
  digit-figure e = rw e

-- A number that is cut to the largest value before it is counted on is that of the whole cut at the end.
pub cut-once : (n power rest most : ℕ) → min (min n most * power + rest) most ≡ min (n * power + rest) most
cut-once n zero rest most = rw (mul-zero (min n most), mul-zero n)
cut-once n (suc p) rest most = go (leb n most) refl
  where
    go : (b : Bool) → leb n most ≡ b → min (min n most * suc p + rest) most ≡ min (n * suc p + rest) most
    go true e = rw (min-eq_left (leb-true n most e))
    go false e =
        let h : most < n = leb-false n most e in
        let k : most ≤ n = omega arith in
        let a : most ≤ most * suc p = le-mul_of_pos_right most (omega arith) in
        let b : n ≤ n * suc p = le-mul_of_pos_right n (omega arith) in
        rw (min-eq_right k) (min-eq_right (omega arith) ∙ sym (min-eq_right (omega arith)))

-- A number with a digit behind it, and more digits behind that.
counted-on : (n radix d power rest : ℕ) → (n * radix + d) * power + rest ≡ n * (power * radix) + (d * power + rest)
counted-on n radix d power rest =
    rw (add-mul (n * radix) d power, mul_assoc n radix power, mul_comm radix power) (omega arith)

-- What the digits so far and those that are left come to.
abbrev pub comes_to : ℕ → ℕ → List ℕ → ℕ
comes_to radix n left = n * radix ^ length left + figures_value radix left

-- One turn: a digit joins those so far, and the number is cut.
pub value-turn : (radix most n i : ℕ) (ds : List ℕ) {r : ℕ} → i < length ds → r ≡ min (n * radix + figure_of (get_or ds i 0)) most
    → min (comes_to radix r (drop (suc i) ds)) most ≡ min (comes_to radix n (drop i ds)) most
value-turn radix most n i ds h e =
    let left = drop (suc i) ds in
    let d = figure_of (get_or ds i 0) in
    rw (e, drop-cons ds i 0 h, pow-suc radix (length left))
    (cut-once (n * radix + d) (radix ^ length left) (figures_value radix left) most
    ∙ ap (λ (x : ℕ). min x most) (counted-on n radix d (radix ^ length left) (figures_value radix left)))

-- Before the first turn all is left, after the last nothing.
pub value-start : (radix most : ℕ) (ds : List ℕ) → min (comes_to radix 0 (drop 0 ds)) most ≡ min (figures_value radix ds) most
value-start radix most ds = rw (zero-mul (radix ^ length ds), zero-add (figures_value radix ds))

pub value-end : (radix most n i : ℕ) (ds : List ℕ) {whole : ℕ} → length ds ≤ i → n ≤ most
    → min (comes_to radix n (drop i ds)) most ≡ whole → n ≡ whole
value-end radix most n i ds h k e =
    let one : radix ^ 0 ≡ 1 = pow-zero radix in
    let f : min (comes_to radix n []) most ≡ min n most = rw (one, mul-one n, add-zero n) in
    sym (min-eq_left k) ∙ (sym f ∙ (rw (drop_of_length-le ds h) at e))

-- Digits that join a number one after another, which is cut each time.
fold_value : (radix most : ℕ) (ds : List ℕ) (n : ℕ) → n ≤ most
    → fold (λ so_far c. min (so_far * radix + figure_of c) most) n ds ≡ min (comes_to radix n ds) most
fold_value radix most [] n h = value-end radix most n 0 [] (omega arith) h refl
fold_value radix most (c ∷ cs) n h =
    let r = min (n * radix + figure_of c) most in
    fold_value radix most cs r (min-le_right (n * radix + figure_of c) most)
    ∙ value-turn radix most n 0 (c ∷ cs) (omega arith) refl

pub value_found : (r radix most : ℕ) (ds : List ℕ) → r ≡ fold (λ so_far c. min (so_far * radix + figure_of c) most) 0 ds
    → r ≡ min (figures_value radix ds) most
value_found r radix most ds e = e ∙ (fold_value radix most ds 0 (omega arith) ∙ value-start radix most ds)

-- Characters are a number if there is one, and those that are left are digits.
pub numeral-none : (radix : ℕ) (cs : List ℕ) → length cs ≡ 0 → false ≡ numeral radix cs
unfolding numeral
numeral-none radix [] h = refl
numeral-none radix (c ∷ cs) h = absurd (omega arith)

pub numeral-some : (radix : ℕ) (cs : List ℕ) → (length cs ≡ 0 → ⊥) → all_figures radix cs ≡ numeral radix cs
unfolding numeral
numeral-some radix [] h = absurd (h refl)
numeral-some radix (c ∷ cs) h = refl

all_figures-list : (radix : ℕ) (cs : List ℕ) → list_all (λ c. ltb (figure_of c) radix) cs ≡ all_figures radix cs
all_figures-list radix [] = refl
all_figures-list radix (c ∷ cs) = rw (all_figures-list radix cs)

pub numeral_found : (r : Bool) (radix : ℕ) (cs : List ℕ) → (length cs ≡ 0 → ⊥) → r ≡ list_all (λ c. ltb (figure_of c) radix) cs
    → r ≡ numeral radix cs
numeral_found r radix cs h e = e ∙ (all_figures-list radix cs ∙ numeral-some radix cs h)

module _ (radix : ℕ) (cs : List ℕ) (i : ℕ) where
  pub digits-end : length cs ≤ i → true ≡ all_figures radix (drop i cs)
  digits-end h = rw (drop_of_length-le cs h)

  module _ {d : ℕ} (h : i < length cs) (e : d ≡ figure_of (get_or cs i 0)) where
    pub digit-fails : radix ≤ d → false ≡ all_figures radix (drop i cs)
    digit-fails k = rw (drop-cons cs i 0 h, ← e, le-ltb d radix k)

    pub digit-holds : d < radix → all_figures radix (drop (suc i) cs) ≡ all_figures radix (drop i cs)
    digit-holds k = rw (drop-cons cs i 0 h, ← e, lt-ltb d radix k)

-- A word with the mark, and one without.
pub mark_found : (word : List ℕ) → 2 ≤ length word → get_or word 0 0 ≡ 0x30 → get_or word 1 0 ≡ 0x78
    → take (length word - 2) (drop 2 word) ≡ after_mark word
unfolding after_mark
mark_found [] h e f = absurd (omega arith)
mark_found (a ∷ []) h e f = absurd (omega arith)
mark_found (a ∷ b ∷ cs) h e f =
    rw (eq-eqb a 0x30 e, eq-eqb b 0x78 f) (take_all (length (a ∷ b ∷ cs) - 2) cs (omega arith))

pub mark-short : (word : List ℕ) → length word < 2 → after_mark word ≡ []
unfolding after_mark
mark-short [] h = refl
mark-short (a ∷ []) h = refl
mark-short (a ∷ b ∷ cs) h = absurd (omega arith)

pub mark-first : (word : List ℕ) → 2 ≤ length word → (get_or word 0 0 ≡ 0x30 → ⊥) → after_mark word ≡ []
unfolding after_mark
mark-first [] h n = absurd (omega arith)
mark-first (a ∷ []) h n = absurd (omega arith)
mark-first (a ∷ b ∷ cs) h n = rw (ne_eqb a 0x30 n)

pub mark-second : (word : List ℕ) → 2 ≤ length word → get_or word 0 0 ≡ 0x30 → (get_or word 1 0 ≡ 0x78 → ⊥) → after_mark word ≡ []
unfolding after_mark
mark-second [] h e n = absurd (omega arith)
mark-second (a ∷ []) h e n = absurd (omega arith)
mark-second (a ∷ b ∷ cs) h e n = rw (eq-eqb a 0x30 e, ne_eqb b 0x78 n)

-- A word by what the tests of its characters say, the hexadecimal digits being what follows its mark.
module _ (word : List ℕ) where
  pub decimal-is : numeral decimal_base word ≡ true → true ≡ is_number word
  unfolding is_number
  decimal-is e = rw e

  pub number-decimal : (most : ℕ) {r : ℕ} → numeral decimal_base word ≡ true → r ≡ min (figures_value decimal_base word) most → r ≡ counts_as most word
  unfolding counts_as
  number-decimal most e f = rw (f, e)

  module _ {marked : List ℕ} (begins : marked ≡ after_mark word) (e : numeral decimal_base word ≡ false) where
    pub marked-is : {r : Bool} → r ≡ numeral base marked → r ≡ is_number word
    unfolding is_number
    marked-is f = rw e (rw begins at f)

    pub number-marked : (most : ℕ) {r : ℕ} → numeral base marked ≡ true → r ≡ min (figures_value base marked) most → r ≡ counts_as most word
    unfolding counts_as
    number-marked most f g = rw (e, rw begins at f) (rw begins at g)

    pub number-neither : (most : ℕ) → numeral base marked ≡ false → most ≡ counts_as most word
    unfolding counts_as
    number-neither most f = rw (e, rw begins at f)

-- No word counts more than the field's largest value.
most-by : (decimal hexadecimal : Bool) (most : ℕ) (word : List ℕ) → counts_by decimal hexadecimal most word ≤ most
most-by true hexadecimal most word = min-le_right (figures_value decimal_base word) most
most-by false true most word = min-le_right (figures_value base (after_mark word)) most
most-by false false most word = omega arith

pub number_within : (most : ℕ) (word : List ℕ) {r : ℕ} → r ≡ counts_as most word → r ≤ most
unfolding counts_as
number_within most word e = rw e (most-by (numeral decimal_base word) (numeral base (after_mark word)) most word)
