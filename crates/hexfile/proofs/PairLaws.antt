-- Laws of the pairs of digits and of the sums that the proofs cite. Assumes nothing.
use Prim.Native.Nat.{ℕ, suc, ◌+◌, ◌*◌, ◌/◌, ◌%◌, ◌<◌, ◌≤◌}
use mathlib.Core.Bool.{true, true≢false, ◌&&◌}
use mathlib.Core.List.{List, [], ◌∷◌, ◌++◌}
use mathlib.Core.Path.{◌≡◌, refl, ◌∙◌}
use native.Mathlib.Omega.{arith}
use native.Mathlib.Numerals.{add-one}
use lib.ListN.{length, get_or, drop, set}
use Rattle.std.specs.List.{fold}
use lib.Seq.{drop-cons, sets}
use borrow.Author.Tests.{ltb-true}
use Rattle.ground.specs.Numbers.{byte_values}
use Rattle.digits.specs.Digits.{base, digit_of, is_digit, glyph_of}
use Rattle.hexfile.specs.Pairs.{pair_of, paired, pairs_of, text_of, sum_of}
use Rattle.digits.proofs.DigitLaws.{glyph-written, glyph-digit}
use Rattle.ground.proofs.Tests.{and_split}

-- The byte of two digits is one.
pub pair_fits : (a b : ℕ) → is_digit a ≡ true → is_digit b ≡ true → pair_of a b < 256
pair_fits a b h k = omega (arith, ltb-true (digit_of a) 16 h, ltb-true (digit_of b) 16 k)

-- A byte is written as two characters.
pub length-text_of : (bs : List ℕ) → length (text_of bs) ≡ 2 * length bs
length-text_of [] = refl
length-text_of (b ∷ bs) = omega (arith, length-text_of bs)

-- Both characters of a first pair are digits, and what follows it is pairs too.
pub pair-split : (a b : ℕ) (cs : List ℕ) → paired (a ∷ b ∷ cs) ≡ true
    → (is_digit a ≡ true) × (is_digit b ≡ true) × (paired cs ≡ true)
pair-split a b cs e =
    let t = and_split (is_digit a && is_digit b) (paired cs) e in
    let d = and_split (is_digit a) (is_digit b) t.0 in
    (d.0, d.1, t.1)

-- Two characters are read as a byte.
pub length-pairs_of : (cs : List ℕ) → paired cs ≡ true → 2 * length (pairs_of cs) ≡ length cs
length-pairs_of [] h = refl
length-pairs_of (a ∷ []) h = let z : ◌≡◌ {A = ℕ} 0 1 = cc in omega arith
length-pairs_of (a ∷ b ∷ cs) h = omega (arith, length-pairs_of cs (pair-split a b cs h).2)

-- A byte's two characters read as the byte.
pub pair-byte : (b : ℕ) → b < byte_values → pair_of (glyph_of (b / base)) (glyph_of (b % base)) ≡ b
pair-byte b h =
    omega (arith, (glyph-written (b / base) (omega arith)).value, (glyph-written (b % base) (omega arith)).value)

-- The byte of two digits is written as these.
pair-glyphs : (a b x y : ℕ) → x < base → y < base → glyph_of x ≡ a → glyph_of y ≡ b
    → (glyph_of ((x * base + y) / base) ≡ a) × (glyph_of ((x * base + y) % base) ≡ b)
pair-glyphs a b x y h k p q =
    let high : (x * base + y) / base ≡ x = omega arith in
    let low : (x * base + y) % base ≡ y = omega arith in
    (rw high p, rw low q)

-- Pairs of digits read as bytes and written again are the text that was read.
pub text-pairs : (cs : List ℕ) → paired cs ≡ true → text_of (pairs_of cs) ≡ cs
text-pairs [] e = refl
text-pairs (a ∷ []) e = absurd (true≢false (cc))
text-pairs (a ∷ b ∷ cs) e =
    let d = pair-split a b cs e in
    let x = ltb-true (digit_of a) base d.0 in
    let y = ltb-true (digit_of b) base d.1 in
    let t = pair-glyphs a b (digit_of a) (digit_of b) x y (glyph-digit a d.0) (glyph-digit b d.1) in
    rw (t.0, t.1, text-pairs cs d.2)

-- Two characters from an index on, and what follows them.
pub two : (cs : List ℕ) (at : ℕ) → at + 2 ≤ length cs
    → drop at cs ≡ get_or cs at 0 ∷ get_or cs (at + 1) 0 ∷ drop (at + 2) cs
two cs at h =
    let e : at + 2 ≡ suc (suc at) = omega arith in
    rw (add-one at, e, drop-cons cs at 0 (omega arith), drop-cons cs (suc at) 0 (omega arith))

-- One turn of the encoding: a byte's two characters are stored, and what is left is encoded after them.
pub encode-turn : (bytes out : List ℕ) (at i b : ℕ) → i < length bytes → b ≡ get_or bytes i 0
    → sets (set (set out (at + 2 * i) (glyph_of (b / 16))) (at + 2 * i + 1) (glyph_of (b % 16))) (at + 2 * (i + 1))
    (text_of (drop (i + 1) bytes))
    ≡ sets out (at + 2 * i) (text_of (drop i bytes))
encode-turn bytes out at i b p e =
    let e2 : at + 2 * (i + 1) ≡ suc (suc (at + 2 * i)) = omega arith in
    rw (e2, add-one (at + 2 * i), add-one i, drop-cons bytes i 0 p, e)

-- Bytes added one after another, each sum modulo 256.
pub fold-sum : (bs : List ℕ) (total : ℕ) → total < 256 → fold (λ t b. (t + b) % 256) total bs ≡ (total + sum_of bs) % 256
fold-sum [] total h = omega arith
fold-sum (b ∷ bs) total h = fold-sum bs ((total + b) % 256) (omega arith) ∙ omega arith

-- The digits of bytes that follow each other.
pub text-append : (xs bs : List ℕ) → text_of (xs ++ bs) ≡ text_of xs ++ text_of bs
text-append [] bs = refl
text-append (a ∷ xs) bs = rw (text-append xs bs)

pub sum-append : (xs bs : List ℕ) → sum_of (xs ++ bs) ≡ sum_of xs + sum_of bs
sum-append [] bs = omega arith
sum-append (a ∷ xs) bs = rw (sum-append xs bs) (omega arith)
