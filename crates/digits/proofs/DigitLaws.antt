-- Laws of the digits: a value is written as a character that reads as it, and a digit reads as a value that is written
-- as that digit. Assumes nothing.
use Prim.Native.Nat.{ℕ, ◌+◌, ◌-◌, ◌%◌, ◌<◌, ◌≤◌}
use mathlib.Core.Bool.{Bool, true, false, ◌||◌, true≢false}
use mathlib.Core.Path.{◌≡◌, refl}
use native.Mathlib.Omega.{arith}
use lib.Dec.{leb, ltb}
use borrow.Author.Tests.{ltb-true, ltb-false, leb-true, lt-ltb, le-ltb, le-leb, lt-leb}
use Rattle.ground.proofs.Tests.{and_split}
use Rattle.digits.specs.Digits.{base, within, digit_by, digit_of, is_digit, glyph_of}
use Rattle.digits.specs.Values.{shift_by, value_of}

-- A number within two others lies between them.
pub within-true : (low high c : ℕ) → within low high c ≡ true → (low ≤ c) × (c ≤ high)
within-true low high c e =
    let t = and_split (leb low c) (leb c high) e in
    (leb-true low c t.0, leb-true c high t.1)

-- 0 to 9 read as nought to nine.
digit_low : (c : ℕ) → 0x30 ≤ c → c ≤ 0x39 → digit_of c ≡ c - 0x30
unfolding digit_of
digit_low c g h = rw (le-leb 0x30 c g, le-leb c 0x39 h)

-- A to F read as ten to fifteen.
digit-high : (c : ℕ) → 0x41 ≤ c → c ≤ 0x46 → digit_of c ≡ c - 0x37
unfolding digit_of
digit-high c g h = rw (le-leb 0x30 c (omega arith), lt-leb c 0x39 (omega arith), le-leb 0x41 c g, le-leb c 0x46 h)

-- What a written value is: a character from 0 to F, and so neither a line feed nor a carriage return, that reads as it.
pub record Written (d c : ℕ) : Type 0 where
  pub low : 0x30 ≤ c
  pub high : c ≤ 0x46
  pub value : digit_of c ≡ d

-- A value below 16 is written so.
pub glyph-written : (d : ℕ) → d < base → Written d (glyph_of d)
unfolding glyph_of
glyph-written d h = go (ltb d 10) refl
  where
    go : (b : Bool) → ltb d 10 ≡ b → Written d (glyph_of d)
    go true e =
        let k = ltb-true d 10 e in
        let v : digit_of (d + 0x30) ≡ d = rw (digit_low (d + 0x30) (omega arith) (omega arith)) (omega arith) in
        rw e (record { low = omega arith; high = omega arith; value = v })
    go false e =
        let k = ltb-false d 10 e in
        let v : digit_of (d + 0x37) ≡ d = rw (digit-high (d + 0x37) (omega arith) (omega arith)) (omega arith) in
        rw e (record { low = omega arith; high = omega arith; value = v })

-- A digit's value is written as that digit.
pub glyph-digit : (c : ℕ) → is_digit c ≡ true → glyph_of (digit_of c) ≡ c
unfolding digit_of glyph_of
glyph-digit c e = go (within 0x30 0x39 c) (within 0x41 0x46 c) refl refl e
  where
    go : (u v : Bool) → within 0x30 0x39 c ≡ u → within 0x41 0x46 c ≡ v → ltb (digit_by u v c) base ≡ true
        → glyph_of (digit_by u v c) ≡ c
    go true v p q h =
        let t = within-true 0x30 0x39 c p in
        rw (lt-ltb (c - 0x30) 10 (omega arith)) (omega arith)
    go false true p q h =
        let t = within-true 0x41 0x46 c q in
        rw (le-ltb (c - 0x37) 10 (omega arith)) (omega arith)
    go false false p q h = absurd (true≢false (cc))

-- A figure or a letter is a digit, and nothing else is.
pub digit-test : (c : ℕ) {a b : Bool} → a ≡ within 0x30 0x39 c → b ≡ within 0x41 0x46 c → a || b ≡ is_digit c
unfolding digit_of
digit-test c e f = rw (e, f) (go (within 0x30 0x39 c) (within 0x41 0x46 c) refl refl)
  where
    go : (u v : Bool) → within 0x30 0x39 c ≡ u → within 0x41 0x46 c ≡ v → u || v ≡ ltb (digit_by u v c) 16
    go true v p q = let t = within-true 0x30 0x39 c p in rw (lt-ltb (c - 0x30) 16 (omega arith))
    go false true p q = let t = within-true 0x41 0x46 c q in rw (lt-ltb (c - 0x37) 16 (omega arith))
    go false false p q = refl

-- The value of a digit is what it reads as.
pub value-digit : (c : ℕ) → is_digit c ≡ true → value_of c ≡ digit_of c
unfolding digit_of value_of
value-digit c e = go (within 0x30 0x39 c) (within 0x41 0x46 c) refl refl e
  where
    go : (u v : Bool) → within 0x30 0x39 c ≡ u → within 0x41 0x46 c ≡ v → ltb (digit_by u v c) 16 ≡ true
        → (c % 16 + shift_by (ltb c 0x41)) % 16 ≡ digit_by u v c
    go true v p q h =
        let t = within-true 0x30 0x39 c p in
        rw (lt-ltb c 0x41 (omega arith)) (omega arith)
    go false true p q h =
        let t = within-true 0x41 0x46 c q in
        rw (le-ltb c 0x41 (omega arith)) (omega arith)
    go false false p q h = absurd (true≢false (cc))

pub shift_small : (b : Bool) → shift_by b < 10
shift_small true = omega arith
shift_small false = omega arith

pub value-small : (c : ℕ) {v : ℕ} → v ≡ value_of c → v < 16
unfolding value_of
value-small c e = rw e (omega arith)
