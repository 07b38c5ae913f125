-- Laws of what is tested and decoded many characters at a time. Assumes nothing.
use Prim.Native.Nat.{ℕ, zero, suc, ◌+◌, ◌*◌, ◌-◌, ◌/◌, ◌%◌, ◌<◌, ◌≤◌}
use mathlib.Core.Bool.{Bool, true, false, ◌&&◌, and_assoc, and-false, and-true}
use mathlib.Core.List.{List, [], ◌∷◌, ◌++◌, append_assoc, append-nil}
use mathlib.Core.Path.{◌≡◌, refl, ap, sym, ◌∙◌}
use native.Mathlib.Omega.{arith}
use Rattle.std.specs.List.{fold}
use lib.ListN.{length, get_or, take, drop, set, length-drop, take-append-drop, drop_of_length-le}
use lib.Seq.{take-suc-set, take_all, take-add, take_at, drop_at, take-take, take-append-le, length-take-le}
use Rattle.ground.proofs.Tests.{and_split}
use Rattle.digits.specs.Digits.{is_digit}
use Rattle.hexfile.specs.Pairs.{paired, pairs_of}
use Rattle.digits.specs.Values.{value_of}
use Rattle.hexfile.specs.Parts.{values_of, all_digits}
use Rattle.hexfile.specs.Promises.{Decodes}
use Rattle.digits.proofs.DigitLaws.{value-digit}
use Rattle.ground.proofs.Rows.{tail-whole}
use Rattle.hexfile.proofs.PairLaws.{two}

-- The test of each character in turn is the test of all.
fold-digits : (text : List ℕ) (all : Bool) → fold (λ a c. a && is_digit c) all text ≡ (all && all_digits text)
fold-digits [] all = sym (and-true all)
fold-digits (c ∷ cs) all = fold-digits cs (all && is_digit c) ∙ and_assoc all (is_digit c) (all_digits cs)

pub digits_found : (r : Bool) (text : List ℕ) → r ≡ fold (λ a c. a && is_digit c) true text → r ≡ all_digits text
digits_found r text e = e ∙ fold-digits text true

-- Digits are tested part by part, and a second test of some of them tells nothing new.
pub all_append : (xs ys : List ℕ) → all_digits (xs ++ ys) ≡ (all_digits xs && all_digits ys)
all_append [] ys = refl
all_append (x ∷ xs) ys = rw (all_append xs ys, and_assoc (is_digit x) (all_digits xs) (all_digits ys))

pub all-overlap : (xs : List ℕ) (i j : ℕ) → j ≤ i → all_digits (take i xs) ≡ true → all_digits (drop j xs) ≡ all_digits xs
all-overlap xs i zero h e = refl
all-overlap [] i (suc j) h e = refl
all-overlap (x ∷ xs) zero (suc j) h e = absurd (omega arith)
all-overlap (x ∷ xs) (suc i) (suc j) h e =
    let t = and_split (is_digit x) (all_digits (take i xs)) e in
    rw t.0 (all-overlap xs i j (omega arith) t.1)

all_take : (xs : List ℕ) (i : ℕ) → all_digits (take i xs) ≡ false → all_digits xs ≡ false
all_take xs i e =
    let t : all_digits (take i xs ++ drop i xs) ≡ false = rw (all_append (take i xs) (drop i xs), e) in
    rw take-append-drop at t

pub all_two : (xs : List ℕ) (i j : ℕ) (a : Bool) {b : Bool} → j ≤ i → a ≡ all_digits (take i xs) → b ≡ all_digits (drop j xs)
    → a && b ≡ all_digits xs
all_two xs i j true h e f = f ∙ all-overlap xs i j h (sym e)
all_two xs i j false h e f = sym (all_take xs i (sym e))

-- The last sixteen, or all of fewer: in two parts that overlap, or in one.
pub ends_some : (text : List ℕ) {a b : Bool} → length text < 16 → a ≡ all_digits (take 8 text)
    → b ≡ all_digits (take (length text - (length text - 8)) (drop (length text - 8) text))
    → a && b ≡ all_digits (drop (length text - 16) text)
ends_some text {a} h e f =
    let z : length text - 16 ≡ 0 = omega arith in
    rw z (all_two text 8 (length text - 8) a (omega arith) e (rw tail-whole at f))

pub ends-few : (text : List ℕ) {a : Bool} → length text < 16 → a ≡ all_digits text → a ≡ all_digits (drop (length text - 16) text)
ends-few text h e = let z : length text - 16 ≡ 0 = omega arith in rw z e

-- Characters of an even number are pairs of digits exactly if they are digits; of an odd number they are not.
pub all-paired : (k : ℕ) (xs : List ℕ) → length xs ≡ 2 * k → paired xs ≡ all_digits xs
all-paired k [] h = refl
all-paired k (a ∷ []) h = absurd (omega arith)
all-paired zero (a ∷ b ∷ cs) h = absurd (omega arith)
all-paired (suc k) (a ∷ b ∷ cs) h = rw (all-paired k cs (omega arith), and_assoc (is_digit a) (is_digit b) (all_digits cs))

pub odd-unpaired : (k : ℕ) (xs : List ℕ) → length xs ≡ 2 * k + 1 → paired xs ≡ false
odd-unpaired k [] h = absurd (omega arith)
odd-unpaired k (a ∷ []) h = refl
odd-unpaired zero (a ∷ b ∷ cs) h = absurd (omega arith)
odd-unpaired (suc k) (a ∷ b ∷ cs) h =
    rw (odd-unpaired k cs (omega arith)) (and-false (is_digit a && is_digit b))

-- The values of pairs of digits are their bytes.
pub values-pairs : (xs : List ℕ) → all_digits xs ≡ true → values_of xs ≡ pairs_of xs
values-pairs [] e = refl
values-pairs (a ∷ []) e = refl
values-pairs (a ∷ b ∷ cs) e =
    let t = and_split (is_digit a) (is_digit b && all_digits cs) e in
    let u = and_split (is_digit b) (all_digits cs) t.1 in
    rw (value-digit a t.0, value-digit b u.0, values-pairs cs u.1)

-- Pairs are joined part by part.
pub values-append : (k : ℕ) (xs ys : List ℕ) → length xs ≡ 2 * k → values_of (xs ++ ys) ≡ values_of xs ++ values_of ys
values-append k [] ys h = refl
values-append k (a ∷ []) ys h = absurd (omega arith)
values-append zero (a ∷ b ∷ cs) ys h = absurd (omega arith)
values-append (suc k) (a ∷ b ∷ cs) ys h = rw (values-append k cs ys (omega arith))

pub values-take : (k : ℕ) (xs : List ℕ) → take k (values_of xs) ≡ values_of (take (2 * k) xs)
values-take zero xs = refl
values-take (suc k) [] = let e : 2 * suc k ≡ suc (suc (2 * k)) = omega arith in rw e
values-take (suc k) (a ∷ []) = let e : 2 * suc k ≡ suc (suc (2 * k)) = omega arith in rw e
values-take (suc k) (a ∷ b ∷ cs) = let e : 2 * suc k ≡ suc (suc (2 * k)) = omega arith in rw (e, values-take k cs)

pub length-values_of : (k : ℕ) (xs : List ℕ) → length xs ≡ 2 * k → length (values_of xs) ≡ k
length-values_of k [] h = omega arith
length-values_of k (a ∷ []) h = absurd (omega arith)
length-values_of zero (a ∷ b ∷ cs) h = absurd (omega arith)
length-values_of (suc k) (a ∷ b ∷ cs) h = ap suc (length-values_of k cs (omega arith))

-- One turn of the joining: a pair's byte is stored, and what is left is joined after it.
pub join-turn : (text room : List ℕ) (i : ℕ) {a b : ℕ} → 2 * i + 2 ≤ length text → i < length room
    → a ≡ value_of (get_or text (2 * i) 0) → b ≡ value_of (get_or text (2 * i + 1) 0)
    → take (suc i) (set room i (a * 16 + b)) ++ values_of (drop (2 * suc i) text) ≡ take i room ++ values_of (drop (2 * i) text)
join-turn text room i {a} {b} h p e f =
    let n : 2 * suc i ≡ 2 * i + 2 = omega arith in
    rw (n, take-suc-set room i (a * 16 + b) p, two text (2 * i) h, append_assoc, e, f)

pub join-done : (text room whole : List ℕ) (i : ℕ) → length text ≤ 2 * i → length room ≤ i
    → take i room ++ values_of (drop (2 * i) text) ≡ whole → room ≡ whole
join-done text room whole i h p e =
    sym (append-nil room) ∙ (rw (take_all i room p, drop_of_length-le text h) at e)

-- Values stored at the start of a room: as many as the pairs, or those of sixteen characters, of which the first count.
pub first-few : (text room : List ℕ) (count : ℕ) {ys : List ℕ} → 2 * count ≤ length text → ys ≡ values_of (take (2 * count) text)
    → take count (ys ++ drop count room) ≡ values_of (take (2 * count) text)
first-few text room count {ys} h e =
    let n : length (values_of (take (2 * count) text)) ≡ count =
    length-values_of count (take (2 * count) text) (length-take-le (2 * count) text h) in
    rw (e, take_at (values_of (take (2 * count) text)) (drop count room) count n)

pub first-window : (text room : List ℕ) (count : ℕ) {ys : List ℕ} → 16 ≤ length text → count ≤ 8 → ys ≡ values_of (take 16 text)
    → take count (ys ++ drop 8 room) ≡ values_of (take (2 * count) text)
first-window text room count {ys} h k e =
    let n : length (values_of (take 16 text)) ≡ 8 = length-values_of 8 (take 16 text) (length-take-le 16 text h) in
    rw (
      e,
      take-append-le count (values_of (take 16 text)) (drop 8 room) (omega arith),
      values-take count (take 16 text),
      take-take (2 * count) 16 text (omega arith),
    )

-- What is stored from an index on stands behind what was there before it.
put_front : (room ys zs : List ℕ) (at k : ℕ) → at ≤ length room → k ≤ length ys
    → take (at + k) (take at room ++ (ys ++ zs)) ≡ take at room ++ take k ys
put_front room ys zs at k h p =
    let n : length (take at room) ≡ at = length-take-le at room h in
    rw (
      take-add at k (take at room ++ (ys ++ zs)),
      take_at (take at room) (ys ++ zs) at n,
      drop_at (take at room) (ys ++ zs) at n,
      take-append-le k ys zs p,
    )

-- The room so far has the bytes of the characters so far, and these are digits.
pub record Decoded (text room : List ℕ) (from at : ℕ) : Type 0 where
  pub half : from ≡ 2 * at
  pub digits : all_digits (take from text) ≡ true
  pub bytes : take at room ≡ values_of (take from text)

-- One turn of the decoding: sixteen characters more.
pub decode-turn : (text room ys : List ℕ) (from at : ℕ) {r : Bool} → from + 16 ≤ length text → at ≤ length room
    → Decoded text room from at → r ≡ all_digits (take (from + 16 - from) (drop from text)) → r ≡ true
    → ys ≡ values_of (take (from + 16 - from) (drop from text))
    → Decoded text (take at room ++ (ys ++ drop (at + 8 - at) (drop at room))) (from + 16) (at + 8)
decode-turn text room ys from at h p d e t f =
    let m : from + 16 - from ≡ 16 = omega arith in
    let w : List ℕ = take 16 (drop from text) in
    let g : ys ≡ values_of w = rw m at f in
    let u : all_digits w ≡ true = sym (rw m at e) ∙ t in
    let n : length ys ≡ 8 = ap length g ∙ length-values_of 8 w (length-take-le 16 (drop from text) (simp length-drop (omega arith))) in
    let k : length (take from text) ≡ 2 * at = length-take-le from text (omega arith) ∙ d.half in
    record {
      half = omega (arith, d.half);
      digits = rw (take-add from 16 text, all_append (take from text) w, d.digits, u);
      bytes =
          rw (
            put_front room ys (drop (at + 8 - at) (drop at room)) at 8 p (omega arith),
            take_all 8 ys (omega arith),
            take-add from 16 text,
            values-append at (take from text) w k,
            d.bytes,
            g,
          );
    }

-- Sixteen characters and eight bytes of room.
pub windows-fit : (text room : List ℕ) (from at : ℕ) → from + 16 ≤ length text → at + 8 ≤ length room
    → length (take (from + 16 - from) (drop from text)) ≡ 2 * length (take (at + 8 - at) (drop at room))
windows-fit text room from at h p =
    let m : from + 16 - from ≡ 16 = omega arith in
    let n : at + 8 - at ≡ 8 = omega arith in
    let k : 16 ≤ length (drop from text) = simp length-drop (omega arith) in
    let l : 8 ≤ length (drop at room) = simp length-drop (omega arith) in
    rw (m, n, length-take-le 16 (drop from text) k, length-take-le 8 (drop at room) l)

-- A text of an odd number of characters, and one in which sixteen have one that is no digit.
pub decode-odd : (text room : List ℕ) (n : ℕ) → n ≤ length text → (n % 2 ≡ 0 → ⊥) → Decodes (take n text) false room
decode-odd text room n h k =
    let m : length (take n text) ≡ n = length-take-le n text h in
    record {
      said = sym (odd-unpaired (n / 2) (take n text) (omega arith));
      bytes = λ t. absurd (let z : ◌≡◌ {A = ℕ} 0 1 = cc in omega arith);
    }

pub decode-fails : (text room : List ℕ) (n from : ℕ) {r : Bool} → n ≤ length text → n % 2 ≡ 0 → from + 16 ≤ n
    → r ≡ all_digits (take (from + 16 - from) (drop from text)) → r ≡ false → Decodes (take n text) false room
decode-fails text room n from h k p e f =
    let m : from + 16 - from ≡ 16 = omega arith in
    let l : length (take n text) ≡ n = length-take-le n text h in
    let w : all_digits (take 16 (drop from text)) ≡ false = sym (rw m at e) ∙ f in
    let t : all_digits (take (from + 16) text) ≡ false =
    rw (take-add from 16 text, all_append (take from text) (take 16 (drop from text)), w) (and-false (all_digits (take from text))) in
    let u : all_digits (take n text) ≡ false =
    all_take (take n text) (from + 16) (rw (take-take (from + 16) n text p) t) in
    record {
      said = sym (all-paired (n / 2) (take n text) (omega arith) ∙ u);
      bytes = λ t. absurd (let z : ◌≡◌ {A = ℕ} 0 1 = cc in omega arith);
    }

-- The last characters: they count as digits where the last sixteen are, and their bytes stand behind the others.
pub decode-ends : (text room ys zs : List ℕ) (n from at : ℕ) {r : Bool} → n ≤ length text → n % 2 ≡ 0 → from ≤ n → n ≤ from + 16
    → at ≤ length room → n / 2 - at ≤ length ys → Decoded text room from at
    → take (n / 2 - at) ys ≡ values_of (take (2 * (n / 2 - at)) (take (length text - from) (drop from text)))
    → r ≡ all_digits (drop (length (take n text) - 16) (take n text))
    → Decodes (take n text) r (take at room ++ (ys ++ zs))
decode-ends text room ys zs n from at {r} h k p q a b d f e =
    let m : length (take n text) ≡ n = length-take-le n text h in
    let o : r ≡ all_digits (take n text) =
    e ∙ all-overlap (take n text) from (length (take n text) - 16) (omega arith) (rw (take-take from n text p) d.digits) in
    let half = d.half in
    let c : 2 * (n / 2 - at) ≡ n - from = omega arith in
    let g : take (n / 2 - at) ys ≡ values_of (take (n - from) (drop from text)) = rw (tail-whole, c) at f in
    let s : at + (n / 2 - at) ≡ n / 2 = omega arith in
    let u : from + (n - from) ≡ n = omega arith in
    let l : length (take from text) ≡ 2 * at = length-take-le from text (omega arith) ∙ half in
    let v : values_of (take n text) ≡ values_of (take from text) ++ values_of (take (n - from) (drop from text)) =
    ap (λ (i : ℕ). values_of (take i text)) (sym u)
    ∙ ap values_of (take-add from (n - from) text)
    ∙ values-append at (take from text) (take (n - from) (drop from text)) l in
    let w : take (n / 2) (take at room ++ (ys ++ zs)) ≡ values_of (take n text) =
    ap (λ (i : ℕ). take i (take at room ++ (ys ++ zs))) (sym s)
    ∙ put_front room ys zs at (n / 2 - at) a b
    ∙ rw (d.bytes, g) (sym v) in
    let z : length (values_of (take n text)) ≡ n / 2 = length-values_of (n / 2) (take n text) (omega arith) in
    record {
      said = o ∙ sym (all-paired (n / 2) (take n text) (omega arith));
      bytes = λ t. rw (← (values-pairs (take n text) (sym o ∙ t)), z) w;
    }
