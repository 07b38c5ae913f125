-- Laws of the little-endian words that the proofs cite. Assumes nothing.
use Prim.Native.Nat.{ℕ, zero, suc, ◌+◌, ◌*◌, ◌<◌, ◌≤◌}
use mathlib.Core.List.{List, [], ◌∷◌, ◌++◌, append_assoc, append-nil}
use mathlib.Core.Path.{◌≡◌, refl, ap, sym, ◌∙◌}
use native.Mathlib.Omega.{arith}
use native.Mathlib.Numerals.{add-one, unary_clauses}
use lib.ListN.{length, get_or, take, drop, set, length-append, take-append-drop, drop_of_length-le}
use lib.Seq.{drop-cons, take-suc-set, drop-set-lt, take_all, drop-drop, length-take-le}
use borrow.Rule.Slice.PartMut.{put_mid}
use Rattle.std.specs.Simd.{first_chunks}
use Rattle.std.proofs.Common.{w32}
use Rattle.std.proofs.lemmas.Slice.{take-put_mid, drop-put_mid}
use Rattle.std.specs.Int.{from_le_bytes, to_le_bytes}
use Rattle.form.specs.Words.{word_of, decoded_of, encoded_of}

-- Four bytes from an index on, and what follows them.
pub four : (bytes : List ℕ) (at : ℕ) → at + 4 ≤ length bytes
    → drop at bytes ≡ get_or bytes at 0 ∷ get_or bytes (at + 1) 0 ∷ get_or bytes (at + 2) 0 ∷ get_or bytes (at + 3) 0 ∷ drop (at + 4) bytes
four bytes at h =
    let e2 : at + 2 ≡ suc (suc at) = omega arith in
    let e3 : at + 3 ≡ suc (suc (suc at)) = omega arith in
    let e4 : at + 4 ≡ suc (suc (suc (suc at))) = omega arith in
    rw (
      add-one at,
      e2,
      e3,
      e4,
      drop-cons bytes at 0 (omega arith),
      drop-cons bytes (suc at) 0 (omega arith),
      drop-cons bytes (suc (suc at)) 0 (omega arith),
      drop-cons bytes (suc (suc (suc at))) 0 (omega arith),
    )

-- One turn of the decoding: the word at an index is stored, and what is left is decoded from there on.
pub decode-turn : (bytes row : List ℕ) (at i w : ℕ) → at + 4 ≤ length bytes → i < length row
    → w ≡ word_of (get_or bytes at 0) (get_or bytes (at + 1) 0) (get_or bytes (at + 2) 0) (get_or bytes (at + 3) 0)
    → take (i + 1) (set row i w) ++ decoded_of (drop (at + 4) bytes) (drop (i + 1) (set row i w))
    ≡ take i row ++ decoded_of (drop at bytes) (drop i row)
decode-turn bytes row at i w h p e =
    let q : i < suc i = omega arith in
    rw (
      add-one i,
      take-suc-set row i w p,
      drop-set-lt (suc i) row i w q,
      four bytes at h,
      drop-cons row i 0 p,
      append_assoc,
      e,
    )

-- The bytes of a word, as the chunk of four that they are.
chunk-at : (n k i : ℕ) (xs d : List ℕ) → i < k → get_or (first_chunks n k xs) i d ≡ take n (drop (n * i) xs)
chunk-at n zero i xs d h = absurd (omega arith)
chunk-at n (suc k) zero xs d h = simp unary_clauses
chunk-at n (suc k) (suc i) xs d h = chunk-at n k i (drop n xs) d (omega arith) ∙ ap (take n) (drop-drop (n * i) n xs ∙ ap (λ (m : ℕ). drop m xs) (omega arith))

pub word-at : (bytes chunk d : List ℕ) (i k : ℕ) → i < k → 4 * i + 4 ≤ length bytes → chunk ≡ get_or (first_chunks 4 k bytes) i d
    → from_le_bytes w32 chunk ≡ word_of (get_or bytes (4 * i) 0) (get_or bytes (4 * i + 1) 0) (get_or bytes (4 * i + 2) 0) (get_or bytes (4 * i + 3) 0)
word-at bytes chunk d i k h p e = rw (e, chunk-at 4 k i bytes d h, four bytes (4 * i) p)

decode-few : (bytes row : List ℕ) → length bytes < 4 → decoded_of bytes row ≡ row
decode-few bytes [] h = refl
decode-few [] (x ∷ row) h = refl
decode-few (a ∷ []) (x ∷ row) h = refl
decode-few (a ∷ b ∷ []) (x ∷ row) h = refl
decode-few (a ∷ b ∷ c ∷ []) (x ∷ row) h = refl
decode-few (a ∷ b ∷ c ∷ d ∷ bytes) (x ∷ row) h = absurd (omega arith)

-- The decoding is done where no four bytes are left, and where no place of the row is left.
pub decode-short : (bytes row whole : List ℕ) (at i : ℕ) → length (drop at bytes) < 4
    → take i row ++ decoded_of (drop at bytes) (drop i row) ≡ whole → row ≡ whole
decode-short bytes row whole at i h e =
    sym (take-append-drop i row) ∙ (rw (decode-few (drop at bytes) (drop i row) h) at e)

pub decode-whole : (bytes row whole : List ℕ) (i : ℕ) → length row ≤ i
    → take i row ++ decoded_of bytes (drop i row) ≡ whole → row ≡ whole
decode-whole bytes row whole i h e =
    sym (append-nil row) ∙ (rw (take_all i row h, drop_of_length-le row h) at e)

-- Four bytes laid over a buffer lie in it.
pub laid-within : (out bytes : List ℕ) (at k : ℕ) → at + 4 ≤ length out → k ≡ 4 → length bytes ≡ 4 → at + 4 ≤ length (put_mid at k out bytes)
laid-within out bytes at k h e b =
    let n : length (take at out) ≡ at = length-take-le at out (omega arith) in
    simp length-append (omega (arith, n, b))

-- One turn of the encoding: a word's four bytes are stored, and what is left is encoded after them.
pub encode-turn : (words out bytes : List ℕ) (at i w k : ℕ) → at + 4 ≤ length out → k ≡ 4 → i < length words → w ≡ get_or words i 0
    → bytes ≡ to_le_bytes w32 w
    → take (at + 4) (put_mid at k out bytes) ++ encoded_of (drop (i + 1) words) (drop (at + 4) (put_mid at k out bytes))
    ≡ take at out ++ encoded_of (drop i words) (drop at out)
encode-turn words out bytes at i w k h four-more p e b =
    let n : length bytes ≡ 4 = ap length b in
    let past : drop (at + 4) (put_mid at k out bytes) ≡ drop (at + 4) out = drop-put_mid at k out bytes (at + 4) (omega arith) (omega arith) (omega arith) in
    rw (
      take-put_mid at k out bytes (at + 4) (omega arith) (omega arith),
      past,
      add-one i,
      four out at h,
      drop-cons words i 0 p,
      append_assoc,
      b,
      e,
    )

encode-few : (words out : List ℕ) → length out < 4 → encoded_of words out ≡ out
encode-few [] out h = refl
encode-few (w ∷ words) [] h = refl
encode-few (w ∷ words) (a ∷ []) h = refl
encode-few (w ∷ words) (a ∷ b ∷ []) h = refl
encode-few (w ∷ words) (a ∷ b ∷ c ∷ []) h = refl
encode-few (w ∷ words) (a ∷ b ∷ c ∷ d ∷ out) h = absurd (omega arith)

-- The encoding is done where no room for four bytes is left, and where no word is left.
pub encode-short : (words out whole : List ℕ) (at : ℕ) → length (drop at out) < 4
    → take at out ++ encoded_of words (drop at out) ≡ whole → out ≡ whole
encode-short words out whole at h e =
    sym (take-append-drop at out) ∙ (rw (encode-few words (drop at out) h) at e)

pub encode-whole : (words out whole : List ℕ) (at i : ℕ) → length words ≤ i
    → take at out ++ encoded_of (drop i words) (drop at out) ≡ whole → out ≡ whole
encode-whole words out whole at i h e =
    sym (take-append-drop at out) ∙ (rw (drop_of_length-le words h) at e)
