-- Laws of rows that are written or cleared, and of parts of them that are lent on. Assumes nothing.
use Prim.Native.Nat.{ℕ, suc, ◌+◌, ◌-◌, ◌<◌, ◌≤◌}
use mathlib.Core.List.{List, [], ◌∷◌, ◌++◌, append_assoc, append-nil}
use mathlib.Core.Path.{◌≡◌, sym, ◌∙◌}
use native.Mathlib.Omega.{arith}
use lib.ListN.{length, take, drop, set, replicate, length-drop, drop_of_length-le}
use lib.Seq.{sets, take-suc-set, take_all}

-- Two runs of stores, one after the other, are their joining stored at once.
pub sets-append : (vs ws row : List ℕ) (at next : ℕ) → next ≡ at + length vs → sets (sets row at vs) next ws ≡ sets row at (vs ++ ws)
sets-append [] ws row at next e = let f : next ≡ at = omega arith in rw f
sets-append (v ∷ vs) ws row at next e = sets-append vs ws (set row at v) (suc at) next (omega arith)

-- The part of a list from an index to its end is all that follows the index.
pub tail-whole : (a : ℕ) (xs : List ℕ) → take (length xs - a) (drop a xs) ≡ drop a xs
tail-whole a xs = take_all (length xs - a) (drop a xs) (simp length-drop (omega arith))

-- A part lent from a on comes back as the whole with what was done to its tail.
pub part-back : (f : List ℕ → List ℕ) (a : ℕ) (xs ys : List ℕ) → ys ≡ f (take (length xs - a) (drop a xs))
    → take a xs ++ (ys ++ drop (length xs - a) (drop a xs)) ≡ take a xs ++ f (drop a xs)
part-back f a xs ys e =
    let h : length (drop a xs) ≤ length xs - a = simp length-drop (omega arith) in
    let g : ys ≡ f (drop a xs) = rw (take_all (length xs - a) (drop a xs) h) at e in
    rw (g, drop_of_length-le (drop a xs) h, append-nil)

-- One turn of the clearing: a nought is stored, and what is left is cleared behind it.
pub clear-turn : (row : List ℕ) (i n : ℕ) → i < length row → length row ≡ n
    → take (suc i) (set row i 0) ++ replicate (n - suc i) 0 ≡ take i row ++ replicate (n - i) 0
clear-turn row i n h e =
    let k : n - i ≡ suc (n - suc i) = omega arith in
    rw (take-suc-set row i 0 h, k, append_assoc)

-- At the end nothing is left to clear.
pub clear-done : (row : List ℕ) (i n : ℕ) {whole : List ℕ} → length row ≤ i → n ≤ i
    → take i row ++ replicate (n - i) 0 ≡ whole → row ≡ whole
clear-done row i n h k e =
    let z : n - i ≡ 0 = omega arith in
    sym (append-nil row) ∙ (rw (z, take_all i row h) at e)
