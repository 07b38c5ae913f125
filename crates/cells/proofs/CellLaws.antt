-- Laws of the cells and of blank bytes that several proofs cite. Assumes nothing.
use Prim.Native.Nat.{ℕ, zero, suc, ◌<◌, ◌≤◌}
use mathlib.Core.Bool.{Bool, true, ◌&&◌, and_assoc, and-true}
use mathlib.Core.List.{List, [], ◌∷◌, ◌++◌, append_assoc, append-nil}
use mathlib.Core.Path.{◌≡◌, refl, ap, sym, ◌∙◌}
use native.Mathlib.Omega.{arith}
use Rattle.std.specs.List.{fold}
use lib.Dec.{eqb, ltb}
use lib.ListN.{length, get_or, take, drop, set, replicate, take-append-drop, drop_of_length-le}
use lib.Seq.{drop-cons, take-suc-set, drop-set-lt, take_all}
use borrow.Author.Tests.{eqb-true}
use Rattle.cells.specs.Cells.{not_given, blank_byte, fresh_of, give_of, byte_by, settled_of, blank_of}
use Rattle.ground.proofs.Tests.{and_split}

-- The rows keep their lengths.
pub length-give_of : (cs bs : List ℕ) → length (give_of cs bs) ≡ length cs
length-give_of [] bs = refl
length-give_of (c ∷ cs) [] = refl
length-give_of (c ∷ cs) (b ∷ bs) = ap suc (length-give_of cs bs)

pub length-settled_of : (cs : List ℕ) → length (settled_of cs) ≡ length cs
length-settled_of [] = refl
length-settled_of (c ∷ cs) = ap suc (length-settled_of cs)

-- Cells of which none is given settle to blank bytes.
pub settled-none : (n : ℕ) → settled_of (replicate n not_given) ≡ replicate n blank_byte
settled-none zero = refl
settled-none (suc n) = ap (λ (l : List ℕ). blank_byte ∷ l) (settled-none n)

-- Cells settle one by one.
pub settled-append : (xs ys : List ℕ) → settled_of (xs ++ ys) ≡ settled_of xs ++ settled_of ys
settled-append [] ys = refl
settled-append (x ∷ xs) ys = rw (settled-append xs ys)

-- Cells of which none is given are fresh for any bytes.
pub fresh-none : (n : ℕ) (bs : List ℕ) → fresh_of (replicate n not_given) bs ≡ true
fresh-none zero bs = refl
fresh-none (suc n) [] = refl
fresh-none (suc n) (b ∷ bs) = fresh-none n bs

-- No byte is given twice, and none changes a cell, where there is none.
pub fresh-nil : (cs : List ℕ) → fresh_of cs [] ≡ true
fresh-nil [] = refl
fresh-nil (c ∷ cs) = refl

-- One turn of the tests: the cell at an index is tested before it is given, and what is left is tested behind it.
pub fresh-turn : (cs bs : List ℕ) (i v : ℕ) (fresh : Bool) → i < length cs → i < length bs
    → ((fresh && eqb (get_or cs i 0) not_given) && fresh_of (drop (suc i) (set cs i v)) (drop (suc i) bs))
    ≡ (fresh && fresh_of (drop i cs) (drop i bs))
fresh-turn cs bs i v fresh p q =
    rw (
      drop-set-lt (suc i) cs i v (omega arith),
      and_assoc fresh (eqb (get_or cs i 0) not_given) (fresh_of (drop (suc i) cs) (drop (suc i) bs)),
      drop-cons cs i 0 p,
      drop-cons bs i 0 q,
    )

-- Past the bytes nothing is left to test.
pub fresh-done : (cs bs : List ℕ) (i : ℕ) (fresh : Bool) {whole : Bool} → length bs ≤ i
    → (fresh && fresh_of (drop i cs) (drop i bs)) ≡ whole → fresh ≡ whole
fresh-done cs bs i fresh h e = sym (and-true fresh) ∙ (rw (drop_of_length-le bs h, fresh-nil (drop i cs)) at e)

-- One turn of the giving: the byte at an index is given, and what is left is given behind it.
pub give-turn : (cs bs : List ℕ) (i v : ℕ) → i < length cs → i < length bs → v ≡ get_or bs i 0
    → take (suc i) (set cs i v) ++ give_of (drop (suc i) (set cs i v)) (drop (suc i) bs)
    ≡ take i cs ++ give_of (drop i cs) (drop i bs)
give-turn cs bs i v p q e =
    rw (
      take-suc-set cs i v p,
      drop-set-lt (suc i) cs i v (omega arith),
      drop-cons cs i 0 p,
      drop-cons bs i 0 q,
      append_assoc,
      e,
    )

pub give-nil : (cs : List ℕ) → give_of cs [] ≡ cs
give-nil [] = refl
give-nil (c ∷ cs) = refl

-- Bytes given to as many cells stand before the cells after these.
pub give-front : (cs rest bs : List ℕ) → length cs ≡ length bs → give_of (cs ++ rest) bs ≡ bs ++ rest
give-front [] rest [] e = give-nil rest
give-front [] rest (b ∷ bs) e = absurd (omega arith)
give-front (c ∷ cs) rest [] e = absurd (omega arith)
give-front (c ∷ cs) rest (b ∷ bs) e = ap (λ (l : List ℕ). b ∷ l) (give-front cs rest bs (omega arith))

pub give-done : (cs bs whole : List ℕ) (i : ℕ) → length bs ≤ i
    → take i cs ++ give_of (drop i cs) (drop i bs) ≡ whole → cs ≡ whole
give-done cs bs whole i h e =
    sym (take-append-drop i cs) ∙ (rw (drop_of_length-le bs h, give-nil (drop i cs)) at e)

-- One turn of the settling: the byte of the cell at an index is stored, and what is left settles behind it.
pub settle-turn : (cs array : List ℕ) (i v : ℕ) → i < length cs → i < length array
    → v ≡ byte_by (ltb (get_or cs i 0) not_given) (get_or cs i 0)
    → take (suc i) (set array i v) ++ settled_of (drop (suc i) cs) ≡ take i array ++ settled_of (drop i cs)
settle-turn cs array i v p q e = rw (take-suc-set array i v q, drop-cons cs i 0 p, append_assoc, e)

pub settle-done : (cs array whole : List ℕ) (i : ℕ) → length cs ≤ i → length array ≤ i
    → take i array ++ settled_of (drop i cs) ≡ whole → array ≡ whole
settle-done cs array whole i p q e =
    sym (append-nil array) ∙ (rw (take_all i array q, drop_of_length-le cs p) at e)

-- Blank bytes are as many times FFh.
pub blank-same : (bs : List ℕ) → blank_of bs ≡ true → bs ≡ replicate (length bs) blank_byte
blank-same [] e = refl
blank-same (b ∷ bs) e =
    let t = and_split (eqb b blank_byte) (blank_of bs) e in
    rw (eqb-true b blank_byte t.0) (ap (λ (l : List ℕ). blank_byte ∷ l) (blank-same bs t.1))

-- The test of each byte in turn is the test of all.
fold-blank : (bs : List ℕ) (all : Bool) → fold (λ a b. a && eqb b blank_byte) all bs ≡ (all && blank_of bs)
fold-blank [] all = sym (and-true all)
fold-blank (b ∷ bs) all = fold-blank bs (all && eqb b blank_byte) ∙ and_assoc all (eqb b blank_byte) (blank_of bs)

pub blank_found : (r : Bool) (bs : List ℕ) → r ≡ fold (λ a b. a && eqb b blank_byte) true bs → r ≡ blank_of bs
blank_found r bs e = e ∙ fold-blank bs true
