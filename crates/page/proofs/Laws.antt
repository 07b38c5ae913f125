-- Laws of marks and of the laying that several proofs cite. Assumes nothing.
use Prim.Native.Nat.{ℕ, zero, suc, ◌<◌, ◌≤◌}
use mathlib.Core.Bool.{Bool, true, false, cond}
use mathlib.Core.List.{List, [], ◌∷◌, ◌++◌, append-nil}
use mathlib.Core.Path.{◌≡◌, refl, ap}
use mathlib.Core.Logic.{◌⊎◌, inl, inr}
use native.Mathlib.Omega.{arith}
use lib.ListN.{length, get_or, take, drop, set, take-append-drop, drop_of_length-le}
use lib.Seq.{take_all}
use Rattle.std.specs.List.{list_any}
use Rattle.page.specs.Page.{lay_of, any_marked}

-- Some mark of a row is set just where the library's search for a set one finds it.
pub list_any-marked : (test : Bool → Bool) → test true ≡ true → test false ≡ false → (ms : List Bool) → list_any test ms ≡ any_marked ms
list_any-marked test t f [] = refl
list_any-marked test t f (true ∷ ms) = rw t
list_any-marked test t f (false ∷ ms) = rw f (list_any-marked test t f ms)

-- Nothing is laid over no bytes.
pub lay-nil : (ms : List Bool) (bs : List ℕ) → lay_of ms bs [] ≡ []
lay-nil [] bs = refl
lay-nil (m ∷ ms) [] = refl
lay-nil (m ∷ ms) (b ∷ bs) = refl

-- One turn of the laying: the byte at i is put, and what is left is laid from i + 1 on.
pub lay-turn : (m : Bool) (b : ℕ) (ms : List Bool) (bs xs : List ℕ) (i : ℕ) → i < length xs
    → take (suc i) (set xs i (cond m b (get_or xs i 0))) ++ lay_of ms bs (drop (suc i) (set xs i (cond m b (get_or xs i 0))))
    ≡ take i xs ++ lay_of (m ∷ ms) (b ∷ bs) (drop i xs)
lay-turn m b ms bs [] i h = absurd (omega arith)
lay-turn m b ms bs (x ∷ xs) zero h = refl
lay-turn m b ms bs (x ∷ xs) (suc i) h = ap (λ (l : List ℕ). x ∷ l) (lay-turn m b ms bs xs i (omega arith))

-- A mark that is not set leaves the byte at i.
pub lay-kept : (b : ℕ) (ms : List Bool) (bs xs : List ℕ) (i : ℕ)
    → take (suc i) xs ++ lay_of ms bs (drop (suc i) xs) ≡ take i xs ++ lay_of (false ∷ ms) (b ∷ bs) (drop i xs)
lay-kept b ms bs [] zero = lay-nil ms bs
lay-kept b ms bs [] (suc i) = lay-nil ms bs
lay-kept b ms bs (x ∷ xs) zero = refl
lay-kept b ms bs (x ∷ xs) (suc i) = ap (λ (l : List ℕ). x ∷ l) (lay-kept b ms bs xs i)

-- The laying is done where no byte of the page is left.
pub lay-short : (ms : List Bool) (bs xs : List ℕ) (i : ℕ) → length xs ≤ i → take i xs ++ lay_of ms bs (drop i xs) ≡ xs
lay-short ms bs xs i h = rw (take_all i xs h, drop_of_length-le xs h, lay-nil, append-nil)

-- It is done where no mark or no byte of the load is left.
pub lay-whole : (ms : List Bool) (bs xs : List ℕ) (i : ℕ) → (length ms ≡ 0) ⊎ (length bs ≡ 0) → take i xs ++ lay_of ms bs (drop i xs) ≡ xs
lay-whole [] bs xs i h = take-append-drop i xs
lay-whole (m ∷ ms) [] xs i h = take-append-drop i xs
lay-whole (m ∷ ms) (b ∷ bs) xs i h = elim h [ inl z ↦ absurd (omega (arith, z)) | inr z ↦ absurd (omega (arith, z)) ]

-- Nothing is laid where the page lies beyond the array.
pub store-beyond : (ms : List Bool) (bs xs : List ℕ) (a : ℕ) → length xs ≤ a → take a xs ++ lay_of ms bs (drop a xs) ≡ xs
store-beyond ms bs xs a h = rw (take_all a xs h, drop_of_length-le xs h, lay-nil, append-nil)
