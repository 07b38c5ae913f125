-- Where two rows begin to differ.
use Rattle.std.specs.Prelude.{ℕ, suc, Bool, true, false, List, [], ◌∷◌, eqb}

-- One place more if the two bytes are equal, else none.
abbrev pub alike_by : Bool → ℕ → ℕ
alike_by true n = suc n
alike_by false n = 0

-- How many places from the front are alike, as far as both go.
abbrev pub alike_for : List ℕ → List ℕ → ℕ
alike_for [] ys = 0
alike_for (x ∷ xs) [] = 0
alike_for (x ∷ xs) (y ∷ ys) = alike_by (eqb x y) (alike_for xs ys)
