-- Laws of the table of marks. Assumes nothing.
use Prim.Native.Nat.{ℕ, ◌<◌}
use mathlib.Core.Bool.{Bool, true, false, ◌&&◌}
use mathlib.Core.List.{List, [], ◌∷◌}
use mathlib.Core.Path.{◌≡◌, refl, ◌∙◌}
use native.Mathlib.Omega.{arith}
use lib.Dec.{eqb}
use lib.ListN.{length, get_or, set, replicate, length-set, length-replicate, get_or-replicate}
use lib.Seq.{get_or-set_same, get_or-set_other}
use borrow.Author.Tests.{eqb-true, eqb-false}
use Rattle.wires.specs.Wires.{Var, marked, marks_by, marks_of, weight_of}
use Rattle.headings.specs.Parts.{Tabled, declared_in}

-- A cleared table is that of no wire.
pub tabled-none : (table : List ℕ) (n : ℕ) → n ≡ 256 → table ≡ replicate n 0 → Tabled [] table
tabled-none table n h e =
    record {
      size = rw (e, length-replicate) h;
      entry = λ c k. rw e (get_or-replicate n c 0 0 (omega arith));
    }

-- A code of one character is declared at its place.
pub declared-one : (table code : List ℕ) (wire : ℕ) {c m : ℕ} → length code ≡ 1 → c ≡ get_or code 0 0
    → m ≡ marked (get_or table c 0) wire → set table c m ≡ declared_in table code wire
unfolding declared_in
declared-one table [] wire h e f = absurd (omega arith)
declared-one table (d ∷ []) wire h e f = rw (f, e)
declared-one table (d ∷ f ∷ ds) wire h e g = absurd (omega arith)

-- And any other nowhere.
pub declared-other : (table code : List ℕ) (wire : ℕ) → (length code ≡ 1 → ⊥) → table ≡ declared_in table code wire
unfolding declared_in
declared-other table [] wire h = refl
declared-other table (d ∷ []) wire h = absurd (h refl)
declared-other table (d ∷ f ∷ ds) wire h = refl

-- No entry's code is a longer one.
never : (b : Bool) (wire marks : ℕ) → marks ≡ marks_by (b && false) wire marks
never true wire marks = refl
never false wire marks = refl

-- An entry, by whether its code is the one declared.
module _ (vars : List Var) (table : List ℕ) (d : ℕ) (name : List ℕ) (t : Tabled vars table) where
  entry-by : (c : ℕ) (b : Bool) → c < 256 → eqb c d ≡ b
      → get_or (set table d (marked (get_or table d 0) (weight_of name))) c 0
      ≡ marks_by (b && true) (weight_of name) (marks_of vars (c ∷ []))
  entry-by c true h e =
      let g : c ≡ d = eqb-true c d e in
      let k = t.size in
      rw (← g, get_or-set_same table c (marked (get_or table c 0) (weight_of name)) 0 (omega arith), t.entry c h)
  entry-by c false h e = get_or-set_other table d c _ 0 (eqb-false c d e) ∙ t.entry c h

-- The table with one more wire is that of the wires with one more.
pub tabled-more : (vars : List Var) (table code name : List ℕ) → Tabled vars table
    → Tabled (record { code = code; name = name } ∷ vars) (declared_in table code (weight_of name))
unfolding declared_in
tabled-more vars table [] name t = record { size = t.size; entry = λ c h. t.entry c h }
tabled-more vars table (d ∷ []) name t =
    record {
      size = length-set table d (marked (get_or table d 0) (weight_of name)) ∙ t.size;
      entry = λ c h. entry-by vars table d name t c (eqb c d) h refl;
    }
tabled-more vars table (d ∷ f ∷ ds) name t =
    record { size = t.size; entry = λ c h. t.entry c h ∙ never (eqb c d) (weight_of name) (marks_of vars (c ∷ [])) }

-- The marks of a code of one character.
pub tabled-mark : (vars : List Var) (table code : List ℕ) {c : ℕ} → Tabled vars table → length code ≡ 1 → c ≡ get_or code 0 0 → c < 256
    → get_or table c 0 ≡ marks_of vars code
tabled-mark vars table [] t h e k = absurd (omega arith)
tabled-mark vars table (d ∷ []) {c} t h e k = t.entry c k ∙ rw e
tabled-mark vars table (d ∷ f ∷ ds) t h e k = absurd (omega arith)
