-- Laws of what a store does to the array. Assumes nothing.
use Prim.Native.Nat.{ℕ, zero, suc, ◌+◌, ◌-◌, ◌<◌, ◌≤◌}
use mathlib.Core.Bool.{Bool, true, false, ◌&&◌, cond}
use mathlib.Core.List.{List, [], ◌∷◌}
use mathlib.Core.Path.{◌≡◌, refl, ap, sym, ◌∙◌}
use native.Mathlib.Omega.{arith}
use lib.Dec.{eqb, ltb}
use lib.ListN.{length, get_or, take, drop, length-append, length-take, length-drop, get_or-append, get_or-eq_default}
use lib.Seq.{length-take-le, get_or-append-add, get_or-take, get_or-drop}
use borrow.Author.Tests.{ltb-true, ltb-false, eq-eqb, ne_eqb}
use Rattle.ground.specs.Numbers.{page_size}
use Rattle.page.specs.Page.{page_of, in_page, first_of, byte_at, lay_of, store_of}
use Rattle.part.specs.declared.state.Load.{Load}
use Rattle.part.specs.declared.state.Place.{Place}

-- Laying bytes over others leaves the number of bytes as it was.
pub lay-length : (ms : List Bool) (bs xs : List ℕ) → length (lay_of ms bs xs) ≡ length xs
lay-length [] bs xs = refl
lay-length (m ∷ ms) [] xs = refl
lay-length (m ∷ ms) (b ∷ bs) [] = refl
lay-length (m ∷ ms) (b ∷ bs) (x ∷ xs) = ap suc (lay-length ms bs xs)

-- The byte at an index after the laying: the loaded one where its mark is set.
pub lay_at : (ms : List Bool) (bs xs : List ℕ) (i : ℕ) → length ms ≡ length bs → i < length xs
    → get_or (lay_of ms bs xs) i 0 ≡ cond (get_or ms i false) (get_or bs i 0) (get_or xs i 0)
lay_at [] bs xs i e h = refl
lay_at (m ∷ ms) [] xs i e h = absurd (omega arith)
lay_at (m ∷ ms) (b ∷ bs) [] i e h = absurd (omega arith)
lay_at (m ∷ ms) (b ∷ bs) (x ∷ xs) zero e h = refl
lay_at (m ∷ ms) (b ∷ bs) (x ∷ xs) (suc i) e h = lay_at ms bs xs i (omega arith) (omega arith)

-- A store leaves the array's length as it was.
pub store_length : (p : Place) (l : Load) (array : List ℕ) → length (store_of p l array) ≡ length array
unfolding store_of
store_length p l array = simp (length-append, lay-length, length-take, length-drop) (omega arith)

module _ (p : Place) (l : Load) (array : List ℕ) (a : Place) where
  -- A byte before the page stays.
  pub store-before : a.0 < first_of p → a.0 < length array → byte_at (store_of p l array) a ≡ byte_at array a
  unfolding store_of
  store-before h n =
      let k : a.0 < length (take (first_of p) array) = simp length-take (omega arith) in
      get_or-append (take (first_of p) array) (lay_of l.marks l.bytes (drop (first_of p) array)) 0 a.0 k ∙ get_or-take (first_of p) array a.0 0 h

  -- From the page's first place on, the byte is that of the laying.
  pub store-from : length l.marks ≡ length l.bytes → first_of p ≤ a.0 → a.0 < length array
      → byte_at (store_of p l array) a ≡ cond (get_or l.marks (a.0 - first_of p) false) (get_or l.bytes (a.0 - first_of p) 0) (byte_at array a)
  unfolding store_of
  store-from e h n =
      let s : length (take (first_of p) array) ≡ first_of p = length-take-le (first_of p) array (omega arith) in
      let t : first_of p + (a.0 - first_of p) ≡ a.0 = omega arith in
      let i : a.0 - first_of p < length (drop (first_of p) array) = simp length-drop (omega arith) in
      let q = get_or-append-add (take (first_of p) array) (lay_of l.marks l.bytes (drop (first_of p) array)) (a.0 - first_of p) 0 in
      let r = lay_at l.marks l.bytes (drop (first_of p) array) (a.0 - first_of p) e i in
      (rw (s, t) at q) ∙ (rw (get_or-drop, t) at r)

  -- The byte at a after a store: in the store's page the loaded one where its mark is set, elsewhere the one that was there.
  pub store_at : length l.marks ≡ page_size → length l.bytes ≡ page_size → a.0 < length array
      → byte_at (store_of p l array) a
      ≡ cond (eqb (page_of a) (page_of p) && get_or l.marks (in_page a) false) (get_or l.bytes (in_page a) 0) (byte_at array a)
  store_at m b n = go (ltb a.0 (first_of p)) (ltb a.0 (first_of p + page_size)) refl refl
    where
      go : (u v : Bool) → ltb a.0 (first_of p) ≡ u → ltb a.0 (first_of p + page_size) ≡ v
          → byte_at (store_of p l array) a
          ≡ cond (eqb (page_of a) (page_of p) && get_or l.marks (in_page a) false) (get_or l.bytes (in_page a) 0) (byte_at array a)
      go true v e f =
          let h = ltb-true a.0 (first_of p) e in
          let d : page_of a ≡ page_of p → ⊥ = omega arith in
          rw (ne_eqb (page_of a) (page_of p) d) (store-before h n)
      go false true e f =
          let h = ltb-false a.0 (first_of p) e in
          let k = ltb-true a.0 (first_of p + page_size) f in
          let d : page_of a ≡ page_of p = omega arith in
          let i : a.0 - first_of p ≡ in_page a = omega arith in
          rw (eq-eqb (page_of a) (page_of p) d, ← i) (store-from (m ∙ sym b) h n)
      go false false e f =
          let h = ltb-false a.0 (first_of p) e in
          let k = ltb-false a.0 (first_of p + page_size) f in
          let d : page_of a ≡ page_of p → ⊥ = omega arith in
          let i : length l.marks ≤ a.0 - first_of p = omega arith in
          rw (ne_eqb (page_of a) (page_of p) d) (rw (get_or-eq_default l.marks false i) at (store-from (m ∙ sym b) h n))
