-- The cells that the reader keeps, and the addresses that lines give. Assumes nothing.
use Prim.Native.Nat.{ℕ, zero, suc, ◌+◌, ◌-◌, ◌≤◌, ◌<◌}
use mathlib.Core.Bool.{Bool, true, false, ◌&&◌, true≢false}
use mathlib.Core.List.{List, [], ◌∷◌, ◌++◌}
use mathlib.Core.Logic.{◌⊎◌, inl, inr}
use mathlib.Core.Path.{◌≡◌, refl, ap, sym, ◌∙◌}
use native.Mathlib.Omega.{arith}
use lib.Dec.{eqb, leb, ltb}
use lib.ListN.{length, get_or, take, drop, replicate, length-append, length-take, length-drop, length-replicate, get_or-replicate, get_or-append}
use lib.Seq.{get_or-drop, get_or-take, get_or-append-add, length-take-le}
use borrow.Author.Tests.{eqb-true, eqb-false, ltb-true, ltb-false, leb-true, leb-false}
use Rattle.ground.proofs.Tests.{and_split}
use Rattle.cells.specs.Cells.{not_given, fresh_of, give_of}
use Rattle.cells.proofs.CellLaws.{length-give_of}
use Rattle.forms.specs.Reading.{given_of}
use Rattle.intel.specs.Intel.{bytes_in, record_address, data_of, intel}
use Rattle.exactly.specs.Lines.{LineAt, characters_of}
use Rattle.exactly.specs.Records.{count, address, WellFormed, Gives, Beyond}
use Rattle.exactly.specs.Faults.{GivenBefore, Twice}
use Rattle.exactly.proofs.Decides.{Decides}
use Rattle.exactly.proofs.Lines.{three_ways, one_end, none_within}
use Rattle.exactly.proofs.Records.{same_address, data-count, data-small}

-- A cell is not given exactly where no line before a place gives its address.
pub record Filled (size : ℕ) (text : List ℕ) (p : ℕ) (cells : List ℕ) : Type 0 where
  pub long : length cells ≡ size
  pub free : (a : ℕ) → a < size → get_or cells a 0 ≡ 256 → ¬ GivenBefore text p a
  pub given : (a : ℕ) → a < size → ¬ (get_or cells a 0 ≡ 256) → GivenBefore text p a

-- At first no cell is given.
pub none_filled : (size : ℕ) (text : List ℕ) → Filled size text 0 (replicate size not_given)
none_filled size text =
    record {
      long = length-replicate size 256;
      free = λ a h e g. let k = g.before in omega arith;
      given = λ a h n. absurd (n (get_or-replicate size a 256 0 h));
    }

-- The test for new addresses.
fresh-all : (cs bs : List ℕ) → fresh_of cs bs ≡ true → (i : ℕ) → i < length cs → i < length bs → get_or cs i 0 ≡ 256
fresh-all [] bs e i h k = absurd (omega arith)
fresh-all (c ∷ cs) [] e i h k = absurd (omega arith)
fresh-all (c ∷ cs) (b ∷ bs) e zero h k = eqb-true c 256 (and_split (eqb c 256) (fresh_of cs bs) e).0
fresh-all (c ∷ cs) (b ∷ bs) e (suc i) h k = fresh-all cs bs (and_split (eqb c 256) (fresh_of cs bs) e).1 i (omega arith) (omega arith)

fresh-not : (cs bs : List ℕ) → fresh_of cs bs ≡ false → (i : ℕ) × (i < length cs) × (i < length bs) × ¬ (get_or cs i 0 ≡ 256)
fresh-not [] bs e = absurd (true≢false e)
fresh-not (c ∷ cs) [] e = absurd (true≢false e)
fresh-not (c ∷ cs) (b ∷ bs) e = go (eqb c 256) refl (fresh-not cs bs) e
  where
    go : (x : Bool) → eqb c 256 ≡ x
        → (fresh_of cs bs ≡ false → (i : ℕ) × (i < length cs) × (i < length bs) × ¬ (get_or cs i 0 ≡ 256))
        → x && fresh_of cs bs ≡ false
        → (i : ℕ) × (i < length (c ∷ cs)) × (i < length (b ∷ bs)) × ¬ (get_or (c ∷ cs) i 0 ≡ 256)
    go true f ih h = let t = ih h in let a = t.1 in let b = t.2 in (suc t.0, omega arith, omega arith, t.3)
    go false f ih h = (0, omega arith, omega arith, eqb-false c 256 f)

-- 16: an address given twice.
pub decides-fresh : (size : ℕ) (text : List ℕ) (p : ℕ) (cells l : List ℕ) → WellFormed l → Filled size text p cells → ¬ Beyond size l
    → Decides (fresh_of (drop (record_address (bytes_in l)) cells) (data_of (bytes_in l))) (¬ Twice text p l) (Twice text p l)
decides-fresh size text p cells l w f n =
    rw (same_address l w) (record { yes = yes; no = no; apart = λ n t. n t })
  where
    inside : (a : ℕ) → Gives l a → a < size
    inside a g = go (ltb a size) refl
      where
        go : (b : Bool) → ltb a size ≡ b → a < size
        go true e = ltb-true a size e
        go false e = absurd (n (a, g, ltb-false a size e))

    yes : fresh_of (drop (address l) cells) (data_of (bytes_in l)) ≡ true → ¬ Twice text p l
    yes e t =
        let a = t.0 in
        let low = t.1.0 in
        let top = t.1.1 in
        let h = inside a t.1 in
        let m : length (drop (address l) cells) ≡ length cells - address l = length-drop (address l) cells in
        let k = f.long in
        let d = data-count l w in
        let q : address l + (a - address l) ≡ a = omega arith in
        let x = fresh-all (drop (address l) cells) (data_of (bytes_in l)) e (a - address l) (omega arith) (omega arith) in
        f.free a h (rw (get_or-drop (address l) cells (a - address l) 0, q) at x) t.2

    no : fresh_of (drop (address l) cells) (data_of (bytes_in l)) ≡ false → Twice text p l
    no e =
        let t = fresh-not (drop (address l) cells) (data_of (bytes_in l)) e in
        let i = t.0 in
        let x = t.1 in
        let y = t.2 in
        let d = data-count l w in
        let g : Gives l (address l + i) = (omega arith, omega arith) in
        (address l + i, g, f.given (address l + i) (inside (address l + i) g) (λ z. t.3 (get_or-drop (address l) cells i 0 ∙ z)))

-- A cell after bytes were given.
give-in : (cs bs : List ℕ) (i : ℕ) → i < length cs → i < length bs → get_or (give_of cs bs) i 0 ≡ get_or bs i 0
give-in [] bs i h k = absurd (omega arith)
give-in (c ∷ cs) [] i h k = absurd (omega arith)
give-in (c ∷ cs) (b ∷ bs) zero h k = refl
give-in (c ∷ cs) (b ∷ bs) (suc i) h k = give-in cs bs i (omega arith) (omega arith)

give-past : (cs bs : List ℕ) (i : ℕ) → length bs ≤ i → get_or (give_of cs bs) i 0 ≡ get_or cs i 0
give-past [] bs i h = refl
give-past (c ∷ cs) [] i h = refl
give-past (c ∷ cs) (b ∷ bs) zero h = absurd (omega arith)
give-past (c ∷ cs) (b ∷ bs) (suc i) h = give-past cs bs i (omega arith)

module _ (cells bs : List ℕ) (at a : ℕ) (h : a < length cells) where
  place-below : a < at → get_or (take at cells ++ give_of (drop at cells) bs) a 0 ≡ get_or cells a 0
  place-below k =
      let m : a < length (take at cells) = rw (length-take at cells) (omega arith) in
      get_or-append (take at cells) (give_of (drop at cells) bs) 0 a m ∙ get_or-take at cells a 0 k

  place-from : at ≤ a → get_or (take at cells ++ give_of (drop at cells) bs) a 0 ≡ get_or (give_of (drop at cells) bs) (a - at) 0
  place-from k =
      let m : length (take at cells) ≡ at = length-take-le at cells (omega arith) in
      let q : length (take at cells) + (a - at) ≡ a = omega arith in
      ap (λ (x : ℕ). get_or (take at cells ++ give_of (drop at cells) bs) x 0) (sym q)
      ∙ get_or-append-add (take at cells) (give_of (drop at cells) bs) (a - at) 0

  pub place_in : at ≤ a → a < at + length bs → get_or (take at cells ++ give_of (drop at cells) bs) a 0 ≡ get_or bs (a - at) 0
  place_in k x =
      let m : length (drop at cells) ≡ length cells - at = length-drop at cells in
      place-from k ∙ give-in (drop at cells) bs (a - at) (omega arith) (omega arith)

  pub place_out : ¬ ((at ≤ a) × (a < at + length bs)) → get_or (take at cells ++ give_of (drop at cells) bs) a 0 ≡ get_or cells a 0
  place_out n = go (leb at a) refl
    where
      go : (b : Bool) → leb at a ≡ b → get_or (take at cells ++ give_of (drop at cells) bs) a 0 ≡ get_or cells a 0
      go false e = place-below (leb-false at a e)
      go true e =
          let k = leb-true at a e in
          let o : ¬ (a < at + length bs) = λ z. n (k, z) in
          let q : at + (a - at) ≡ a = omega arith in
          place-from k ∙ give-past (drop at cells) bs (a - at) (omega arith) ∙ get_or-drop at cells (a - at) 0 ∙ rw q

-- What the lines up to the end of one give: what those before it give, and it itself.
module _ (text : List ℕ) (p e : ℕ) (x : LineAt text p e) (a : ℕ) where
  pub given-here : Gives (characters_of text p e) a → GivenBefore text (e + 1) a
  given-here g = let k = x.order in record { from = p; to = e; line = x; before = omega arith; gives = g }

  pub given-earlier : GivenBefore text p a → GivenBefore text (e + 1) a
  given-earlier g =
      let k = x.order in
      let b = g.before in
      record { from = g.from; to = g.to; line = g.line; before = omega arith; gives = g.gives }

  pub given-split : GivenBefore text (e + 1) a → GivenBefore text p a ⊎ Gives (characters_of text p e) a
  given-split g = go (three_ways g.from p)
    where
      go : (g.from < p) ⊎ ((g.from ≡ p) ⊎ (p < g.from)) → GivenBefore text p a ⊎ Gives (characters_of text p e) a
      go (inl h) = inl (record { from = g.from; to = g.to; line = g.line; before = h; gives = g.gives })
      go (inr (inl h)) =
          let y : LineAt text p g.to = rw h at g.line in
          let z : g.to ≡ e = one_end text p g.to e y x in
          inr (rw (h, z) at g.gives)
      go (inr (inr h)) = let b = g.before in absurd (none_within text p e g.from g.to x g.line h (omega arith))

-- The cells after a line's data are given.
module _ (size : ℕ) (text : List ℕ) (p e : ℕ) (cells : List ℕ) (x : LineAt text p e) (w : WellFormed (characters_of text p e))
    (f : Filled size text p cells) where
  abbrev l : List ℕ
  l = characters_of text p e

  decide : (a : ℕ) → Gives l a ⊎ (¬ Gives l a)
  decide a = go (leb (address l) a) refl (ltb a (address l + count l)) refl
    where
      go : (b : Bool) → leb (address l) a ≡ b → (c : Bool) → ltb a (address l + count l) ≡ c → Gives l a ⊎ (¬ Gives l a)
      go true h true k = inl (leb-true (address l) a h, ltb-true a (address l + count l) k)
      go true h false k = inr (λ g. omega (arith, ltb-false a (address l + count l) k, g.1))
      go false h c k = inr (λ g. omega (arith, leb-false (address l) a h, g.0))

  given-in : (a : ℕ) → a < size → Gives l a → ¬ (get_or (given_of intel cells l) a 0 ≡ 256)
  unfolding given_of
  given-in a h g z =
      let k = f.long in
      let m = same_address l w in
      let n = data-count l w in
      let y = g.0 in
      let v = g.1 in
      let q = place_in cells (data_of (bytes_in l)) (record_address (bytes_in l)) a (omega arith) (omega arith) (omega arith) in
      let s = data-small l w (a - record_address (bytes_in l)) (omega arith) in
      omega arith

  given_out : (a : ℕ) → a < size → ¬ Gives l a → get_or (given_of intel cells l) a 0 ≡ get_or cells a 0
  unfolding given_of
  given_out a h o =
      let k = f.long in
      let m = same_address l w in
      let n = data-count l w in
      place_out cells (data_of (bytes_in l)) (record_address (bytes_in l)) a (omega arith) (λ g. let y = g.0 in let v = g.1 in o (omega arith, omega arith))

  given-length : length (given_of intel cells l) ≡ size
  unfolding given_of
  given-length = let k = f.long in simp (length-append, length-take, length-give_of, length-drop) (omega arith)

  free-next : (a : ℕ) → a < size → get_or (given_of intel cells l) a 0 ≡ 256 → Gives l a ⊎ (¬ Gives l a)
      → GivenBefore text p a ⊎ Gives l a → ⊥
  free-next a h z (inl y) g = given-in a h y z
  free-next a h z (inr y) (inl g) = f.free a h (sym (given_out a h y) ∙ z) g
  free-next a h z (inr y) (inr g) = y g

  given-next : (a : ℕ) → a < size → ¬ (get_or (given_of intel cells l) a 0 ≡ 256) → Gives l a ⊎ (¬ Gives l a) → GivenBefore text (e + 1) a
  given-next a h z (inl y) = given-here text p e x a y
  given-next a h z (inr y) = given-earlier text p e x a (f.given a h (λ q. z (given_out a h y ∙ q)))

  pub filled_next : Filled size text (e + 1) (given_of intel cells l)
  filled_next =
      record {
        long = given-length;
        free = λ a h z g. free-next a h z (decide a) (given-split text p e x a g);
        given = λ a h z. given-next a h z (decide a);
      }
