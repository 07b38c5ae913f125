-- Laws of places: those of joined rows, that they ascend, and what laying them over a row does. Assumes nothing.
use Prim.Native.Nat.{ℕ, zero, suc, ◌+◌, ◌/◌, ◌%◌, ◌≤◌, ◌<◌}
use mathlib.Core.Bool.{Bool, true, false, not, ◌&&◌}
use mathlib.Core.List.{List, [], ◌∷◌, ◌++◌}
use mathlib.Core.Path.{◌≡◌, refl, ap, sym, ◌∙◌}
use native.Mathlib.Numerals.{add-one}
use native.Mathlib.Omega.{arith}
use lib.Dec.{eqb, leb, ltb}
use lib.ListN.{length, get_or, take, drop, set, length-append, take-append-drop, length-set, drop_of_length-le}
use lib.Seq.{sets, take-nil, drop-nil, drop-cons}
use borrow.Author.Tests.{eq-eqb, ne_eqb, eqb-true, eqb-false, le-leb, leb-true, lt-ltb}
use Rattle.ground.specs.Cases.{odd}
use Rattle.ground.proofs.Tests.{and_split}
use Rattle.ground.proofs.Rows.{sets-append}
use Rattle.places.specs.Places.{disagrees, place_by, places_from, laid_over}
use Rattle.places.specs.Parts.{Gathers, ascending}

-- A number is even if it is not odd.
even : (n : ℕ) → eqb (n % 2) 0 ≡ not (odd n)
even n = go (odd n) refl
  where
    go : (b : Bool) → odd n ≡ b → eqb (n % 2) 0 ≡ not b
    go true e = ne_eqb (n % 2) 0 (λ z. omega (arith, eqb-true (n % 2) 1 e))
    go false e = let h = eqb-false (n % 2) 1 e in eq-eqb (n % 2) 0 (omega arith)

-- Both lines high: the twin's answer decides.
pub high_tells : (level answer : ℕ) → level % 4 ≡ 3 → eqb (answer % 2) 0 ≡ disagrees level answer
high_tells level answer h = rw (eq-eqb (level % 2) 1 (omega arith), eq-eqb (level / 2 % 2) 1 (omega arith), even answer)

-- Else there is nothing to report.
pub low_tells : (level answer : ℕ) → (level % 4 ≡ 3 → ⊥) → false ≡ disagrees level answer
low_tells level answer h = go (odd level) (odd (level / 2)) refl refl
  where
    go : (a b : Bool) → odd level ≡ a → odd (level / 2) ≡ b → false ≡ a && (b && not (odd answer))
    go false b e f = refl
    go true false e f = refl
    go true true e f = absurd (h (omega (arith, eqb-true (level % 2) 1 e, eqb-true (level / 2 % 2) 1 f)))

-- Rows joined have the places of the first, then those of the second, counted on.
pub places-append : (k : ℕ) (ls₁ ls₂ as₁ as₂ : List ℕ) → length ls₁ ≡ length as₁
    → places_from k (ls₁ ++ ls₂) (as₁ ++ as₂) ≡ places_from k ls₁ as₁ ++ places_from (k + length ls₁) ls₂ as₂
places-append k [] ls₂ [] as₂ h = let e : k + 0 ≡ k = omega arith in rw e
places-append k [] ls₂ (a ∷ as₁) as₂ h = absurd (omega arith)
places-append k (l ∷ ls₁) ls₂ [] as₂ h = absurd (omega arith)
places-append k (l ∷ ls₁) ls₂ (a ∷ as₁) as₂ h =
    let e : suc k + length ls₁ ≡ k + suc (length ls₁) = omega arith in
    let r = places-append (suc k) ls₁ ls₂ as₁ as₂ (omega arith) in
    rw (r, e) (go (disagrees l a) (places_from (suc k) ls₁ as₁) (places_from (k + suc (length ls₁)) ls₂ as₂))
  where
    go : (b : Bool) (ps qs : List ℕ) → place_by b k (ps ++ qs) ≡ place_by b k ps ++ qs
    go true ps qs = refl
    go false ps qs = refl

-- There are no more places than rows are long.
pub places-few : (k : ℕ) (ls answers : List ℕ) → length (places_from k ls answers) ≤ length ls
places-few k [] answers = omega arith
places-few k (l ∷ ls) [] = omega arith
places-few k (l ∷ ls) (a ∷ answers) = go (disagrees l a) (places_from (suc k) ls answers) (places-few (suc k) ls answers)
  where
    go : (b : Bool) (ps : List ℕ) → length ps ≤ length ls → length (place_by b k ps) ≤ suc (length ls)
    go true ps h = omega arith
    go false ps h = omega arith

-- What ascends from a number on ascends from any lower one on.
ascends-lower : (j k end : ℕ) (ps : List ℕ) → j ≤ k → ascending k end ps ≡ true → ascending j end ps ≡ true
ascends-lower j k end [] h e = refl
ascends-lower j k end (p ∷ ps) h e =
    let t = and_split (leb k p) (ltb p end && ascending (suc p) end ps) e in
    rw (le-leb j p (omega (arith, leb-true k p t.0))) t.1

-- Places ascend, each once, from the first place on and within the rows.
pub places-ascend : (k : ℕ) (ls answers : List ℕ) → ascending k (k + length ls) (places_from k ls answers) ≡ true
places-ascend k [] answers = refl
places-ascend k (l ∷ ls) [] = refl
places-ascend k (l ∷ ls) (a ∷ answers) =
    let e : suc k + length ls ≡ k + suc (length ls) = omega arith in
    go (disagrees l a) (places_from (suc k) ls answers) (rw e at (places-ascend (suc k) ls answers))
  where
    go : (b : Bool) (ps : List ℕ) → ascending (suc k) (k + suc (length ls)) ps ≡ true
        → ascending k (k + suc (length ls)) (place_by b k ps) ≡ true
    go true ps h = rw (le-leb k k (omega arith), lt-ltb k (k + suc (length ls)) (omega arith)) h
    go false ps h = ascends-lower k (suc k) (k + suc (length ls)) ps (omega arith) h

-- Places laid over a row from an index on are stored there one after the other, as far as the row goes.
laid_cons : (n p : ℕ) (ps row : List ℕ)
    → take n row ++ laid_over (p ∷ ps) (drop n row) ≡ take (suc n) (set row n p) ++ laid_over ps (drop (suc n) (set row n p))
laid_cons zero p ps [] = sym (drop-nil (length ps))
laid_cons zero p ps (x ∷ row) = refl
laid_cons (suc n) p ps [] = sym (drop-nil (length ps))
laid_cons (suc n) p ps (x ∷ row) = ap (λ (r : List ℕ). x ∷ r) (laid_cons n p ps row)

pub laid-sets : (n : ℕ) (ps row : List ℕ) → take n row ++ laid_over ps (drop n row) ≡ sets row n ps
laid-sets n [] row = rw (take-nil, take-append-drop)
laid-sets n (p ∷ ps) row = laid_cons n p ps row ∙ laid-sets (suc n) ps (set row n p)

-- One run of places laid behind another is their joining laid at once; where the row is too short the first of them are kept.
pub laid-append : (n m : ℕ) (ps qs row : List ℕ) → m ≡ n + length ps
    → take m (take n row ++ laid_over ps (drop n row)) ++ laid_over qs (drop m (take n row ++ laid_over ps (drop n row)))
    ≡ take n row ++ laid_over (ps ++ qs) (drop n row)
laid-append n m ps qs row e =
    rw (laid-sets n ps row, laid-sets m qs (sets row n ps), laid-sets n (ps ++ qs) row) (sets-append ps qs row n m e)

-- Two pieces gathered one after the other are the joined piece gathered.
pub gathers-joined : (ls₁ ls₂ as₁ as₂ row row₁ row₂ : List ℕ) (k before r₁ r₂ : ℕ) → length ls₁ ≡ length as₁
    → Gathers ls₁ as₁ k row before r₁ row₁ → Gathers ls₂ as₂ (k + length ls₁) row₁ r₁ r₂ row₂
    → Gathers (ls₁ ++ ls₂) (as₁ ++ as₂) k row before r₂ row₂
gathers-joined ls₁ ls₂ as₁ as₂ row row₁ row₂ k before r₁ r₂ h x y =
    let ps = places_from k ls₁ as₁ in
    let qs = places_from (k + length ls₁) ls₂ as₂ in
    let e = places-append k ls₁ ls₂ as₁ as₂ h in
    let n : length (ps ++ qs) ≡ length ps + length qs = length-append ps qs in
    record {
      count = rw e (omega (arith, x.count, y.count));
      said = rw e (y.said ∙ rw x.said (laid-append before r₁ ps qs row x.count));
    }

-- The places that are left, by the sample at the index.
pub left-cons : (ls answers : List ℕ) (first i : ℕ) → i < length ls → i < length answers
    → (b : Bool) → b ≡ disagrees (get_or ls i 0) (get_or answers i 0)
    → places_from (first + i) (drop i ls) (drop i answers)
    ≡ place_by b (first + i) (places_from (first + (i + 1)) (drop (i + 1) ls) (drop (i + 1) answers))
left-cons ls answers first i h k b e =
    let n : suc (first + i) ≡ first + (i + 1) = omega arith in
    rw (e, drop-cons ls i 0 h, drop-cons answers i 0 k, n, add-one)

-- A gathering that has come to an index: what is left to gather gives the whole.
pub record Gathering (ls answers : List ℕ) (first : ℕ) (row₀ : List ℕ) (before : ℕ) (row : List ℕ) (found i : ℕ) : Type 0 where
  pub within : i ≤ length ls
  pub few : found ≤ first + i
  pub long : length row ≡ length row₀
  pub count : found + length (places_from (first + i) (drop i ls) (drop i answers)) ≡ before + length (places_from first ls answers)
  pub said : sets row found (places_from (first + i) (drop i ls) (drop i answers)) ≡ sets row₀ before (places_from first ls answers)

module _ (ls answers : List ℕ) (first : ℕ) (row₀ : List ℕ) (before : ℕ) where
  pub gathering-starts : before ≤ first → Gathering ls answers first row₀ before row₀ before 0
  gathering-starts h =
      let e : first + 0 ≡ first = omega arith in
      record { within = omega arith; few = omega arith; long = refl; count = rw e; said = rw e }

  module _ (row : List ℕ) (found i : ℕ) (g : Gathering ls answers first row₀ before row found i) where
    -- At the end nothing is left.
    pub gathering-ends : length ls ≤ i → Gathers ls answers first row₀ before found row
    gathering-ends h =
        let e : drop i ls ≡ [] = drop_of_length-le ls h in
        let c : found + length (places_from (first + i) [] (drop i answers)) ≡ before + length (places_from first ls answers) = rw e at g.count in
        let s : sets row found (places_from (first + i) [] (drop i answers)) ≡ sets row₀ before (places_from first ls answers) = rw e at g.said in
        record { count = omega arith; said = s ∙ sym (laid-sets before (places_from first ls answers) row₀) }

    module _ (h : i < length ls) (k : i < length answers) where
      -- A place that is found goes into the row, if it has room there.
      pub turn-found : (b : Bool) (row' : List ℕ) (found' : ℕ) → b ≡ disagrees (get_or ls i 0) (get_or answers i 0) → b ≡ true
          → row' ≡ set row found (first + i) → found' ≡ found + 1 → Gathering ls answers first row₀ before row' found' (i + 1)
      turn-found b row' found' e t r f =
          let p = left-cons ls answers first i h k true (sym t ∙ e) in
          let n = ap length p in
          record {
            within = omega arith;
            few = omega (arith, g.few);
            long = rw r (length-set row found (first + i) ∙ g.long);
            count = omega (arith, g.count);
            said = rw (r, f, add-one found) (rw p at g.said);
          }

      -- Any other sample changes nothing.
      pub turn-passed : (b : Bool) (row' : List ℕ) (found' : ℕ) → b ≡ disagrees (get_or ls i 0) (get_or answers i 0) → b ≡ false
          → row' ≡ row → found' ≡ found → Gathering ls answers first row₀ before row' found' (i + 1)
      turn-passed b row' found' e t r f =
          let p = left-cons ls answers first i h k false (sym t ∙ e) in
          record {
            within = omega arith;
            few = omega (arith, g.few);
            long = rw r g.long;
            count = rw f (rw p at g.count);
            said = rw (r, f) (rw p at g.said);
          }
