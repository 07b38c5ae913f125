-- Laws of samples replayed piece after piece: the parts, the answers and the places of joined samples. Assumes nothing.
use Prim.Native.Nat.{ℕ, ◌+◌, ◌≤◌}
use mathlib.Core.List.{List, [], ◌++◌, map-append}
use mathlib.Core.Path.{◌≡◌, refl, ap, sym, ◌∙◌}
use native.Mathlib.Omega.{arith}
use lib.ListN.{length, take, drop, length-append, length-take, take-append-drop, length-map}
use lib.Seq.{sets, length-sets}
use Rattle.ground.specs.Numbers.{most_samples}
use Rattle.ground.specs.Verdict.{Verdict, accepted}
use Rattle.ground.proofs.Rows.{sets-append}
use Rattle.limits.specs.Samples as limits
use Rattle.refusals.specs.Refusals.{judged_of}
use Rattle.sample.specs.Run.{Part, answers_of}
use Rattle.ranges.specs.Fit.{Fit}
use Rattle.onward.proofs.Onward.{run-append, answers-append, answers-length, fit-judged}
use Rattle.dumps.specs.Samples.{Sample, elapsed_of, levels_of}
use Rattle.places.specs.Places.{places_in, part_after_all, laid_over}
use Rattle.places.specs.Parts.{Gathers}
use Rattle.places.proofs.PlaceLaws.{places-append, places-few, laid-sets}

-- A time and a level byte for each sample.
pub elapsed-length : (ss : List Sample) → length (elapsed_of ss) ≡ length ss
elapsed-length ss = length-map ss (λ (s : Sample). s.elapsed)

pub levels-length : (ss : List Sample) → length (levels_of ss) ≡ length ss
levels-length ss = length-map ss (λ (s : Sample). s.level)

rows_alike : (ss : List Sample) → length (elapsed_of ss) ≡ length (levels_of ss)
rows_alike ss = elapsed-length ss ∙ sym (levels-length ss)

elapsed-append : (xs ys : List Sample) → elapsed_of (xs ++ ys) ≡ elapsed_of xs ++ elapsed_of ys
elapsed-append xs ys = map-append (λ (s : Sample). s.elapsed) xs ys

levels-append : (xs ys : List Sample) → levels_of (xs ++ ys) ≡ levels_of xs ++ levels_of ys
levels-append xs ys = map-append (λ (s : Sample). s.level) xs ys

-- There is an answer for each sample.
pub said-length : (ss : List Sample) (p : Part) → length (answers_of (elapsed_of ss) (levels_of ss) p) ≡ length ss
said-length ss p = answers-length (elapsed_of ss) (levels_of ss) p (rows_alike ss) ∙ levels-length ss

-- Samples joined are replayed one after the other.
pub after-append : (xs ys : List Sample) (p : Part) → part_after_all (xs ++ ys) p ≡ part_after_all ys (part_after_all xs p)
after-append xs ys p =
    rw (elapsed-append xs ys, levels-append xs ys)
    (run-append (elapsed_of xs) (levels_of xs) (elapsed_of ys) (levels_of ys) p (rows_alike xs))

-- And their places are those of the first, then those of the second, counted on from the part that the first leave.
pub in-append : (k : ℕ) (xs ys : List Sample) (p : Part)
    → places_in k (xs ++ ys) p ≡ places_in k xs p ++ places_in (k + length xs) ys (part_after_all xs p)
in-append k xs ys p =
    let e = answers-append (elapsed_of xs) (levels_of xs) (elapsed_of ys) (levels_of ys) p (rows_alike xs) in
    let h = levels-length xs ∙ sym (said-length xs p) in
    rw (elapsed-append xs ys, levels-append xs ys, e, ← levels-length xs)
    (places-append k (levels_of xs) (levels_of ys) _ _ h)

-- A part that is fit takes a piece of them that refusals 9 and 10 let through.
pub piece-judged : (ss : List Sample) (p : Part) (row : List ℕ) → Fit p → length ss ≤ most_samples → length row ≡ length ss
    → ((v : Verdict) → limits.samples_of 0 (elapsed_of ss) (levels_of ss) v ≡ v)
    → judged_of p.state (elapsed_of ss) (levels_of ss) p.array row ≡ accepted (length (levels_of ss))
piece-judged ss p row g m e h =
    let n = levels-length ss in
    fit-judged p (elapsed_of ss) (levels_of ss) row g (rows_alike ss) (omega arith) (omega arith) (h _)

-- A replay of pieces that has come to a stand: what is left to replay gives the whole.
pub record Playing (k₀ : ℕ) (ss₀ : List Sample) (p₀ : Part) (row₀ : List ℕ) (k : ℕ) (ss : List Sample) (p : Part) (row : List ℕ) (found : ℕ)
    : Type 0 where
  pub few : found ≤ k
  pub long : length row ≡ length row₀
  pub count : found + length (places_in k ss p) ≡ length (places_in k₀ ss₀ p₀)
  pub said : sets row found (places_in k ss p) ≡ sets row₀ 0 (places_in k₀ ss₀ p₀)
  pub part : part_after_all ss p ≡ part_after_all ss₀ p₀

module _ (k₀ : ℕ) (ss₀ : List Sample) (p₀ : Part) (row₀ : List ℕ) where
  pub playing-starts : Playing k₀ ss₀ p₀ row₀ k₀ ss₀ p₀ row₀ 0
  playing-starts = record { few = omega arith; long = refl; count = omega arith; said = refl; part = refl }

  module _ (k : ℕ) (ss : List Sample) (p : Part) (row : List ℕ) (found : ℕ) (g : Playing k₀ ss₀ p₀ row₀ k ss p row found) where
    -- Where nothing is left, all is there.
    pub playing-ends : ss ≡ []
        → (found ≡ length (places_in k₀ ss₀ p₀)) × (row ≡ laid_over (places_in k₀ ss₀ p₀) row₀) × (p ≡ part_after_all ss₀ p₀)
    playing-ends e =
        let c : found + length (places_in k [] p) ≡ length (places_in k₀ ss₀ p₀) = rw e at g.count in
        let s : sets row found (places_in k [] p) ≡ sets row₀ 0 (places_in k₀ ss₀ p₀) = rw e at g.said in
        (omega arith, s ∙ sym (laid-sets 0 (places_in k₀ ss₀ p₀) row₀), rw e at g.part)

    -- A piece replayed and gathered.
    pub playing-on : (n r k' : ℕ) (ss' : List Sample) (p' : Part) (row' : List ℕ) → n ≤ length ss
        → Gathers (levels_of (take n ss)) (answers_of (elapsed_of (take n ss)) (levels_of (take n ss)) p) k row found r row'
        → k' ≡ k + n → ss' ≡ drop n ss → p' ≡ part_after_all (take n ss) p
        → Playing k₀ ss₀ p₀ row₀ k' ss' p' row' r
    playing-on n r k' ss' p' row' h x a b c =
        let xs = take n ss in
        let ps = places_in k xs p in
        let qs = places_in (k + n) (drop n ss) (part_after_all xs p) in
        let t : xs ++ drop n ss ≡ ss = take-append-drop n ss in
        let m : length xs ≡ n = length-take n ss ∙ omega arith in
        let e : places_in k ss p ≡ ps ++ qs =
        ap (λ (zs : List Sample). places_in k zs p) (sym t) ∙ in-append k xs (drop n ss) p
        ∙ ap (λ (i : ℕ). ps ++ places_in (k + i) (drop n ss) (part_after_all xs p)) m
        in
        let l : length (ps ++ qs) ≡ length ps + length qs = length-append ps qs in
        let f : length ps ≤ length (levels_of xs) = places-few k (levels_of xs) (answers_of (elapsed_of xs) (levels_of xs) p) in
        let o : row' ≡ sets row found ps = x.said ∙ laid-sets found ps row in
        let u : found + length (ps ++ qs) ≡ length (places_in k₀ ss₀ p₀) = rw e at g.count in
        let v : sets row found (ps ++ qs) ≡ sets row₀ 0 (places_in k₀ ss₀ p₀) = rw e at g.said in
        record {
          few = omega (arith, levels-length xs, x.count, g.few);
          long = ap length o ∙ length-sets row found ps ∙ g.long;
          count = rw (a, b, c) (omega (arith, x.count));
          said = rw (a, b, c, o) (sets-append ps qs row found r x.count ∙ v);
          part = rw (b, c) (sym (after-append xs (drop n ss) p) ∙ ap (λ (zs : List Sample). part_after_all zs p) t ∙ g.part);
        }
