-- Demand 3: two parts in one state whose arrays are equal but for one address, given the same samples. Their answers
-- first differ at the sample where a byte fetched from the address within the samples reaches an unequal bit, there in
-- the SDA bit alone; where none does they never differ, and all that is left unequal is the array at the address and a
-- byte from it being sent. A write that covers the address before any fetch from it makes the two equal from then on.
-- The bit that is out is what a part gives on SDA, and a byte that no write covers stays.
-- Assumes a page load of 64 bytes and 64 marks.
use Prim.Native.Nat.{ℕ, zero, suc, ◌+◌, ◌<◌}
use mathlib.Core.Bool.{Bool, true, false, not}
use mathlib.Core.List.{List, [], ◌∷◌}
use mathlib.Core.Path.{◌≡◌, refl, ap, sym, subst, ◌∙◌}
use native.Mathlib.Omega.{arith}
use lib.ListN.{get_or, take}
use borrow.Author.Tests.{eqb-true, not-true, not-false}
use Rattle.ground.proofs.Tests.{and_split}
use Rattle.part.specs.Bench.{part_of}
use Rattle.part.specs.declared.state.State.{State}
use Rattle.levels.specs.Level.{answer_of}
use Rattle.sample.specs.Sample.{step_of, array_of}
use Rattle.sample.specs.Run.{Part, part_step, run_of, answers_of}
use Rattle.demand3.specs.Sending.{Sent, nothing, sent_of}
use Rattle.demand3.specs.Differ.{never, sample, reaches, first_reach, first_diff, fetches, covers, first_cover, fetches_none, EqualBut, FullLoad, sent_after, SplitAt, Alike, Unfetched, Covered, TwoParts}
use Rattle.demand3.proofs.Sent.TwoArrays.{arrays-kept, arrays-equal, array-silent, whole-kept}
use Rattle.demand3.proofs.Sent.OneSample.{Beside, equal}
use Rattle.demand3.proofs.Sent.Reached.{same-but-out, beside-answers, beside-line, beside-silenced, beside-equal, beside-step}
use Rattle.demand3.proofs.Sent.Shown.{shown}
use Rattle.demand3.proofs.Sent.OneByte.{rows_stay}

-- Two parts beside each other, with what each sends: their states are, and their arrays are equal but for the address.
record Near (a : ℕ) (p q : Part) (g h : Sent) : Type 0 where
  states : Beside a p.state q.state g h
  arrays : EqualBut a p.array q.array
  whole : FullLoad p.state

-- Until they reach an unequal bit, a sample leaves two parts beside each other.
near_step : {a : ℕ} {p q : Part} {g h : Sent} (e level : ℕ) → Near a p q g h → reaches a g h ≡ false
    → Near a (part_step e level p) (part_step e level q) (sent_of e level p g) (sent_of e level q h)
unfolding part_step
near_step {a} {p} {q} e level n x =
    let one : array_of e level q.array p.state ≡ array_of e level q.array q.state =
    array-silent e level p.state q.array
    ∙ ap (array_of e level q.array) (beside-silenced n.states x)
    ∙ sym (array-silent e level q.state q.array) in
    record {
      states = beside-step n.arrays e level n.states x;
      arrays = rw (← one) (arrays-kept e level p.state n.whole n.arrays);
      whole = whole-kept e level p.array p.state n.whole;
    }

-- How two parts go through the rows, samples counted from i: they split at a sample, or stay beside each other.
data Goes (a i : ℕ) (es ls : List ℕ) (p q : Part) (g h : Sent) : Type 0 where
  splits : (k : ℕ) → first_reach a i es ls p q g h ≡ sample (i + k)
      → first_diff i (answers_of es ls p) (answers_of es ls q) ≡ sample (i + k)
      → SplitAt k (answers_of es ls p) (answers_of es ls q) → Goes a i es ls p q g h
  stays : first_reach a i es ls p q g h ≡ never
      → first_diff i (answers_of es ls p) (answers_of es ls q) ≡ never
      → answers_of es ls p ≡ answers_of es ls q
      → Near a (run_of es ls p) (run_of es ls q) (sent_after es ls p g) (sent_after es ls q h)
      → reaches a (sent_after es ls p g) (sent_after es ls q h) ≡ false → Goes a i es ls p q g h

-- Rows of answers that begin alike split where their tails do, one later.
split-later : {k x y : ℕ} {xs ys : List ℕ} → x ≡ y → SplitAt k xs ys → SplitAt (suc k) (x ∷ xs) (y ∷ ys)
split-later {k} {x} {y} {xs} {ys} e s = record { before = go; others = s.others; line = s.line }
  where
    go : (i : ℕ) → i < suc k → get_or (x ∷ xs) i 0 ≡ get_or (y ∷ ys) i 0
    go zero h = e
    go (suc i) h = s.before i (omega arith)

module _ {a i e l : ℕ} {es ls : List ℕ} {p q : Part} {g h : Sent} where
  -- A sample that reaches an unequal bit splits them.
  goes-here : Near a (part_step e l p) (part_step e l q) (sent_of e l p g) (sent_of e l q h)
      → reaches a (sent_of e l p g) (sent_of e l q h) ≡ true → Goes a i (e ∷ es) (l ∷ ls) p q g h
  goes-here n x =
      let here : i + 0 ≡ i = omega arith in
      let d = beside-line n.states x in
      splits 0
      (rw (x, here))
      (rw (beside-answers n.states, x, here))
      record { before = λ j f. absurd (omega arith); others = d.others; line = d.line }

  -- After one that does not, they go as through the later rows.
  goes_later : Near a (part_step e l p) (part_step e l q) (sent_of e l p g) (sent_of e l q h)
      → reaches a (sent_of e l p g) (sent_of e l q h) ≡ false
      → Goes a (i + 1) es ls (part_step e l p) (part_step e l q) (sent_of e l p g) (sent_of e l q h)
      → Goes a i (e ∷ es) (l ∷ ls) p q g h
  goes_later n x (splits k r d s) =
      let t = beside-answers n.states ∙ x in
      let b : i + 1 + k ≡ i + suc k = omega arith in
      splits (suc k)
      (rw x (r ∙ ap sample b))
      (rw t (d ∙ ap sample b))
      (split-later (eqb-true _ _ (not-false _ t)) s)
  goes_later n x (stays r d s m y) =
      let t = beside-answers n.states ∙ x in
      let b : answer_of (part_step e l p).state ≡ answer_of (part_step e l q).state = eqb-true _ _ (not-false _ t) in
      stays (rw x r) (rw t d) (cc) m y

-- Two parts beside each other go so through any rows.
goes : {a : ℕ} (i : ℕ) (es ls : List ℕ) {p q : Part} {g h : Sent} → Near a p q g h → reaches a g h ≡ false
    → Goes a i es ls p q g h
goes i [] ls n x = stays refl refl refl n x
goes i (e ∷ es) [] n x = stays refl refl refl n x
goes {a} i (e ∷ es) (l ∷ ls) {p} {q} {g} {h} n x =
    by (reaches a (sent_of e l p g) (sent_of e l q h)) refl (near_step e l n x) (goes (i + 1) es ls)
  where
    by : (b : Bool) → reaches a (sent_of e l p g) (sent_of e l q h) ≡ b
        → Near a (part_step e l p) (part_step e l q) (sent_of e l p g) (sent_of e l q h)
        → (Near a (part_step e l p) (part_step e l q) (sent_of e l p g) (sent_of e l q h)
        → reaches a (sent_of e l p g) (sent_of e l q h) ≡ false
        → Goes a (i + 1) es ls (part_step e l p) (part_step e l q) (sent_of e l p g) (sent_of e l q h))
        → Goes a i (e ∷ es) (l ∷ ls) p q g h
    by true y m later = goes-here m y
    by false y m later = goes_later m y (later m y)

-- A sample that does not fetch from the address leaves one state one.
states-stay : {a : ℕ} {xs ys : List ℕ} (e l : ℕ) (s : State) → EqualBut a xs ys
    → fetches a e l (part_of s xs) ≡ false → step_of e l xs s ≡ step_of e l ys s
states-stay {a} {xs} {ys} e l s but x =
    let start : Beside a s s nothing nothing = equal refl refl refl in
    beside-equal (beside-step but e l start refl) (ap not x)

-- Rows that fetch nothing from the address leave one state one.
until-rows : {a : ℕ} {xs ys : List ℕ} (es ls : List ℕ) (s : State) → FullLoad s → EqualBut a xs ys
    → fetches_none a es ls (part_of s xs) ≡ true → Unfetched a es ls (part_of s xs) (part_of s ys)
unfolding part_step
until-rows [] ls s w but f = record { states = refl; answers = refl; arrays = but }
until-rows (e ∷ es) [] s w but f = record { states = refl; answers = refl; arrays = but }
until-rows {a} {xs} {ys} (e ∷ es) (l ∷ ls) s w but f =
    let d = and_split (not (fetches a e l (part_of s xs))) (fetches_none a es ls (part_step e l (part_of s xs))) f in
    let x = states-stay e l s but (not-true (fetches a e l (part_of s xs)) d.0) in
    let u = until-rows {a = a} {xs = array_of e l xs s} {ys = array_of e l ys s} es ls (step_of e l xs s) (whole-kept e l xs s w) (arrays-kept e l s w but) d.1 in
    let p : Part = part_of (step_of e l xs s) (array_of e l xs s) in
    let m = ap (λ (t : State). part_of t (array_of e l ys s)) x in
    record {
      states = u.states ∙ ap (λ (z : Part). (run_of es ls z).state) m;
      answers = ap (λ (r : List ℕ). answer_of p.state ∷ r) u.answers ∙ ap (λ (z : Part). answer_of z.state ∷ answers_of es ls z) m;
      arrays = subst (λ (z : Part). EqualBut a (run_of es ls p).array (run_of es ls z).array) m u.arrays;
    }

-- How two parts in one state go through the rows, samples counted from i: the first cover makes them equal, or there is none.
data Covers (a i : ℕ) (es ls : List ℕ) (p q : Part) : Type 0 where
  covered-at : (k : ℕ) → first_cover a i es ls p ≡ sample (i + k) → Covered k es ls p q → Covers a i es ls p q
  uncovered : first_cover a i es ls p ≡ never → Covers a i es ls p q

module _ {a i e l : ℕ} {es ls : List ℕ} {p q : Part} (x : fetches a e l p ≡ false) where
  -- Parts that a cover made equal stay equal and answer alike.
  covers-here : covers a e l p ≡ true → part_step e l p ≡ part_step e l q → Covers a i (e ∷ es) (l ∷ ls) p q
  covers-here y f =
      let here : i + 0 ≡ i = omega arith in
      covered-at 0 (rw (x, y, here))
      record { later = go; after = ap (run_of es ls) f; answers = ap (λ (z : Part). answer_of z.state ∷ answers_of es ls z) f }
    where
      go : (n : ℕ) → 0 < n → run_of (take n (e ∷ es)) (take n (l ∷ ls)) p ≡ run_of (take n (e ∷ es)) (take n (l ∷ ls)) q
      go zero h = absurd (omega arith)
      go (suc n) h = ap (run_of (take n es) (take n ls)) f

  -- Without a cover they go as through the later rows.
  covers-later : covers a e l p ≡ false → (part_step e l p).state ≡ (part_step e l q).state
      → Covers a (i + 1) es ls (part_step e l p) (part_step e l q) → Covers a i (e ∷ es) (l ∷ ls) p q
  covers-later y f (covered-at k r c) =
      let b : i + 1 + k ≡ i + suc k = omega arith in
      let d = ap answer_of f in
      let t = c.answers in
      covered-at (suc k) (rw (x, y) (r ∙ ap sample b))
      record { later = go; after = c.after; answers = cc }
    where
      go : (n : ℕ) → suc k < n → run_of (take n (e ∷ es)) (take n (l ∷ ls)) p ≡ run_of (take n (e ∷ es)) (take n (l ∷ ls)) q
      go zero h = absurd (omega arith)
      go (suc n) h = c.later n (omega arith)
  covers-later y f (uncovered r) = uncovered (rw (x, y) r)

-- They go so by whether a sample fetches from the address, and whether it covers it.
covers-by : {a i : ℕ} {es ls xs ys : List ℕ} (e l : ℕ) (s : State) (b c : Bool) → FullLoad s → EqualBut a xs ys
    → fetches a e l (part_of s xs) ≡ b → covers a e l (part_of s xs) ≡ c
    → Covers a (i + 1) es ls (part_of (step_of e l xs s) (array_of e l xs s)) (part_of (step_of e l xs s) (array_of e l ys s))
    → Covers a i (e ∷ es) (l ∷ ls) (part_of s xs) (part_of s ys)
unfolding part_step
covers-by e l s true c w but x y m = uncovered (rw x)
covers-by e l s false true w but x y m =
    let f = states-stay e l s but x in
    let g = arrays-equal e l s w but y in
    covers-here x y (rw (f, g))
covers-by e l s false false w but x y m =
    let f = states-stay e l s but x in
    covers-later x y f (rw (← f) m)

-- Two parts in one state, their arrays equal but for the address, go so through any rows.
covers-rows : {a : ℕ} {xs ys : List ℕ} (i : ℕ) (es ls : List ℕ) (s : State) → FullLoad s → EqualBut a xs ys
    → Covers a i es ls (part_of s xs) (part_of s ys)
covers-rows i [] ls s w but = uncovered refl
covers-rows i (e ∷ es) [] s w but = uncovered refl
covers-rows {a = a} {xs = xs} {ys = ys} i (e ∷ es) (l ∷ ls) s w but =
    covers-by e l s (fetches a e l (part_of s xs)) (covers a e l (part_of s xs)) w but refl refl
    (covers-rows {a = a} {xs = array_of e l xs s} {ys = array_of e l ys s} (i + 1) es ls (step_of e l xs s) (whole-kept e l xs s w) (arrays-kept e l s w but))

module _ {a : ℕ} {es ls : List ℕ} {p q : Part} where
  -- Parts that go through the rows so differ first where they first reach an unequal bit.
  first_of : Goes a 0 es ls p q nothing nothing
      → first_diff 0 (answers_of es ls p) (answers_of es ls q) ≡ first_reach a 0 es ls p q nothing nothing
  first_of (splits k r d s) = d ∙ sym r
  first_of (stays r d s n y) = d ∙ sym r

  -- They split there.
  reached-of : (k : ℕ) → first_reach a 0 es ls p q nothing nothing ≡ sample k → Goes a 0 es ls p q nothing nothing
      → SplitAt k (answers_of es ls p) (answers_of es ls q)
  reached-of k f (splits j r d s) =
      let b : 0 + j ≡ j = omega arith in
      let c : j ≡ k = sym b ∙ cc in
      rw c at s
  reached-of k f (stays r d s n y) = absurd (let z : ◌≡◌ {A = ℕ} 0 1 = cc in omega arith)

  -- Where they reach none they are alike.
  unreached-of : first_reach a 0 es ls p q nothing nothing ≡ never → Goes a 0 es ls p q nothing nothing
      → Alike a es ls p q
  unreached-of f (splits j r d s) = absurd (let z : ◌≡◌ {A = ℕ} 0 1 = cc in omega arith)
  unreached-of f (stays r d s n y) =
      record { answers = s; states = same-but-out _ _ (beside-silenced n.states y); equal = beside-equal n.states; arrays = n.arrays }

  -- The first cover makes them equal.
  covered_of : (k : ℕ) → first_cover a 0 es ls p ≡ sample k → Covers a 0 es ls p q → Covered k es ls p q
  covered_of k f (covered-at j r c) =
      let b : 0 + j ≡ j = omega arith in
      let d : j ≡ k = sym b ∙ cc in
      rw d at c
  covered_of k f (uncovered r) = absurd (let z : ◌≡◌ {A = ℕ} 0 1 = cc in omega arith)

-- Two parts in one state, their arrays equal but for an address, given the same samples: demand 3 holds of them.
pub two-parts : (a : ℕ) (s : State) (xs ys es ls : List ℕ) → FullLoad s → EqualBut a xs ys
    → TwoParts a es ls record { state = s; array = xs } record { state = s; array = ys }
two-parts a s xs ys es ls w but =
    let n : Near a (part_of s xs) (part_of s ys) nothing nothing =
    record { states = equal refl refl refl; arrays = but; whole = w } in
    let t = goes 0 es ls n refl in
    record {
      first = first_of t;
      reached = λ k f. reached-of k f t;
      unreached = λ f. unreached-of f t;
      until = λ n f. until-rows (take n es) (take n ls) s w but f;
      covered = λ k f. covered_of k f (covers-rows 0 es ls s w but);
      out = shown es ls;
      uncovered = rows_stay a es ls (part_of s xs) w;
    }
