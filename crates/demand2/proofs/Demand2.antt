-- Every accepted capture gives what the rules say, sample after sample, and as many answers as it has samples; in two
-- pieces, state and array carried on, it gives what it gives whole, and wherever it is cut both pieces are accepted. It
-- rests on the replay's promise alone. No axiom is used.
use Prim.Native.Nat.{ℕ, zero, suc, ◌+◌, ◌<◌, ◌≤◌}
use native.Mathlib.Numerals.{add-one}
use mathlib.Core.Bool.{Bool, true, false}
use mathlib.Core.List.{List, [], ◌∷◌, ◌++◌, append-nil}
use mathlib.Core.Path.{◌≡◌, refl, ap, sym, ◌∙◌}
use native.Mathlib.Omega.{arith}
use lib.Dec.{leb}
use lib.ListN.{length, get_or, take, length-append}
use borrow.Author.Tests.{eq-eqb, le-leb, leb-true}
use Rattle.ground.specs.Numbers.{most_elapsed, most_level, most_samples}
use Rattle.part.specs.declared.state.State.{State}
use Rattle.levels.specs.Level.{answer_of}
use Rattle.ground.specs.Verdict.{Verdict, accepted, meant}
use Rattle.limits.specs.Samples.{sample_by, samples_of}
use Rattle.refusals.specs.Refusals.{judged_of}
use Rattle.std.specs.Prelude.{Ok}
use Rattle.ground.proofs.Verdicts.{apart, meant-one}
use Rattle.refusals.proofs.Laws.{judged-passed, rows-equal}
use Rattle.power.specs.declared.Replayed.{Replayed}
use Rattle.sample.specs.Run.{Part, part_step, run_of, answers_of}
use Rattle.twin.specs.Promises.{Replays, Runs}
use Rattle.demand2.specs.Demand2.{ByRules, Pieces, Counted, Demand2}
use Rattle.demand2.proofs.Judged.{judged-fit}
use Rattle.ranges.specs.Fit.{Fit}
use Rattle.onward.proofs.Onward.{run-append, answers-append, answers-length, fit-judged, run-fit}

-- Each answer is that of the part after the samples up to its own.
answers-each : (es ls : List ℕ) (p : Part) (i : ℕ) → i < length es → i < length ls
    → get_or (answers_of es ls p) i 0 ≡ answer_of (run_of (take (suc i) es) (take (suc i) ls) p).state
answers-each [] ls p i h k = absurd (omega arith)
answers-each (e ∷ es) [] p i h k = absurd (omega arith)
answers-each (e ∷ es) (l ∷ ls) p zero h k = refl
answers-each (e ∷ es) (l ∷ ls) p (suc i) h k = answers-each es ls (part_step e l p) i (omega arith) (omega arith)

-- The same, with i + 1 for the number after i.
pub answers_at_lem : (es ls : List ℕ) (p : Part) (i : ℕ) → i < length es → i < length ls
    → get_or (answers_of es ls p) i 0 ≡ answer_of (run_of (take (i + 1) es) (take (i + 1) ls) p).state
answers_at_lem es ls p i h k = rw add-one (answers-each es ls p i h k)

-- A sample that lets an acceptance through lets through whatever the later samples say.
sample-on : (a b : Bool) (i j m : ℕ) (rest next v : Verdict)
    → sample_by a b i rest ≡ accepted m → (rest ≡ accepted m → next ≡ v) → sample_by a b j next ≡ v
sample-on false b i j m rest next v h k = absurd (apart 9 i m h)
sample-on true false i j m rest next v h k = absurd (apart 10 i m h)
sample-on true true i j m rest next v h k = k h

-- So samples that let an acceptance through are as good as none before those that follow.
samples-on : (es₁ ls₁ es₂ ls₂ : List ℕ) (i j n m : ℕ) (v : Verdict) → length es₁ ≡ length ls₁
    → samples_of i es₁ ls₁ (accepted n) ≡ accepted m → ((q : ℕ) → samples_of q es₂ ls₂ v ≡ v)
    → samples_of j (es₁ ++ es₂) (ls₁ ++ ls₂) v ≡ v
samples-on [] [] es₂ ls₂ i j n m v e h k = k j
samples-on [] (l ∷ ls) es₂ ls₂ i j n m v e h k = absurd (omega arith)
samples-on (x ∷ es) [] es₂ ls₂ i j n m v e h k = absurd (omega arith)
samples-on (x ∷ es) (l ∷ ls) es₂ ls₂ i j n m v e h k =
    sample-on (leb x most_elapsed) (leb l most_level) i j m (samples_of (i + 1) es ls (accepted n))
    (samples_of (j + 1) (es ++ es₂) (ls ++ ls₂) v) v h
    (λ r. samples-on es ls es₂ ls₂ (i + 1) (j + 1) n m v (omega arith) r k)

-- And they give any verdict that stands behind them.
samples-through : (es ls : List ℕ) (i n m : ℕ) (v : Verdict) → length es ≡ length ls
    → samples_of i es ls (accepted n) ≡ accepted m → (q : ℕ) → samples_of q es ls v ≡ v
samples-through es ls i n m v e h q = simp append-nil at (samples-on es ls [] [] i q n m v e h (λ r. refl))

-- A sample that lets an acceptance through has it from the later samples.
sample-past : (a b : Bool) (i m : ℕ) (rest : Verdict) → sample_by a b i rest ≡ accepted m → rest ≡ accepted m
sample-past false b i m rest h = absurd (apart 9 i m h)
sample-past true false i m rest h = absurd (apart 10 i m h)
sample-past true true i m rest h = h

-- Rows joined that let an acceptance through: the first are as good as none.
samples-first : (es₁ ls₁ es₂ ls₂ : List ℕ) (i j m : ℕ) (u v : Verdict) → length es₁ ≡ length ls₁
    → samples_of i (es₁ ++ es₂) (ls₁ ++ ls₂) u ≡ accepted m → samples_of j es₁ ls₁ v ≡ v
samples-first [] [] es₂ ls₂ i j m u v e h = refl
samples-first [] (l ∷ ls) es₂ ls₂ i j m u v e h = absurd (omega arith)
samples-first (x ∷ es) [] es₂ ls₂ i j m u v e h = absurd (omega arith)
samples-first (x ∷ es) (l ∷ ls) es₂ ls₂ i j m u v e h =
    sample-on (leb x most_elapsed) (leb l most_level) i j m (samples_of (i + 1) (es ++ es₂) (ls ++ ls₂) u)
    (samples_of (j + 1) es ls v) v h (λ r. samples-first es ls es₂ ls₂ (i + 1) (j + 1) m u v (omega arith) r)

-- And so are the second.
samples-second : (es₁ ls₁ es₂ ls₂ : List ℕ) (i j m : ℕ) (u v : Verdict) → length es₁ ≡ length ls₁
    → length es₂ ≡ length ls₂ → samples_of i (es₁ ++ es₂) (ls₁ ++ ls₂) u ≡ accepted m → samples_of j es₂ ls₂ v ≡ v
samples-second [] [] es₂ ls₂ i j m u v e f h =
    samples-first es₂ ls₂ [] [] i j m u v f (rw (append-nil es₂, append-nil ls₂) h)
samples-second [] (l ∷ ls) es₂ ls₂ i j m u v e f h = absurd (omega arith)
samples-second (x ∷ es) [] es₂ ls₂ i j m u v e f h = absurd (omega arith)
samples-second (x ∷ es) (l ∷ ls) es₂ ls₂ i j m u v e f h =
    samples-second es ls es₂ ls₂ (i + 1) j m u v (omega arith) f
    (sample-past (leb x most_elapsed) (leb l most_level) i m (samples_of (i + 1) (es ++ es₂) (ls ++ ls₂) u) h)

module _ (s : State) (es ls array row : List ℕ) (n : ℕ) (j : judged_of s es ls array row ≡ accepted n) where
  -- The count is the length of the rows.
  pub counted : Counted es ls row n
  counted =
      let t = rows-equal s es ls array row n j in
      let x = (judged-passed s es ls array row n j).samples in
      let c : length ls ≡ n = cc (samples-through es ls 0 (length ls) n (accepted (length ls)) t.0 x 0) in
      record { elapsed = t.0 ∙ c; levels = c; answers = t.1 ∙ c }

  -- An accepted replay is a run of the samples.
  replays-runs : (r : Replayed) (array' row' : List ℕ) → Replays s es ls array row r array' row'
      → Runs s es ls array r.state array' row'
  replays-runs r array' row' x = record { state = x.state ∙ (rw j); kept = x.kept ∙ (rw j); said = x.said ∙ (rw j) }

  -- A run of the samples is an accepted replay.
  runs-replays : (t : State) (array' row' : List ℕ) → Runs s es ls array t array' row'
      → Replays s es ls array row (record { reply = Ok n; state = t }) array' row'
  unfolding meant
  runs-replays t array' row' x =
      record { reply = sym j; state = rw j x.state; kept = rw j x.kept; said = rw j x.said }

  -- An accepted capture, whole.
  accepted-whole : (r : Replayed) (array' row' : List ℕ) → Replays s es ls array row r array' row'
      → ByRules s es ls array row n r array' row'
  unfolding meant
  accepted-whole r array' row' x =
      let p : Part = record { state = s; array = array } in
      let c = counted in
      let w = replays-runs r array' row' x in
      record {
        reply = meant-one r.reply (Ok n) (x.reply ∙ j);
        runs = w;
        answers = ap length w.said ∙ answers-length es ls p (omega arith) ∙ c.levels;
        each = λ i h. rw w.said (answers_at_lem es ls p i (omega arith) h);
      }

-- Two pieces that are accepted make a whole that is accepted, if it is not too long and its answer row has its length.
joined-judged : (s t : State) (es₁ ls₁ es₂ ls₂ array array₁ row row₁ row₂ : List ℕ) (n₁ n₂ : ℕ)
    → judged_of s es₁ ls₁ array row₁ ≡ accepted n₁ → judged_of t es₂ ls₂ array₁ row₂ ≡ accepted n₂
    → length row ≡ n₁ + n₂ → n₁ + n₂ ≤ most_samples
    → judged_of s (es₁ ++ es₂) (ls₁ ++ ls₂) array row ≡ accepted (n₁ + n₂)
unfolding judged_of
joined-judged s t es₁ ls₁ es₂ ls₂ array array₁ row row₁ row₂ n₁ n₂ h k a m =
    let x = judged-passed s es₁ ls₁ array row₁ n₁ h in
    let y = judged-passed t es₂ ls₂ array₁ row₂ n₂ k in
    let c = counted s es₁ ls₁ array row₁ n₁ h in
    let d = counted t es₂ ls₂ array₁ row₂ n₂ k in
    let e : length (es₁ ++ es₂) ≡ n₁ + n₂ = length-append es₁ es₂ ∙ omega arith in
    let l : length (ls₁ ++ ls₂) ≡ n₁ + n₂ = length-append ls₁ ls₂ ∙ omega arith in
    let v = accepted (n₁ + n₂) in
    let second = samples-through es₂ ls₂ 0 (length ls₂) n₂ v (omega arith) y.samples in
    let ◌&&◌ = samples-on es₁ ls₁ es₂ ls₂ 0 0 (length ls₁) n₁ v (omega arith) x.samples second in
    let same = eq-eqb (n₁ + n₂) (n₁ + n₂) refl in
    rw (e, l, a, x.state-good, x.array-good, same, le-leb (n₁ + n₂) most_samples m, ◌&&◌)

-- Two runs, the second from where the first left the part, are a run of the rows joined.
runs-joined : (s t u : State) (es₁ ls₁ es₂ ls₂ array array₁ array₂ row row₁ row₂ said₁ said₂ : List ℕ)
    → length es₁ ≡ length ls₁
    → Runs s es₁ ls₁ array t array₁ said₁ → Runs t es₂ ls₂ array₁ u array₂ said₂
    → Runs s (es₁ ++ es₂) (ls₁ ++ ls₂) array u array₂ (said₁ ++ said₂)
runs-joined s t u es₁ ls₁ es₂ ls₂ array array₁ array₂ row row₁ row₂ said₁ said₂ h x y =
    let p : Part = record { state = s; array = array } in
    let m : record { state = t; array = array₁ } ≡ run_of es₁ ls₁ p =
    λ i. record { state = x.state i; array = x.kept i }
    in
    let g = run-append es₁ ls₁ es₂ ls₂ p h in
    let a = answers-append es₁ ls₁ es₂ ls₂ p h in
    record {
      state = rw (g, ← m) y.state;
      kept = rw (g, ← m) y.kept;
      said = cc (ap (answers_of es₂ ls₂) m);
    }

module _ (es₁ ls₁ es₂ ls₂ : List ℕ) (p : Part) (row row₁ row₂ : List ℕ) (n : ℕ) (e : length es₁ ≡ length ls₁)
    (j : judged_of p.state (es₁ ++ es₂) (ls₁ ++ ls₂) p.array row ≡ accepted n) where
  -- A whole that is accepted, cut in two.
  cut-judged : length row₁ ≡ length ls₁ → length row₂ ≡ length ls₂
      → (judged_of p.state es₁ ls₁ p.array row₁ ≡ accepted (length ls₁))
      × (judged_of (run_of es₁ ls₁ p).state es₂ ls₂ (run_of es₁ ls₁ p).array row₂ ≡ accepted (length ls₂))
  cut-judged a b =
      let x = judged-passed p.state (es₁ ++ es₂) (ls₁ ++ ls₂) p.array row n j in
      let c = length-append es₁ es₂ in
      let d = length-append ls₁ ls₂ in
      let t = rows-equal p.state (es₁ ++ es₂) (ls₁ ++ ls₂) p.array row n j in
      let f : length es₂ ≡ length ls₂ = omega arith in
      let m = leb-true (length (ls₁ ++ ls₂)) most_samples x.few-enough in
      let u = accepted (length (ls₁ ++ ls₂)) in
      let g : Fit p = judged-fit p.state (es₁ ++ es₂) (ls₁ ++ ls₂) p.array row n j in (
        fit-judged p es₁ ls₁ row₁ g e (omega arith) a
            (samples-first es₁ ls₁ es₂ ls₂ 0 0 n u (accepted (length ls₁)) e x.samples),
        fit-judged (run_of es₁ ls₁ p) es₂ ls₂ row₂ (run-fit es₁ ls₁ p g) f (omega arith) b
            (samples-second es₁ ls₁ es₂ ls₂ 0 0 n u (accepted (length ls₂)) e f x.samples),
      )

-- A capture in two pieces.
pieces : (es₁ ls₁ es₂ ls₂ : List ℕ) → Pieces es₁ ls₁ es₂ ls₂
pieces es₁ ls₁ es₂ ls₂ =
    record {
      run = run-append es₁ ls₁ es₂ ls₂;
      answers = answers-append es₁ ls₁ es₂ ls₂;
      replay = λ s array row row₁ row₂ n₁ n₂ r₁ r₂ array₁ array₂ said₁ said₂ x y h m.
          let t = r₁.state in
          let c = counted s es₁ ls₁ array row₁ n₁ x.judged in
          let j = joined-judged s t es₁ ls₁ es₂ ls₂ array array₁ row row₁ row₂ n₁ n₂ x.judged y.judged h m in
          let u = replays-runs s es₁ ls₁ array row₁ n₁ x.judged r₁ array₁ said₁ x.replays in
          let v = replays-runs t es₂ ls₂ array₁ row₂ n₂ y.judged r₂ array₂ said₂ y.replays in
          let z = r₂.state in
          let l : length es₁ ≡ length ls₁ = omega arith in
          let w = runs-joined s t z es₁ ls₁ es₂ ls₂ array array₁ array₂ row row₁ row₂ said₁ said₂ l u v in
          record {
            judged = j;
            replays = runs-replays s (es₁ ++ es₂) (ls₁ ++ ls₂) array row (n₁ + n₂) j z array₂ (said₁ ++ said₂) w;
          };
      split = λ p row row₁ row₂ n e j a b. cut-judged es₁ ls₁ es₂ ls₂ p row row₁ row₂ n e j a b;
    }

-- The claim: whole, in pieces and counted.
pub demand-2 : Demand2
demand-2 =
    record {
      whole = λ s es ls array row n r array' row' x.
          accepted-whole s es ls array row n x.judged r array' row' x.replays;
      pieces = pieces;
      count = counted;
    }
