-- Laws of filling rows with the samples from a mark on: one sample more, and where the filling ends. Assumes nothing.
use Prim.Native.Nat.{ℕ, zero, suc, ◌+◌, ◌-◌, ◌<◌, ◌≤◌, min}
use mathlib.Core.Bool.{true}
use mathlib.Core.List.{List, [], ◌∷◌, ◌++◌, map, append_assoc}
use mathlib.Core.Path.{◌≡◌, refl, ap, sym, ◌∙◌}
use native.Mathlib.Numerals.{add-one}
use native.Mathlib.Omega.{arith}
use lib.ListN.{length, take, drop, set, length-set, length-drop, take-append-drop}
use lib.Seq.{length-take-le, drop-append-le, drop-drop, drop-nil}
use Rattle.std.specs.Prelude.{Option, Some, None}
use Rattle.ground.specs.Numbers.{most_elapsed, most_samples}
use Rattle.sections.specs.declared.Place.TheVariants.{Between}
use Rattle.tokens.specs.Tokens.{words_of}
use Rattle.dumps.specs.Defined.{body_at}
use Rattle.dumps.specs.Samples.{Sample, moments_from, gap_to, spread, elapsed_of, levels_of}
use Rattle.dumps.proofs.SampleLaws.{spread-far, spread-near, opened}
use Rattle.pieces.specs.declared.Mark.{Mark}
use Rattle.pieces.specs.declared.TimeLine.{TimeLine}
use Rattle.pieces.specs.declared.Moved.{Moved}
use Rattle.pieces.specs.declared.Filled.{Filled}
use Rattle.pieces.specs.Marks.{left_from, Low}
use Rattle.pieces.specs.Parts.{behind_by, later_by, Filling, Moves, FillsRoom}
use Rattle.pieces.specs.Promises.{Fills}

-- A dump that is over has no samples left.
pub left_over : (dump : List ℕ) → left_from dump None ≡ []
unfolding left_from
left_over dump = refl

-- One repeat of the old levels, and the mark with less of the gap left.
left_far : (dump : List ℕ) (m : Mark) → most_elapsed < m.left
    → left_from dump (Some m)
    ≡ record { elapsed = most_elapsed; level = m.level }
    ∷ left_from dump (Some (record { at = m.at; time = m.time; left = m.left - most_elapsed; level = m.level }))
unfolding left_from
left_far dump m k =
    let words = words_of (drop m.at dump) in
    spread-far m.left m.level (moments_from (body_at dump Between true) words m.time m.level)
    (opened 0 (body_at dump Between true) words m.time m.level).some k

-- Behind a moment the time to the next one is left.
left_behind : (dump : List ℕ) (time level : ℕ) (next : Option TimeLine)
    → spread (gap_to time (later_by dump level next)) level (later_by dump level next) ≡ left_from dump (behind_by time level next)
unfolding left_from
left_behind dump time level None = refl
left_behind dump time level (Some next) = rw (opened time (body_at dump Between true) (words_of (drop next.at dump)) next.time level).gap

-- The moment's own sample, and the mark behind it.
left_near : (dump : List ℕ) (m : Mark) (moved : Moved) → m.left ≤ most_elapsed → Moves dump m.at m.level moved
    → left_from dump (Some m) ≡ record { elapsed = m.left; level = moved.level } ∷ left_from dump (behind_by m.time moved.level moved.next)
unfolding left_from
left_near dump m moved k e =
    rw (e.moments m.time)
    (spread-near m.left m.level (record { time = m.time; level = moved.level }) (later_by dump moved.level moved.next) k
    ∙ ap (λ (ss : List Sample). record { elapsed = m.left; level = moved.level } ∷ ss) (left_behind dump m.time moved.level moved.next))

low-behind : (time level : ℕ) (next : Option TimeLine) → level ≤ 15 → Low (behind_by time level next)
low-behind time level None h = tt
low-behind time level (Some next) h = h

-- One element more of a row.
row-turn : (f : Sample → ℕ) (ss : List Sample) (row : List ℕ) (i : ℕ) (s : Sample) (rest : List Sample) → drop i ss ≡ s ∷ rest
    → i < length row → set (map f (take i ss) ++ drop i row) i (f s) ≡ map f (take (suc i) ss) ++ drop (suc i) row
row-turn f ss [] i s rest e h = absurd (omega arith)
row-turn f [] (y ∷ ys) i s rest e h =
    let g : ◌≡◌ {A = List Sample} [] (s ∷ rest) = sym (drop-nil i) ∙ e in
    let z : ◌≡◌ {A = ℕ} 0 1 = cc in absurd (omega arith)
row-turn f (x ∷ xs) (y ∷ ys) zero s rest e h = let g : x ≡ s = cc in rw g
row-turn f (x ∷ xs) (y ∷ ys) (suc i) s rest e h = ap (λ (zs : List ℕ). f x ∷ zs) (row-turn f xs ys i s rest e (omega arith))

module _ (dump : List ℕ) (from : Option Mark) (elapsed₀ levels₀ : List ℕ) where
  pub filling-none : length elapsed₀ ≡ length levels₀ → Filling dump from elapsed₀ levels₀ from 0 elapsed₀ levels₀
  filling-none h =
      record {
        room = omega arith;
        some = omega arith;
        even = h;
        wide = refl;
        long = refl;
        times = refl;
        bytes = refl;
        left = refl;
        low = λ k. k;
      }

  module _ (mark : Option Mark) (i : ℕ) (elapsed levels : List ℕ) (f : Filling dump from elapsed₀ levels₀ mark i elapsed levels) where
    filling-turn : (s : Sample) (next : Option Mark) → i < length levels → left_from dump mark ≡ s ∷ left_from dump next
        → (Low mark → Low next)
        → Filling dump from elapsed₀ levels₀ next (i + 1) (set elapsed i s.elapsed) (set levels i s.level)
    filling-turn s next h e l =
        let ss = left_from dump from in
        let d : drop i ss ≡ s ∷ left_from dump next = sym f.left ∙ e in
        let k : length ss - i ≡ suc (length (left_from dump next)) = sym (length-drop i ss) ∙ ap length d in
        let a = f.even in
        let b = f.long in
        record {
          room = omega arith;
          some = omega arith;
          even = f.even;
          wide = length-set elapsed i s.elapsed ∙ f.wide;
          long = length-set levels i s.level ∙ f.long;
          times = rw (f.times, add-one) (row-turn (λ (s : Sample). s.elapsed) ss elapsed₀ i s _ d (omega arith));
          bytes = rw (f.bytes, add-one) (row-turn (λ (s : Sample). s.level) ss levels₀ i s _ d (omega arith));
          left = ap (drop 1) (sym d) ∙ drop-drop 1 i ss;
          low = λ n. l (f.low n);
        }

    -- A repeat, or a moment's own sample; `gap` is any number equal to what is left of the gap.
    module _ (m : Mark) (e : mark ≡ Some m) (gap : ℕ) (g : gap ≡ m.left) (h : i < length levels) where
      pub filling-far : most_elapsed < gap
          → Filling dump from elapsed₀ levels₀ (Some (record { at = m.at; time = m.time; left = gap - most_elapsed; level = m.level }))
          (i + 1) (set elapsed i most_elapsed) (set levels i m.level)
      filling-far k =
          rw g
          (filling-turn (record { elapsed = most_elapsed; level = m.level }) _ h (ap (left_from dump) e ∙ left_far dump m (omega arith))
          (λ n. rw e at n))

      pub filling-near : (moved : Moved) (next : Option Mark) → gap ≤ most_elapsed → Moves dump m.at m.level moved
          → next ≡ behind_by m.time moved.level moved.next
          → Filling dump from elapsed₀ levels₀ next (i + 1) (set elapsed i gap) (set levels i moved.level)
      filling-near moved next k v f =
          rw g
          (filling-turn (record { elapsed = m.left; level = moved.level }) next h
          (rw f (ap (left_from dump) e ∙ left_near dump m moved (omega arith) v))
          (λ n. let low : Low (Some m) = rw e at n in rw f (low-behind m.time moved.level moved.next (v.low low))))

    -- The rows are full, or no sample is left.
    filled : i ≡ min (length (left_from dump from)) (length levels₀)
        → FillsRoom dump from elapsed₀ levels₀ (record { count = i; mark = mark }) elapsed levels
    filled e = record { count = e; times = f.times; bytes = f.bytes; left = f.left; low = f.low }

    pub filled-full : length levels ≤ i → FillsRoom dump from elapsed₀ levels₀ (record { count = i; mark = mark }) elapsed levels
    filled-full h =
        let a = f.room in
        let b = f.some in
        let c = f.long in
        filled (omega arith)

    pub filled-over : mark ≡ None → FillsRoom dump from elapsed₀ levels₀ (record { count = i; mark = mark }) elapsed levels
    filled-over h =
        let a = f.room in
        let b = f.some in
        let k : length (left_from dump from) - i ≡ 0 =
        sym (length-drop i (left_from dump from)) ∙ ap length (sym f.left ∙ ap (left_from dump) h ∙ left_over dump) in
        filled (omega arith)

-- Parts of rows that were filled, in the whole rows.
row_back : (new row : List ℕ) (n k : ℕ) → n ≤ k → k ≤ length row → (new ++ drop n (take k row)) ++ drop k row ≡ new ++ drop n row
row_back new row n k h l =
    let t : length (take k row) ≡ k = length-take-le k row l in
    append_assoc new (drop n (take k row)) (drop k row)
    ∙ ap (λ (xs : List ℕ). new ++ xs)
    (sym (drop-append-le n (take k row) (drop k row) (omega arith)) ∙ ap (drop n) (take-append-drop k row))

module _ (elapsed levels : List ℕ) (shorter room : ℕ) (a : shorter ≡ min (length elapsed) (length levels)) (b : room ≡ min shorter most_samples)
  where
    pub room-elapsed : room ≡ length (take room elapsed)
    room-elapsed = sym (length-take-le room elapsed (omega arith))

    pub room-levels : room ≡ length (take room levels)
    room-levels = sym (length-take-le room levels (omega arith))

    pub fills-back : (dump : List ℕ) (m : Option Mark) (elapsed' levels' : List ℕ) (r : Filled)
        → FillsRoom dump m (take room elapsed) (take room levels) r elapsed' levels'
        → Fills dump m elapsed levels r (elapsed' ++ drop room elapsed) (levels' ++ drop room levels)
    fills-back dump m elapsed' levels' r f =
        let ss = left_from dump m in
        let c : r.count ≡ min (length ss) room = f.count ∙ ap (min (length ss)) (sym room-levels) in
        let n : r.count ≤ room = omega arith in
        record {
          count = c ∙ ap (min (length ss)) (b ∙ ap (λ (k : ℕ). min k most_samples) a);
          times =
              ap (λ (xs : List ℕ). xs ++ drop room elapsed) f.times
              ∙ row_back (elapsed_of (take r.count ss)) elapsed r.count room n (omega arith);
          bytes =
              ap (λ (xs : List ℕ). xs ++ drop room levels) f.bytes
              ∙ row_back (levels_of (take r.count ss)) levels r.count room n (omega arith);
          left = f.left;
          low = f.low;
        }
