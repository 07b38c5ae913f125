-- Laws of playing: one piece filled in and replayed, and one turn after the other until nothing is left. Assumes nothing.
use Prim.Native.Nat.{ℕ, ◌+◌, ◌≤◌, ◌<◌, ◌-◌, min}
use mathlib.Core.List.{List, [], ◌∷◌, ◌++◌}
use mathlib.Core.Path.{◌≡◌, refl, ap, sym, subst, ◌∙◌}
use native.Mathlib.Omega.{arith}
use lib.ListN.{length, take, drop, length-drop}
use lib.Seq.{length-take-le, take_at}
use Rattle.std.specs.Prelude.{Option}
use Rattle.ground.specs.Verdict.{accepted}
use Rattle.refusals.specs.Refusals.{judged_of}
use Rattle.power.specs.declared.Replayed.{Replayed}
use Rattle.sample.specs.Run.{Part, answers_of}
use Rattle.ranges.specs.Fit.{Fit}
use Rattle.onward.proofs.Onward.{run-fit}
use Rattle.twin.specs.Promises.{Replays}
use Rattle.dumps.specs.Samples.{Sample, elapsed_of, levels_of}
use Rattle.pieces.specs.declared.Mark.{Mark}
use Rattle.pieces.specs.declared.Filled.{Filled}
use Rattle.pieces.specs.Marks.{left_from}
use Rattle.pieces.specs.Promises.{Fills}
use Rattle.pieces.proofs.PieceLaws.{piece-taken, piece-times, piece_bytes}
use Rattle.places.specs.Places.{part_after_all}
use Rattle.places.specs.Parts.{Gathers}
use Rattle.disagreements.specs.declared.Stand.{Stand}
use Rattle.disagreements.specs.declared.Played.{Played}
use Rattle.disagreements.specs.Promises.{part_of_stand, Stands, Plays, PlaysOn}
use Rattle.disagreements.proofs.Piecewise.{elapsed-length, levels-length, said-length, piece-judged, Playing, playing-starts, playing-ends, playing-on}

-- A piece filled into rows.
module _ (dump : List ℕ) (m : Option Mark) (elapsed levels : List ℕ) (r : Filled) (elapsed' levels' : List ℕ)
    (f : Fills dump m elapsed levels r elapsed' levels') where
  pub piece-length : length (take r.count (left_from dump m)) ≡ r.count
  piece-length = let c = f.count in length-take-le r.count (left_from dump m) (omega arith)

  -- The rows hold it.
  pub times-fit : r.count ≡ length (take r.count elapsed')
  times-fit =
      let e = piece-times dump m elapsed levels r elapsed' levels' f in
      sym (ap length e ∙ elapsed-length (take r.count (left_from dump m)) ∙ piece-length)

  pub bytes_fit : r.count ≡ length (take r.count levels')
  bytes_fit =
      let e = piece_bytes dump m elapsed levels r elapsed' levels' f in
      sym (ap length e ∙ levels-length (take r.count (left_from dump m)) ∙ piece-length)

  pub answers-fit : (answers : List ℕ) → length answers ≡ length levels → r.count ≡ length (take r.count answers)
  answers-fit answers b = let c = f.count in sym (length-take-le r.count answers (omega arith))

module _ (dump : List ℕ) (s : Stand) (elapsed levels : List ℕ) (r : Filled) (elapsed' levels' : List ℕ)
    (f : Fills dump s.mark elapsed levels r elapsed' levels') where
  -- The place behind it is a number.
  pub next_fits : (array : List ℕ) → Stands dump s array → s.next + r.count < 18446744073709551616
  next_fits array g = let c = f.count in let h = g.numbered in omega arith

  -- If they are of one length it is all that they hold, and it is replayed.
  pub plays : (array answers : List ℕ) → Stands dump s array → length elapsed ≡ length levels → length answers ≡ length levels
      → length levels ≤ 65536 → (q : Replayed) (array' row' : List ℕ)
      → Replays s.state (take r.count elapsed') (take r.count levels') array (take r.count answers) q array' row'
      → Plays dump s array levels answers
      (record { count = r.count; stand = record { state = q.state; mark = r.mark; next = s.next + r.count } }) array' levels'
      (row' ++ drop r.count answers)
  plays array answers g a b m q array' row' x =
      let p : Part = part_of_stand s array in
      let ss : List Sample = take r.count (left_from dump s.mark) in
      let y : Replays s.state (elapsed_of ss) (levels_of ss) array (take r.count answers) q array' row' =
      rw (piece-times dump s.mark elapsed levels r elapsed' levels' f, piece_bytes dump s.mark elapsed levels r elapsed' levels' f) at x
      in
      let n = piece-length dump s.mark elapsed levels r elapsed' levels' f in
      let c : r.count ≡ min (length (left_from dump s.mark)) (length levels) = let c = f.count in omega arith in
      let t = answers-fit dump s.mark elapsed levels r elapsed' levels' f answers b in
      let j : judged_of s.state (elapsed_of ss) (levels_of ss) array (take r.count answers) ≡ accepted (length (levels_of ss)) =
      piece-judged ss p (take r.count answers) g.fit (omega arith) (omega arith) (λ v. piece-taken dump s.mark r.count v g.low)
      in
      let state : q.state ≡ (part_after_all ss p).state = y.state ∙ (rw j) in
      let kept : array' ≡ (part_after_all ss p).array = y.kept ∙ (rw j) in
      let said : row' ≡ answers_of (elapsed_of ss) (levels_of ss) p = y.said ∙ (rw j) in
      let part : ◌≡◌ {A = Part} (record { state = q.state; array = array' }) (part_after_all ss p) =
      λ i. record { state = state i; array = kept i }
      in
      let d : length (left_from dump r.mark) ≡ length (left_from dump s.mark) - r.count = ap length f.left ∙ length-drop r.count _ in
      record {
        count = c;
        part = part;
        bytes = f.bytes;
        said = rw said;
        left = f.left;
        next = refl;
        stands =
            record {
              fit = subst (λ (z : Part). Fit z) (sym part) (run-fit (elapsed_of ss) (levels_of ss) p g.fit);
              low = f.low g.low;
              numbered = omega (arith, g.numbered);
            };
      }

-- A piece that was played: the fronts of the rows are its level bytes and its answers.
module _ (dump : List ℕ) (s : Stand) (array levels answers : List ℕ) (r : Played) (array' levels' answers' : List ℕ)
    (x : Plays dump s array levels answers r array' levels' answers') where
  pub played-length : length (take r.count (left_from dump s.mark)) ≡ r.count
  played-length = let c = x.count in length-take-le r.count (left_from dump s.mark) (omega arith)

  pub played-bytes : take r.count levels' ≡ levels_of (take r.count (left_from dump s.mark))
  played-bytes =
      ap (take r.count) x.bytes
      ∙ take_at _ _ r.count (levels-length (take r.count (left_from dump s.mark)) ∙ played-length)

  pub played-said : take r.count answers'
      ≡ answers_of (elapsed_of (take r.count (left_from dump s.mark))) (levels_of (take r.count (left_from dump s.mark))) (part_of_stand s array)
  played-said =
      ap (take r.count) x.said
      ∙ take_at _ _ r.count (said-length (take r.count (left_from dump s.mark)) (part_of_stand s array) ∙ played-length)

  pub front_bytes : r.count ≡ length (take r.count levels')
  front_bytes = sym (ap length played-bytes ∙ levels-length (take r.count (left_from dump s.mark)) ∙ played-length)

  pub front-said : r.count ≡ length (take r.count answers')
  front-said =
      sym (ap length played-said ∙ said-length (take r.count (left_from dump s.mark)) (part_of_stand s array) ∙ played-length)

  -- As long as there are samples, fewer are left behind each piece.
  pub left_less : (r.count ≡ 0 → ⊥) → length (left_from dump r.stand.mark) < length (left_from dump s.mark)
  left_less h =
      let c = x.count in
      let d : length (left_from dump r.stand.mark) ≡ length (left_from dump s.mark) - r.count =
      ap length x.left ∙ length-drop r.count (left_from dump s.mark)
      in
      omega arith

-- Playing on that has come to a stand.
pub record Turning (dump : List ℕ) (s₀ : Stand) (array₀ row₀ elapsed₀ levels₀ answers₀ : List ℕ) (s : Stand)
    (array row elapsed levels answers : List ℕ) (found : ℕ) : Type 0 where
  pub stands : Stands dump s array
  pub whole : length array ≡ length array₀
  pub times : length elapsed ≡ length elapsed₀
  pub bytes : length levels ≡ length levels₀
  pub said : length answers ≡ length answers₀
  pub playing : Playing s₀.next (left_from dump s₀.mark) (part_of_stand s₀ array₀) row₀ s.next (left_from dump s.mark) (part_of_stand s array) row found

no-samples : (ss : List Sample) → length ss ≡ 0 → ss ≡ []
no-samples [] h = refl
no-samples (s ∷ ss) h = absurd (omega arith)

module _ (dump : List ℕ) (s₀ : Stand) (array₀ row₀ elapsed₀ levels₀ answers₀ : List ℕ) where
  pub turning-starts : Stands dump s₀ array₀
      → Turning dump s₀ array₀ row₀ elapsed₀ levels₀ answers₀ s₀ array₀ row₀ elapsed₀ levels₀ answers₀ 0
  turning-starts g =
      record { stands = g; whole = refl; times = refl; bytes = refl; said = refl; playing = playing-starts _ _ _ _ }

  module _ (s : Stand) (array row elapsed levels answers : List ℕ) (found : ℕ)
      (t : Turning dump s₀ array₀ row₀ elapsed₀ levels₀ answers₀ s array row elapsed levels answers found)
      (r : Played) (array' levels' answers' : List ℕ) (x : Plays dump s array levels answers r array' levels' answers') where
    -- What gathering asks of the piece.
    pub turn-asks : (length (take r.count answers') ≡ length (take r.count levels'))
        × ((s.next + length (take r.count levels') ≤ 18446744073709551615)
        × (found ≤ s.next))
    turn-asks =
        let c = x.count in
        let b = front_bytes dump s array levels answers r array' levels' answers' x in
        let a = front-said dump s array levels answers r array' levels' answers' x in
        (sym a ∙ b, (omega (arith, t.stands.numbered), t.playing.few))

    -- One turn.
    pub turn : (elapsed' row' : List ℕ) (found' : ℕ) → length array' ≡ length array → length elapsed' ≡ length elapsed
        → length levels' ≡ length levels → length answers' ≡ length answers
        → Gathers (take r.count levels') (take r.count answers') s.next row found found' row'
        → Turning dump s₀ array₀ row₀ elapsed₀ levels₀ answers₀ r.stand array' row' elapsed' levels' answers' found'
    turn elapsed' row' found' a b c d g =
        let n = x.count in
        let e = played-bytes dump s array levels answers r array' levels' answers' x in
        let f = played-said dump s array levels answers r array' levels' answers' x in
        record {
          stands = x.stands;
          whole = a ∙ t.whole;
          times = b ∙ t.times;
          bytes = c ∙ t.bytes;
          said = d ∙ t.said;
          playing =
              playing-on _ _ _ _ _ _ _ _ _ t.playing r.count _ _ _ _ _ (omega arith) (rw (e, f) at g) x.next x.left x.part;
        }

    -- The end, where no sample was left.
    pub turn-ends : 0 < length levels → r.count ≡ 0 → PlaysOn dump s₀ array₀ row₀ found array' row
    turn-ends h e =
        let c = x.count in
        let z = playing-ends _ _ _ _ _ _ _ _ _ t.playing (no-samples (left_from dump s.mark) (omega arith)) in
        let q : part_after_all (take r.count (left_from dump s.mark)) (part_of_stand s array) ≡ part_of_stand s array = rw e in
        record { count = z.0; said = z.1; kept = ap (λ (p : Part). p.array) (x.part ∙ q ∙ z.2) }
