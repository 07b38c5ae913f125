-- Laws of passing through a dump: one piece read, replayed and gathered after the other, to its end. Assumes nothing.
use Prim.Native.Nat.{ℕ, ◌+◌, ◌≤◌, ◌<◌, ◌-◌}
use mathlib.Core.List.{List, ◌++◌}
use mathlib.Core.Path.{◌≡◌, refl, ap, sym, subst, ◌∙◌}
use native.Mathlib.Omega.{arith}
use lib.ListN.{length, take, drop, length-append, length-drop}
use lib.Seq.{take_at, drop-drop}
use Rattle.std.specs.Prelude.{Option, Some, None}
use Rattle.ground.specs.Verdict.{accepted}
use Rattle.part.specs.Bench.{part_of}
use Rattle.part.specs.declared.state.State.{State}
use Rattle.refusals.specs.Refusals.{judged_of}
use Rattle.power.specs.declared.Replayed.{Replayed}
use Rattle.sample.specs.Run.{Part, answers_of}
use Rattle.ranges.specs.Fit.{Fit}
use Rattle.onward.proofs.Onward.{run-fit}
use Rattle.twin.specs.Promises.{Replays}
use Rattle.dumps.specs.Samples.{Sample, samples_in, elapsed_of, levels_of}
use Rattle.pieces.specs.Marks.{left_from, Low}
use Rattle.pieces.specs.Promises.{Fills}
use Rattle.pieces.proofs.Filling.{left_over}
use Rattle.pieces.proofs.PieceLaws.{piece-taken, piece-times, piece_bytes}
use Rattle.places.specs.Places.{part_after_all}
use Rattle.places.specs.Parts.{Gathers}
use Rattle.one_reading.specs.declared.Track.{Track}
use Rattle.one_reading.specs.declared.Went.{Went}
use Rattle.one_reading.specs.Promises.{Sound, mark_of, ReadsOn}
use Rattle.one_reading.proofs.Tracks.{left-length, next_small}
use Rattle.disagreements.proofs.Piecewise.{said-length, piece-judged, Playing, playing-starts, playing-ends, playing-on}
use Rattle.disagreements.proofs.Turns.{piece-length, times-fit, bytes_fit, answers-fit}
use Rattle.at_once.specs.Promises.{Ready, Whole}

-- The samples of a piece that was read.
abbrev piece_of : List ℕ → Track → Went → List Sample
piece_of dump t r = take r.count (left_from dump (Some t.mark))

-- A passing that has come to a track: what is left to replay gives the whole.
pub record Passing (dump : List ℕ) (p₀ : Part) (room₀ : List ℕ) (t : Option Track) (s : State) (next found : ℕ)
    (array room elapsed levels answers : List ℕ) : Type 0 where
  pub sound : Sound dump t
  pub low : Low (mark_of t)
  pub left : left_from dump (mark_of t) ≡ drop next (samples_in dump)
  pub fit : Fit (part_of s array)
  pub whole : length array ≡ length p₀.array
  pub times : length elapsed ≡ 1024
  pub bytes : length levels ≡ 1024
  pub said : length answers ≡ 1024
  pub playing : Playing 0 (samples_in dump) p₀ room₀ next (left_from dump (mark_of t)) (part_of s array) room found

pub passing-starts : (dump table : List ℕ) (t : Track) (s : State) (array room elapsed levels answers : List ℕ) → Ready dump table t s array
    → length elapsed ≡ 1024 → length levels ≡ 1024 → length answers ≡ 1024
    → Passing dump (part_of s array) room (Some t) s 0 0 array room elapsed levels answers
passing-starts dump table t s array room elapsed levels answers r a b c =
    record {
      sound = r.going;
      low = r.low;
      left = r.left;
      fit = r.fit;
      whole = refl;
      times = a;
      bytes = b;
      said = c;
      playing = rw r.left (playing-starts 0 (samples_in dump) (part_of s array) room);
    }

module _ (dump : List ℕ) (p₀ : Part) (room₀ : List ℕ) (t₀ : Option Track) (s : State) (next found : ℕ)
    (array room elapsed levels answers : List ℕ) (g₀ : Passing dump p₀ room₀ t₀ s next found array room elapsed levels answers) where
  -- Over: all samples have been replayed, and the dump is accepted.
  pub passes_over : t₀ ≡ None → Whole dump p₀ room₀ found array room
  passes_over o =
      let g : Passing dump p₀ room₀ None s next found array room elapsed levels answers =
      subst (λ (q : Option Track). Passing dump p₀ room₀ q s next found array room elapsed levels answers) o g₀ in
      let z = playing-ends _ _ _ _ _ _ _ _ _ g.playing (left_over dump) in
      record { verdict = g.sound; count = z.0; said = z.1; kept = ap (λ (p : Part). p.array) z.2 }

  pub going-here : (t : Track) → t₀ ≡ Some t → Sound dump (Some t)
  going-here t o = subst (Sound dump) o g₀.sound

  module _ (t : Track) (o : t₀ ≡ Some t) (r : Went) (elapsed' levels' : List ℕ) (x : ReadsOn dump (Some t) elapsed levels r elapsed' levels')
    where
      g : Passing dump p₀ room₀ (Some t) s next found array room elapsed levels answers
      g = subst (λ (q : Option Track). Passing dump p₀ room₀ q s next found array room elapsed levels answers) o g₀

      filled : Fills dump (Some t.mark) elapsed levels (record { count = r.count; mark = mark_of r.track }) elapsed' levels'
      filled =
          let f = x.rows in
          let c = f.count in
          let a = g.times in
          let b = g.bytes in
          record { count = omega arith; times = f.times; bytes = f.bytes; left = f.left; low = f.low }

      -- The rows hold the piece.
      pub times-held : r.count ≡ length (take r.count elapsed')
      times-held = times-fit _ _ _ _ _ _ _ filled

      pub bytes-held : r.count ≡ length (take r.count levels')
      bytes-held = bytes_fit _ _ _ _ _ _ _ filled

      pub answers-held : r.count ≡ length (take r.count answers)
      answers-held = answers-fit _ _ _ _ _ _ _ filled answers (g.said ∙ sym g.bytes)

      count-few : r.count ≤ 1024
      count-few = let c = x.rows.count in let b = g.bytes in omega arith

      pub count-within : (n m : ℕ) → m ≡ n → n ≡ 1024 → r.count ≤ m
      count-within n m a b = let c = count-few in omega arith

      -- The place behind it is a number.
      pub next-held : length dump ≤ 9223372036854775808 → next + r.count ≤ 18446744073709551615
      next-held m =
          let n = next_small dump t g.sound next g.left m in
          let c = count-few in
          omega arith

      -- Fewer samples are left behind it.
      pub left-fewer : length (left_from dump (mark_of r.track)) < length (left_from dump (mark_of t₀))
      left-fewer =
          let f = x.rows in
          let c = f.count in
          let b = g.bytes in
          let n = left-length dump t in
          let d : length (left_from dump (mark_of r.track)) ≡ length (left_from dump (Some t.mark)) - r.count =
          ap length f.left ∙ length-drop r.count (left_from dump (Some t.mark))
          in
          let h : length (left_from dump (mark_of r.track)) < length (left_from dump (Some t.mark)) = omega arith in
          rw o h

      module _ (q : Replayed) (array' row' : List ℕ)
          (y : Replays s (take r.count elapsed') (take r.count levels') array (take r.count answers) q array' row') where
        judged-piece : Replays s (elapsed_of (piece_of dump t r)) (levels_of (piece_of dump t r)) array (take r.count answers) q array' row'
            × (judged_of s (elapsed_of (piece_of dump t r)) (levels_of (piece_of dump t r)) array (take r.count answers)
            ≡ accepted (length (levels_of (piece_of dump t r))))
        judged-piece =
            let n = piece-length _ _ _ _ _ _ _ filled in
            let a = answers-held in
            let c = count-few in (
              rw (piece-times _ _ _ _ _ _ _ filled, piece_bytes _ _ _ _ _ _ _ filled) at y,
              piece-judged (piece_of dump t r) (part_of s array) (take r.count answers) g.fit (omega arith) (omega arith)
                  (λ v. piece-taken dump (Some t.mark) r.count v g.low),
            )

        part-after : part_of q.state array' ≡ part_after_all (piece_of dump t r) (part_of s array)
        part-after =
            let j = judged-piece in
            let state : q.state ≡ (part_after_all (piece_of dump t r) (part_of s array)).state = j.0.state ∙ (rw j.1) in
            let kept : array' ≡ (part_after_all (piece_of dump t r) (part_of s array)).array = j.0.kept ∙ (rw j.1) in
            λ i. record { state = state i; array = kept i }

        row-said : row' ≡ answers_of (elapsed_of (piece_of dump t r)) (levels_of (piece_of dump t r)) (part_of s array)
        row-said = let j = judged-piece in j.0.said ∙ (rw j.1)

        row-length : length row' ≡ r.count
        row-length = ap length row-said ∙ said-length (piece_of dump t r) (part_of s array) ∙ piece-length _ _ _ _ _ _ _ filled

        -- The front of the answer row is what the twin said.
        front-said : take r.count (row' ++ drop r.count answers)
            ≡ answers_of (elapsed_of (piece_of dump t r)) (levels_of (piece_of dump t r)) (part_of s array)
        front-said = take_at row' (drop r.count answers) r.count row-length ∙ row-said

        pub answers-front : r.count ≡ length (take r.count (row' ++ drop r.count answers))
        answers-front =
            sym (ap length front-said ∙ said-length (piece_of dump t r) (part_of s array) ∙ piece-length _ _ _ _ _ _ _ filled)

        pub answers-within : r.count ≤ length (row' ++ drop r.count answers)
        answers-within = let n = row-length in simp length-append (omega arith)

        -- What gathering asks of the piece.
        pub gather-asks : length dump ≤ 9223372036854775808
            → (length (take r.count (row' ++ drop r.count answers)) ≡ length (take r.count levels'))
            × ((next + length (take r.count levels') ≤ 18446744073709551615)
            × (found ≤ next))
        gather-asks m = let b = bytes-held in let n = next-held m in (sym answers-front ∙ b, (omega arith, g.playing.few))

        -- One turn.
        pub passing-on : (room' : List ℕ) (found' : ℕ) → length array' ≡ length array → length elapsed' ≡ length elapsed
            → length levels' ≡ length levels
            → Gathers (take r.count levels') (take r.count (row' ++ drop r.count answers)) next room found found' room'
            → Passing dump p₀ room₀ r.track q.state (next + r.count) found' array' room' elapsed' levels' (row' ++ drop r.count answers)
        passing-on room' found' a b c w =
            let f = x.rows in
            let few = count-few in
            let long = row-length in
            let all = g.said in
            let n = f.count in
            let e = piece_bytes _ _ _ _ _ _ _ filled in
            let fit = run-fit (elapsed_of (piece_of dump t r)) (levels_of (piece_of dump t r)) (part_of s array) g.fit in
            record {
              sound = x.track;
              low = f.low g.low;
              left = f.left ∙ ap (drop r.count) g.left ∙ drop-drop r.count next (samples_in dump);
              fit = subst (λ (z : Part). Fit z) (sym part-after) fit;
              whole = a ∙ g.whole;
              times = b ∙ g.times;
              bytes = c ∙ g.bytes;
              said = simp (length-append, length-drop) (omega arith);
              playing =
                  playing-on _ _ _ _ _ _ _ _ _ g.playing r.count _ _ _ _ _ (omega arith) (rw (e, front-said) at w) refl f.left part-after;
            }
