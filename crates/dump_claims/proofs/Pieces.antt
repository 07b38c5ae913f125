-- Pieces of a dump joined are one run over all its samples. Assumes nothing.
use Prim.Native.Nat.{ℕ, ◌+◌, ◌≤◌}
use mathlib.Core.List.{List, [], ◌++◌}
use mathlib.Core.Path.{◌≡◌, ap, sym, ◌∙◌}
use native.Mathlib.Omega.{arith}
use native.Mathlib.Nat.{zero-add}
use lib.ListN.{length, take, drop, take-append-drop}
use lib.Seq.{length-take-le}
use Rattle.ground.specs.Verdict.{accepted}
use Rattle.part.specs.declared.state.State.{State}
use Rattle.sample.specs.Run.{Part, answers_of}
use Rattle.power.specs.Power.{at_power}
use Rattle.dumps.specs.Samples.{Sample, samples_in, elapsed_of, levels_of}
use Rattle.pieces.specs.Marks.{left_from}
use Rattle.places.specs.Places.{places_from, places_in, part_after_all, places_of, open_verdict}
use Rattle.places.proofs.PlaceLaws.{places-ascend}
use Rattle.disagreements.specs.declared.Stand.{Stand}
use Rattle.disagreements.specs.declared.Opened.{Opened}
use Rattle.disagreements.specs.declared.Played.{Played}
use Rattle.disagreements.specs.Promises.{part_of_stand, Opens, Plays}
use Rattle.disagreements.proofs.Openings.{opened-power}
use Rattle.disagreements.proofs.Piecewise.{levels-length, after-append, in-append}
use Rattle.disagreements.proofs.Turns.{played-bytes, played-said}
use Rattle.dump_claims.specs.Pieces.{Chain, none, piece, JoinedPieces}

-- The places of samples cut in two, and the part behind them.
pub cut-places : (k n : ℕ) (ss : List Sample) (p : Part) → n ≤ length ss
    → places_in k (take n ss) p ++ places_in (k + n) (drop n ss) (part_after_all (take n ss) p) ≡ places_in k ss p
cut-places k n ss p h =
    let m : length (take n ss) ≡ n = length-take-le n ss h in
    let e = in-append k (take n ss) (drop n ss) p in
    sym (ap (λ (xs : List Sample). places_in k xs p) (sym (take-append-drop n ss)) ∙ e
    ∙ ap (λ (i : ℕ). places_in k (take n ss) p ++ places_in (k + i) (drop n ss) (part_after_all (take n ss) p)) m)

pub cut-part : (n : ℕ) (ss : List Sample) (p : Part) → part_after_all (drop n ss) (part_after_all (take n ss) p) ≡ part_after_all ss p
cut-part n ss p =
    sym (after-append (take n ss) (drop n ss) p) ∙ ap (λ (xs : List Sample). part_after_all xs p) (take-append-drop n ss)

-- One piece before those that follow it.
module _ (dump : List ℕ) (s : Stand) (array levels answers : List ℕ) (r : Played) (array' levels' answers' : List ℕ)
    (x : Plays dump s array levels answers r array' levels' answers') where
  few : r.count ≤ length (left_from dump s.mark)
  few = let c = x.count in omega arith

  -- Its rows tell the places of its samples.
  told : places_from s.next (take r.count levels') (take r.count answers')
      ≡ places_in s.next (take r.count (left_from dump s.mark)) (part_of_stand s array)
  told =
      rw (
        played-bytes dump s array levels answers r array' levels' answers' x,
        played-said dump s array levels answers r array' levels' answers' x,
      )

  piece-places : (ps : List ℕ) → ps ≡ places_in r.stand.next (left_from dump r.stand.mark) (part_of_stand r.stand array')
      → places_from s.next (take r.count levels') (take r.count answers') ++ ps
      ≡ places_in s.next (left_from dump s.mark) (part_of_stand s array)
  piece-places ps e =
      rw (told, e, x.next, x.left, x.part) (cut-places s.next r.count (left_from dump s.mark) (part_of_stand s array) few)

  piece-part : (q : Part) → q ≡ part_after_all (left_from dump r.stand.mark) (part_of_stand r.stand array')
      → q ≡ part_after_all (left_from dump s.mark) (part_of_stand s array)
  piece-part q e = e ∙ rw (x.left, x.part) (cut-part r.count (left_from dump s.mark) (part_of_stand s array))

-- All pieces.
whole : (dump : List ℕ) (s t : Stand) (array array' ps : List ℕ) → Chain dump s array ps t array' → left_from dump t.mark ≡ []
    → (ps ≡ places_in s.next (left_from dump s.mark) (part_of_stand s array))
    × (part_of_stand t array' ≡ part_after_all (left_from dump s.mark) (part_of_stand s array))
whole dump s t array array' ps none h = (rw h, rw h)
whole dump s t array array'' ps (piece {array' = array'} {ps = qs} levels answers r levels' answers' x c) h =
    let w = whole dump r.stand t array' array'' qs c h in (
      piece-places dump s array levels answers r array' levels' answers' x qs w.0,
      piece-part dump s array levels answers r array' levels' answers' x (part_of_stand t array'') w.1,
    )

-- A part that an accepted opening leaves is that of power-up.
from-power : (part select stored : ℕ) (dump array : List ℕ) (r : Opened) (n : ℕ) → Opens part select stored dump array r
    → open_verdict part select stored dump array ≡ accepted n → part_of_stand r.stand array ≡ at_power part select stored array
from-power part select stored dump array r n x v =
    ap (λ (w : State). record { state = w; array = array }) (x.state ∙ opened-power part select stored dump array n v)

-- The claim.
pub joined-pieces : JoinedPieces
unfolding places_of
joined-pieces =
    record {
      whole = whole;
      cuts = λ dump s t u array array₁ array₂ ps qs c h d k.
          let a = whole dump s t array array₁ ps c h in
          let b = whole dump s u array array₂ qs d k in
          (a.0 ∙ sym b.0, a.1 ∙ sym b.1);
      from-power-up = λ part select stored dump array r t array' ps n x v c h.
          let w = whole dump r.stand t array array' ps c h in
          let e = from-power part select stored dump array r n x v in
          (w.0 ∙ rw (x.next, x.left, e), w.1 ∙ rw (x.left, e));
      ascending = λ part select stored dump array.
          let ss = samples_in dump in
          let e = places-ascend 0 (levels_of ss) (answers_of (elapsed_of ss) (levels_of ss) (at_power part select stored array)) in
          rw (← levels-length ss) (rw (zero-add (length (levels_of ss))) at e);
    }
