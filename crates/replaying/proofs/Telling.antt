-- Laws of a piece that is told: its rows are those of its samples. Assumes nothing.
use Prim.Native.Nat.{ℕ, ◌+◌, ◌*◌, ◌≤◌, ◌<◌}
use mathlib.Core.List.{List}
use mathlib.Core.Path.{◌≡◌, sym, ◌∙◌}
use native.Mathlib.Omega.{arith}
use lib.ListN.{length, take, length-drop}
use lib.Seq.{length-take-le}
use Rattle.pieces.specs.Marks.{left_from}
use Rattle.places.specs.Places.{places_from}
use Rattle.texts.specs.Laying.{Starts}
use Rattle.listing.specs.Listing.{places_text}
use Rattle.disagreements.specs.declared.Stand.{Stand}
use Rattle.disagreements.specs.declared.Played.{Played}
use Rattle.disagreements.specs.Promises.{Stands, Plays}
use Rattle.disagreements.proofs.Turns.{played-bytes, played-said}
use Rattle.replaying.specs.declared.Told.{Told}
use Rattle.replaying.specs.Promises.{Tells}

module _ (dump : List ℕ) (s : Stand) (array levels answers : List ℕ) (r : Played) (array' levels' answers' : List ℕ)
    (g : Stands dump s array) (h : length levels ≡ 4096) (w : Plays dump s array levels answers r array' levels' answers') where
  -- A piece has no more samples than are left, and than there is room for.
  pub count_left : r.count ≤ length (left_from dump s.mark)
  count_left = omega (arith, w.count)

  pub count_room : r.count ≤ 4096
  count_room = omega (arith, w.count)

  -- The place of its last sample is a number.
  pub count-numbered : s.next + r.count ≤ 18446744073709551615
  count-numbered = omega (arith, g.numbered, count_left)

  -- Its rows are alike, and its lines fit their room.
  pub lines_fit : (room : ℕ) → length levels' ≡ 4096 → length answers' ≡ 4096 → room ≡ 86016
      → (length (take r.count answers') ≡ length (take r.count levels'))
      × ((s.next + length (take r.count levels') ≤ 18446744073709551615)
      × (21 * length (take r.count levels') ≤ room))
  lines_fit room l a o =
      let m : r.count ≤ 4096 = count_room in
      let n : length (take r.count levels') ≡ r.count = length-take-le r.count levels' (omega arith) in
      let k : length (take r.count answers') ≡ r.count = length-take-le r.count answers' (omega arith) in
      (k ∙ sym n, (omega (arith, count-numbered), omega arith))

  pub piece-told : (out out' : List ℕ) (n : ℕ)
      → Starts (places_text (places_from s.next (take r.count levels') (take r.count answers'))) out n out'
      → Tells dump s array out (record { count = r.count; length = n; stand = r.stand }) array' out'
  piece-told out out' n t =
      let e = played-bytes dump s array levels answers r array' levels' answers' w in
      let f = played-said dump s array levels answers r array' levels' answers' w in
      record {
        count = rw h at w.count;
        text = rw (e, f) at t;
        part = w.part;
        left = w.left;
        next = w.next;
        stands = w.stands;
      }

-- Behind a piece that is not empty fewer samples are left.
pub told-less : (dump : List ℕ) (s : Stand) (array out : List ℕ) (r : Told) (array' out' : List ℕ) → Tells dump s array out r array' out'
    → (r.count ≡ 0 → ⊥) → length (left_from dump r.stand.mark) < length (left_from dump s.mark)
told-less dump s array out r array' out' w n =
    rw (w.left, length-drop r.count (left_from dump s.mark)) (omega (arith, w.count))
