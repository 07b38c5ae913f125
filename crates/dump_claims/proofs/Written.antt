-- What the program writes, piece after piece. Assumes nothing.
use Prim.Native.Nat.{ℕ, ◌≤◌}
use mathlib.Core.List.{List, [], ◌++◌}
use mathlib.Core.Path.{◌≡◌, ap, sym, ◌∙◌}
use native.Mathlib.Omega.{arith}
use lib.ListN.{length, take}
use Rattle.texts.proofs.Starting.{starts-text}
use Rattle.pieces.specs.Marks.{left_from}
use Rattle.places.specs.Places.{places_in, places_of}
use Rattle.listing.specs.Listing.{places_text}
use Rattle.listing.proofs.PlaceLines.{text-append}
use Rattle.disagreements.specs.declared.Stand.{Stand}
use Rattle.disagreements.specs.Promises.{part_of_stand}
use Rattle.replaying.specs.declared.Told.{Told}
use Rattle.replaying.specs.Shown.{replay_text}
use Rattle.replaying.specs.Promises.{Tells}
use Rattle.dump_claims.specs.Written.{Telling, nothing, more, Written}
use Rattle.dump_claims.proofs.Pieces.{cut-places}

-- One piece before those that follow it.
piece-text : (dump : List ℕ) (s : Stand) (array out : List ℕ) (r : Told) (array' out' text : List ℕ) → Tells dump s array out r array' out'
    → text ≡ places_text (places_in r.stand.next (left_from dump r.stand.mark) (part_of_stand r.stand array'))
    → take r.length out' ++ text ≡ places_text (places_in s.next (left_from dump s.mark) (part_of_stand s array))
piece-text dump s array out r array' out' text x e =
    let ss = left_from dump s.mark in
    let c = x.count in
    let few : r.count ≤ length ss = omega arith in
    rw (starts-text _ out r.length out' x.text, e, x.next, x.left, x.part)
    (sym (text-append (places_in s.next (take r.count ss) (part_of_stand s array)) _)
    ∙ ap places_text (cut-places s.next r.count ss (part_of_stand s array) few))

-- All pieces.
all-text : (dump : List ℕ) (s t : Stand) (array array' text : List ℕ) → Telling dump s array text t array' → left_from dump t.mark ≡ []
    → text ≡ places_text (places_in s.next (left_from dump s.mark) (part_of_stand s array))
all-text dump s t array array' text nothing h = rw h
all-text dump s t array array'' text (more {array' = array'} {text = rest} out r out' x c) h =
    piece-text dump s array out r array' out' rest x (all-text dump r.stand t array' array'' rest c h)

-- The claim.
pub written : Written
unfolding replay_text places_of
written =
    record {
      report = λ part select stored image dump r array t array' text n x v c h.
          let w = x.ready n v in
          all-text dump r.stand t array array' text c h ∙ rw (w.next, w.left, w.powered, v);
      refusal = λ part select stored image dump k p e. rw e;
    }
