-- Pieces of a dump joined are one run over all its samples (request 2026-03, piece after piece, the state carried on). However long the rows
-- are that the pieces are played into: the places that they tell, one after the other, are those of the whole list of samples, and the part
-- behind the last piece is the part after them all. So where the cuts fall makes no difference. The places ascend, and none comes twice.
-- A chain is made of what `play` promises; its contract says that from every stand that it leaves there is a next piece.
-- For a person from the line: a long file is worked through in parts, and nothing shows where one part ended.
use Rattle.std.specs.Prelude.{ℕ, true, List, [], ◌++◌, ◌≡◌, length, take}
use Rattle.ground.specs.Verdict.{accepted}
use Rattle.power.specs.Power.{at_power}
use Rattle.dumps.specs.Samples.{samples_in}
use Rattle.pieces.specs.Marks.{left_from}
use Rattle.places.specs.Places.{places_from, places_in, part_after_all, places_of, open_verdict}
use Rattle.places.specs.Parts.{ascending}
use Rattle.disagreements.specs.declared.Stand.{Stand}
use Rattle.disagreements.specs.declared.Opened.{Opened}
use Rattle.disagreements.specs.declared.Played.{Played}
use Rattle.disagreements.specs.Promises.{part_of_stand, Opens, Plays}

-- Pieces played one after the other, from a stand and an array to others, with the places that their rows tell.
pub data Chain (dump : List ℕ) : Stand → List ℕ → List ℕ → Stand → List ℕ → Type 0 where
  none : {s : Stand} {array : List ℕ} → Chain dump s array [] s array
  piece : {s t : Stand} {array array' array'' ps : List ℕ} (levels answers : List ℕ) (r : Played) (levels' answers' : List ℕ)
      → Plays dump s array levels answers r array' levels' answers' → Chain dump r.stand array' ps t array''
      → Chain dump s array (places_from s.next (take r.count levels') (take r.count answers') ++ ps) t array''

-- The claim (2026-03, piece after piece; the report gives places ascending, each once).
pub record JoinedPieces : Type 0 where
  pub whole : (dump : List ℕ) (s t : Stand) (array array' ps : List ℕ) → Chain dump s array ps t array' → left_from dump t.mark ≡ []
      → (ps ≡ places_in s.next (left_from dump s.mark) (part_of_stand s array))
      × (part_of_stand t array' ≡ part_after_all (left_from dump s.mark) (part_of_stand s array))
  -- wherever the cuts fall
  pub cuts : (dump : List ℕ) (s t u : Stand) (array array₁ array₂ ps qs : List ℕ)
      → Chain dump s array ps t array₁ → left_from dump t.mark ≡ [] → Chain dump s array qs u array₂ → left_from dump u.mark ≡ []
      → (ps ≡ qs) × (part_of_stand t array₁ ≡ part_of_stand u array₂)
  pub from-power-up : (part select stored : ℕ) (dump array : List ℕ) (r : Opened) (t : Stand) (array' ps : List ℕ) (n : ℕ)
      → Opens part select stored dump array r → open_verdict part select stored dump array ≡ accepted n
      → Chain dump r.stand array ps t array' → left_from dump t.mark ≡ []
      → (ps ≡ places_of part select stored dump array)
      × (part_of_stand t array' ≡ part_after_all (samples_in dump) (at_power part select stored array))
  pub ascending : (part select stored : ℕ) (dump array : List ℕ)
      → ascending 0 (length (samples_in dump)) (places_of part select stored dump array) ≡ true
