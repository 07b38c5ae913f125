-- Laws of what is copied: an array and its copy, and places brought from a room into a row. Assumes nothing.
use Prim.Native.Nat.{ℕ, min, ◌≤◌}
use mathlib.Core.Bool.{Bool, true, false}
use mathlib.Core.List.{List, ◌++◌}
use mathlib.Core.Path.{◌≡◌, refl, ap, sym, subst, ◌∙◌}
use native.Mathlib.Omega.{arith}
use lib.Dec.{leb}
use lib.ListN.{length, take, drop, length-take, drop_of_length-le}
use lib.Seq.{take-length, take_all, take-take, take-append-le}
use borrow.Author.Tests.{leb-true, leb-false}
use Rattle.std.specs.Bool.{then_some}
use Rattle.part.specs.Bench.{part_of}
use Rattle.part.specs.declared.state.State.{State}
use Rattle.sample.specs.Run.{Part}
use Rattle.dumps.specs.Samples.{samples_in}
use Rattle.places.specs.Places.{places_in, laid_over}
use Rattle.one_reading.specs.declared.Track.{Track}
use Rattle.at_once.specs.Promises.{Ready, Whole, Tries}
use Rattle.places.specs.Parts.{LaysOut, BringsOut}

-- As many places as there are and as a row wants are those that are laid over it.
wanted : (ps row : List ℕ) (n : ℕ) → n ≡ min (length ps) (length row) → take n ps ++ drop n row ≡ laid_over ps row
wanted ps row n e = go (leb (length row) (length ps)) refl
  where
    go : (b : Bool) → leb (length row) (length ps) ≡ b → take n ps ++ drop n row ≡ laid_over ps row
    go true t =
        let h = leb-true (length row) (length ps) t in
        let i : n ≡ length row = omega arith in
        rw (i, drop_of_length-le row {i = length row} (omega arith), drop_of_length-le row {i = length ps} (omega arith))
    go false t =
        let h = leb-false (length row) (length ps) t in
        let i : n ≡ length ps = omega arith in
        rw (i, take-length ps, take_all (length row) ps (omega arith))

-- A room over which places were laid has the first of them.
room-front : (ps room₀ room : List ℕ) (n : ℕ) → room ≡ laid_over ps room₀ → n ≤ length room₀ → n ≤ length ps → take n room ≡ take n ps
room-front ps room₀ room n e h k =
    let l = length-take (length room₀) ps in
    ap (take n) e ∙ take-append-le n (take (length room₀) ps) (drop (length ps) room₀) (omega arith) ∙ take-take n (length room₀) ps h

-- So a whole in a room is one in a row, if the room holds what the row wants.
pub whole_out : (dump : List ℕ) (p : Part) (room₀ : List ℕ) (found : ℕ) (array room row row' : List ℕ) (done : Bool)
    → Whole dump p room₀ found array room → length room ≡ length room₀ → LaysOut room found row row' done → done ≡ true
    → Whole dump p row found array row'
whole_out dump p room₀ found array room row row' done w l o d =
    let ps = places_in 0 (samples_in dump) p in
    let n = min found (length row) in
    let c = w.count in
    let h = o.held d in
    let e : take n room ≡ take n ps = room-front ps room₀ room n w.said (omega arith) (omega arith) in
    record {
      verdict = w.verdict;
      count = w.count;
      said = o.said d ∙ ap (λ (xs : List ℕ). xs ++ drop n row) e ∙ wanted ps row n (omega arith);
      kept = w.kept;
    }

module _ (dump : List ℕ) (s : State) (array copy copy₁ : List ℕ) (l : length copy ≡ length array)
    (same : copy₁ ≡ array) where
  -- What is ready with an array is so with a copy of it.
  pub ready-copied : (table : List ℕ) (t : Track) → Ready dump table t s array → Ready dump table t s copy₁
  ready-copied table t g = rw same g

  -- A reading on a copy that came to its end, with copy and places brought out.
  pub tries-done : (room₀ : List ℕ) (found : ℕ) (copy₂ room : List ℕ) → Whole dump (part_of s copy₁) room₀ found copy₂ room
      → length room ≡ length room₀
      → (row : List ℕ) (done : Bool) (array' row' : List ℕ) → BringsOut room found copy₂ array row done array' row' → done ≡ true
      → Whole dump (part_of s array) row found array' row'
  tries-done room₀ found copy₂ room x n row done array' row' o d =
      let w : Whole dump (part_of s array) room₀ found copy₂ room =
      subst (λ (z : List ℕ). Whole dump (part_of s z) room₀ found copy₂ room) same x
      in
      let v = whole_out dump (part_of s array) room₀ found copy₂ room row row' done w n o.laid d in
      subst (λ (q : List ℕ). Whole dump (part_of s array) row found q row') (sym (o.brought d)) v

  -- Brought out or not.
  pub tries-by : (room₀ : List ℕ) (found : ℕ) (copy₂ room : List ℕ) → Whole dump (part_of s copy₁) room₀ found copy₂ room
      → length room ≡ length room₀
      → (row : List ℕ) (done : Bool) (array' row' : List ℕ) → BringsOut room found copy₂ array row done array' row'
      → Tries dump s array row (then_some done found) array' row'
  tries-by room₀ found copy₂ room x n row true array' row' o = tries-done room₀ found copy₂ room x n row true array' row' o refl
  tries-by room₀ found copy₂ room x n row false array' row' o = (o.kept refl, o.laid.kept refl)
