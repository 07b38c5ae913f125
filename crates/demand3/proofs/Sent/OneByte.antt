-- One byte of the array through the rows: it stays where no write covers its address. Assumes a page load of 64 bytes and 64
-- marks.
use Prim.Native.Nat.{ℕ, ◌≤◌}
use mathlib.Core.Bool.{Bool, true, false, not, ◌&&◌}
use mathlib.Core.List.{List, [], ◌∷◌}
use mathlib.Core.Path.{◌≡◌, refl, sym, ◌∙◌}
use native.Mathlib.Omega.{arith}
use lib.Dec.{eqb, ltb}
use lib.ListN.{length, get_or, get_or-eq_default}
use borrow.Author.Tests.{ltb-true, ltb-false, not-true}
use Rattle.page.specs.Page.{page_of, in_page, at, store_of, marked}
use Rattle.part.specs.declared.state.Place.{Place}
use Rattle.part.specs.declared.state.State.{State}
use Rattle.ground.proofs.Tests.{and_split}
use Rattle.page.proofs.Stored.{store_length, store_at}
use Rattle.wire.specs.declared.Sign.{Sign}
use Rattle.wire.specs.declared.Sign.TheVariants.{Quiet, Start, Stop, Bit, Byte, Ninth}
use Rattle.sample.specs.Sample.{opens_of, left_of, saved_by, written_by, wired_of, Seen, unseen, sees, seen_of, keeps_by, array_of}
use Rattle.sample.specs.Run.{Part, part_step, run_of}
use Rattle.demand3.specs.Differ.{covers_by, covers, covers_none, FullLoad}
use Rattle.demand3.proofs.Sent.TwoArrays.{left-whole, whole-kept}

module _ (a : ℕ) (s : State) (w : FullLoad s) (xs : List ℕ) where
  -- A store that does not cover the address leaves its byte.
  saved-stays : (b : Bool) (p : Place)
      → (eqb (page_of (at a)) (page_of p) && get_or s.load.marks (in_page (at a)) false) ≡ false
      → get_or (saved_by b p s.load xs) a 0 ≡ get_or xs a 0
  saved-stays false p c = refl
  saved-stays true p c = go (ltb a (length xs)) refl
    where
      go : (t : Bool) → ltb a (length xs) ≡ t → get_or (store_of p s.load xs) a 0 ≡ get_or xs a 0
      go true t = rw c at (store_at p s.load xs (at a) w.marks w.bytes (ltb-true a (length xs) t))
      go false t =
          let h = ltb-false a (length xs) t in
          let k : length (store_of p s.load xs) ≤ a = omega (arith, store_length p s.load xs) in
          get_or-eq_default (store_of p s.load xs) 0 k ∙ sym (get_or-eq_default xs 0 h)

module _ (a e level : ℕ) (s : State) (w : FullLoad s) (xs : List ℕ) where
  -- So does a sign whose write does not cover it.
  written-stays : (sign : Sign) → covers_by (sees sign) a s ≡ false
      → get_or (written_by sign (wired_of level (opens_of e level s)) xs) a 0 ≡ get_or xs a 0
  unfolding wired_of opens_of left_of
  written-stays Quiet c = refl
  written-stays Start c = refl
  written-stays (Stop n) c = saved-stays a (left_of n s) (left-whole n s w) xs (marked (left_of n s).load) s.device.counter c
  written-stays Bit c = refl
  written-stays (Byte v) c = refl
  written-stays (Ninth b) c = refl

  -- So does rule 3 or 4.
  keeps-stays : (x : Seen) → covers_by x a s ≡ false → get_or (keeps_by x level xs (opens_of e level s)) a 0 ≡ get_or xs a 0
  keeps-stays unseen c = refl
  keeps-stays (sees sign) c = written-stays sign c

  -- A sample whose write does not cover the address leaves its byte.
  array-stays : covers a e level record { state = s; array = xs } ≡ false → get_or (array_of e level xs s) a 0 ≡ get_or xs a 0
  unfolding array_of covers
  array-stays c = keeps-stays (seen_of level (opens_of e level s)) c

-- Rows without a write that covers the address leave its byte.
pub rows_stay : (a : ℕ) (es ls : List ℕ) (p : Part) → FullLoad p.state → covers_none a es ls p ≡ true
    → get_or (run_of es ls p).array a 0 ≡ get_or p.array a 0
unfolding part_step
rows_stay a [] ls p w c = refl
rows_stay a (e ∷ es) [] p w c = refl
rows_stay a (e ∷ es) (l ∷ ls) p w c =
    let d = and_split (not (covers a e l p)) (covers_none a es ls (part_step e l p)) c in
    rows_stay a es ls (part_step e l p) (whole-kept e l p.array p.state w) d.1
    ∙ array-stays a e l p.state w p.array (not-true (covers a e l p) d.0)
