-- Laws of bytes given to cells from an address on. Assumes nothing.
use Prim.Native.Nat.{ℕ, ◌+◌, ◌-◌, ◌≤◌, ◌<◌}
use mathlib.Core.Bool.{Bool, true, false}
use mathlib.Core.List.{List, [], ◌∷◌, ◌++◌}
use mathlib.Core.Path.{◌≡◌, refl, sym, ◌∙◌}
use native.Mathlib.Omega.{arith}
use lib.ListN.{length, take, drop, take-append-drop}
use borrow.Author.Tests.{ne_eqb, le-leb, lt-leb}
use Rattle.std.specs.Prelude.{Ok, Err}
use Rattle.ground.proofs.Rows.{part-back, tail-whole}
use Rattle.cells.specs.Cells.{fresh_of, give_of}
use Rattle.cells.specs.Promises.{GivesTo}
use Rattle.cells.proofs.CellLaws.{fresh-nil, give-nil}
use Rattle.forms.specs.Parts.{Places}
use Rattle.forms.specs.declared.Says.TheVariants.{Gives}
use Rattle.ground.specs.declared.Reason.TheVariants.{BeyondArray, GivenTwice}

-- No bytes at an address: nothing is refused, and nothing changes.
pub place_none : (a : ℕ) (bs cells : List ℕ) → length bs ≡ 0 → Places a bs cells (Ok Gives) cells
place_none a [] cells h = record {
  said = rw (fresh-nil (drop a cells));
  kept = rw (give-nil (drop a cells)) (sym (take-append-drop a cells));
}
place_none a (b ∷ bs) cells h = absurd (omega arith)

-- Bytes beyond the cells.
pub place-beyond : (a : ℕ) (bs cells : List ℕ) → (length bs ≡ 0 → ⊥) → length cells < a + length bs → Places a bs cells (Err BeyondArray) cells
place-beyond a bs cells h k = record { said = rw (ne_eqb _ _ h, lt-leb _ _ k); kept = refl }

-- Bytes within the cells: refused where one is given already, else given.
pub place_twice : (a : ℕ) (bs cells cells' last : List ℕ) {r : Bool} → (length bs ≡ 0 → ⊥) → a + length bs ≤ length cells
    → GivesTo (take (length cells - a) (drop a cells)) bs r last → r ≡ false → Places a bs cells (Err GivenTwice) cells'
place_twice a bs cells cells' last h k g e =
    let f : fresh_of (drop a cells) bs ≡ false = sym (rw tail-whole at g.said) ∙ e in
    record { said = rw (ne_eqb _ _ h, le-leb _ _ k, f); kept = refl }

pub place-given : (a : ℕ) (bs cells last : List ℕ) {r : Bool} → (length bs ≡ 0 → ⊥) → a + length bs ≤ length cells
    → GivesTo (take (length cells - a) (drop a cells)) bs r last → r ≡ true
    → Places a bs cells (Ok Gives) (take a cells ++ (last ++ drop (length cells - a) (drop a cells)))
place-given a bs cells last h k g e =
    let f : fresh_of (drop a cells) bs ≡ true = sym (rw tail-whole at g.said) ∙ e in
    record {
      said = rw (ne_eqb _ _ h, le-leb _ _ k, f);
      kept = part-back (λ (cs : List ℕ). give_of cs bs) a cells last g.given;
    }
