-- A law of cases that fit their room. Assumes nothing.
use Prim.Native.Nat.{◌≤◌}
use mathlib.Core.Bool.{Bool, true}
use mathlib.Core.Path.{◌≡◌}
use borrow.Author.Tests.{leb-true}
use Rattle.ground.proofs.Tests.{and_split}
use Rattle.rooms.specs.Rooms.{fits_of}
use Rattle.rooms.specs.declared.Lengths.{Lengths}

-- No row of a case that fits is longer than its room.
pub record Fits (case room : Lengths) : Type 0 where
  pub array : case.array ≤ room.array
  pub raw : case.raw ≤ room.raw
  pub elapsed : case.elapsed ≤ room.elapsed
  pub levels : case.levels ≤ room.levels
  pub answers : case.answers ≤ room.answers

pub fits_all : (case room : Lengths) {r : Bool} → r ≡ fits_of case room → r ≡ true → Fits case room
fits_all case room e t =
    let a = and_split _ _ (rw e at t) in
    let b = and_split _ _ a.1 in
    let c = and_split _ _ b.1 in
    let d = and_split _ _ c.1 in
    record {
      array = leb-true _ _ a.0;
      raw = leb-true _ _ b.0;
      elapsed = leb-true _ _ c.0;
      levels = leb-true _ _ d.0;
      answers = leb-true _ _ d.1;
    }
