-- `forms::place` meets its contract.
use Prim.Native.Nat.{◌+◌, ◌≤◌}
use mathlib.Core.Path.{◌≡◌, ◌∙◌, sym}
use native.Mathlib.Omega.{arith}
use borrow.Author.Tests.{eqb-true, eqb-false}
use lib.ListN.{length}
use Rattle.forms.proofs.Placed.{place_none, place-beyond, place_twice, place-given}
use Rattle.forms.proofs.place.Goals as goal

pub returns-then-is_empty : goal.returns-then-is_empty
returns-then-is_empty c = place_none _ _ _ (eqb-true _ 0 (sym c.is_empty.ensures ∙ c.if-is_empty.true))

pub returns-then-bytes-saturating_sub : goal.returns-then-bytes-saturating_sub
returns-then-bytes-saturating_sub c =
    let some : length c.args.bytes.now ≡ 0 → ⊥ = eqb-false _ 0 (sym c.is_empty.ensures ∙ c.if-is_empty.false) in
    place-beyond _ _ _ some (omega (arith, c.saturating_sub.ensures))

pub returns-then-give : goal.returns-then-give
returns-then-give c =
    let a = c.args in
    let some : length a.bytes.now ≡ 0 → ⊥ = eqb-false _ 0 (sym c.is_empty.ensures ∙ c.if-is_empty.false) in
    let fits : a.address + length a.bytes.now ≤ length a.cells.now = omega (arith, c.saturating_sub.ensures) in
    place-given a.address a.bytes.now a.cells.now _ some fits c.give.ensures c.if-give.true

pub returns-else-give : goal.returns-else-give
returns-else-give c =
    let a = c.args in
    let some : length a.bytes.now ≡ 0 → ⊥ = eqb-false _ 0 (sym c.is_empty.ensures ∙ c.if-is_empty.false) in
    let fits : a.address + length a.bytes.now ≤ length a.cells.now = omega (arith, c.saturating_sub.ensures) in
    place_twice a.address a.bytes.now a.cells.now _ _ some fits c.give.ensures c.if-give.false
