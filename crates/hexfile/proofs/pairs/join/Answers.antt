-- `hexfile::pairs::join` meets its contract: the bytes stored so far, and those that are left, are the bytes of the whole.
use mathlib.Core.Path.{refl, ◌∙◌}
use native.Mathlib.Omega.{arith}
use native.Mathlib.Numerals.{add-one}
use borrow.Author.Rules.{rules}
use lib.ListN.{length-set}
use Rattle.digits.proofs.DigitLaws.{value-small}
use Rattle.hexfile.proofs.WindowLaws.{join-turn, join-done}
use Rattle.hexfile.proofs.pairs.join.Goals as goal

pub loop-i-init : goal.loop-i-init
loop-i-init c = (search rules, refl, c.requires, refl)

pub overflow_mul-byte : goal.overflow_mul-byte
overflow_mul-byte c = let h = value-small _ c.value.ensures in omega arith

pub overflow_add-byte : goal.overflow_add-byte
overflow_add-byte c =
    let h = value-small _ c.value.ensures in
    let k = value-small _ c.value-in-loop-i.ensures in
    omega arith

pub loop-i-preserved : goal.loop-i-preserved
loop-i-preserved c =
    let b = c.loop-i in
    let text = c.args.text.now in (
      omega arith,
      simp length-set b.invariant.1,
      b.invariant.2,
      rw add-one (join-turn text b.room b.i (omega arith) (omega arith) c.value.ensures c.value-in-loop-i.ensures ∙ b.invariant.3),
    )

pub shape_of-room : goal.shape_of-room
shape_of-room c = c.loop-i.invariant.1

pub returns : goal.returns
returns c =
    let b = c.loop-i in
    join-done _ b.room _ b.i (omega arith) (omega arith) b.invariant.3
