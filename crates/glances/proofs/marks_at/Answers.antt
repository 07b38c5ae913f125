-- `glances::marks_at` meets its contract. Assumes nothing.
use Rattle.std.proofs.Common.{◌+◌, arith}
use Rattle.glances.proofs.GlanceLaws.{sees-value}
use Rattle.glances.proofs.marks_at.Goals as goal

pub returns-then-ends : goal.returns-then-ends
returns-then-ends c =
    let byte = c.type_inv.dump (c.args.from + 1) in
    record {
      seen = λ some line small.
          rw c.from.ensures
          (sees-value _ _ _ line c.requires.tabled c.requires.from_in_bounds small c.requires.from_value c.if-code-gt-SPACE.true (omega (arith, byte))
          c.ends.ensures c.if-ends.true (rw c.from.ensures at some));
    }
