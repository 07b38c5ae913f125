-- `writer::put_row` meets its contract: a blank row has no line.
use native.Mathlib.Omega.{arith}
use Rattle.writer.proofs.Laid.{row-blank, row_put}
use Rattle.writer.proofs.put_row.Goals as goal

pub returns-then-blank : goal.returns-then-blank
returns-then-blank g c = row-blank _ _ _ _ _ c.blank.ensures c.if-blank.true

pub returns : goal.returns
returns g c = row_put _ g.met.F.RecordForm.measured _ _ _ _ c.blank.ensures c.if-blank.false (omega arith) c.row_length.ensures c.put_row.ensures
