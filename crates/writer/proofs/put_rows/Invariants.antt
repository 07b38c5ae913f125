-- `writer::put_rows` meets its contract: what is left, laid over what stands there, gives the whole form.
use Rattle.writer.proofs.Laid.{IsLaid}
use Rattle.writer.proofs.put_rows.Given as goal

abbrev pub invariant-loop-index : goal.invariant-loop-index
invariant-loop-index g l = IsLaid g.F.RecordForm.form_of l.array l.initial.out l.out l.at l.index
