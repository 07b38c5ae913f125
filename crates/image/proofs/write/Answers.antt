-- `image::write` meets its contract: the tests in their order, then the form over the buffer's start.
use Rattle.std.proofs.Common.{◌≡◌, Err, rules, arith}
use Rattle.image.proofs.Sizes.{kind-most}
use Rattle.image.proofs.Replies.{passed, writes-refused, writes-room, writes}
use Rattle.image.proofs.write.Goals as goal

pub returns-in_err-size : goal.returns-in_err-size
returns-in_err-size g c =
    let same : c.from_residual.result ≡ Err record { reason = c.in_err-size.field-0.0; place = 0 } = search rules in
    rw same (writes-refused _ _ _ c.array_size.ensures _ _ c.in_err-size.was)

pub lines_length-requires : goal.lines_length-requires
lines_length-requires g c =
    let size = passed g.F.RecordForm.form_of _ _ c.array_size.ensures _ c.in_ok-size.was in
    omega (arith, size.2, kind-most c.args.part)

pub returns-then-out-lines_length : goal.returns-then-out-lines_length
returns-then-out-lines_length g c =
    rw c.into.ensures (writes-room _ _ _ c.array_size.ensures _ _ _ c.in_ok-size.was c.lines_length.ensures c.if-out-lines_length.true)

pub put_rows-requires-clause-array_len_bound : goal.put_rows-requires-clause-array_len_bound
put_rows-requires-clause-array_len_bound g c =
    let size = passed g.F.RecordForm.form_of _ _ c.array_size.ensures _ c.in_ok-size.was in
    omega (arith, size.2, size.3, kind-most c.args.part)

pub put_rows-requires-clause-array_in_bounds : goal.put_rows-requires-clause-array_in_bounds
put_rows-requires-clause-array_in_bounds g c =
    let size = passed g.F.RecordForm.form_of _ _ c.array_size.ensures _ c.in_ok-size.was in
    rw (size.3, ← c.lines_length.ensures) c.if-out-lines_length.false

pub returns : goal.returns
returns g c =
    writes _ _ _ c.array_size.ensures _ g.met.F.RecordForm.measured _ _ c.in_ok-size.was c.lines_length.ensures c.if-out-lines_length.false c.put_rows.ensures
