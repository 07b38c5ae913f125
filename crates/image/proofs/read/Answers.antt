-- `image::read` meets its contract: the tests in their order, then the lines.
use Rattle.std.proofs.Common.{◌≡◌, Err, rules, arith}
use Rattle.image.proofs.Sizes.{kind-most}
use Rattle.image.proofs.Replies.{passed, reads-refused, reads-long, reads_lines}
use Rattle.image.proofs.read.Goals as goal

pub returns-in_err-array_size : goal.returns-in_err-array_size
returns-in_err-array_size g c =
    let same : c.from_residual.result ≡ Err record { reason = c.in_err-array_size.field-0.0; place = 0 } = search rules in
    rw same (reads-refused _ _ _ c.array_size.ensures _ _ c.in_err-array_size.was)

pub returns-then-text-gt-MOST_TEXT : goal.returns-then-text-gt-MOST_TEXT
returns-then-text-gt-MOST_TEXT g c =
    rw c.into.ensures (reads-long _ _ _ c.array_size.ensures _ _ c.in_ok-array_size.was c.if-text-gt-MOST_TEXT.true)

pub read_fresh-requires-clause-array_len_bound : goal.read_fresh-requires-clause-array_len_bound
read_fresh-requires-clause-array_len_bound g c =
    let size = passed g.F.RecordForm.form_of _ _ c.array_size.ensures _ c.in_ok-array_size.was in
    omega (arith, size.2, size.3, kind-most c.args.part)

pub returns : goal.returns
returns g c =
    reads_lines _ _ _ c.array_size.ensures _ _ _ _ c.in_ok-array_size.was c.if-text-gt-MOST_TEXT.false c.read_fresh.ensures
