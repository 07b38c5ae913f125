-- `image::array_size` meets its contract.
use Rattle.std.proofs.Common.{◌≡◌, Some, None, Err, rules, arith}
use borrow.Author.Tests.{eq-eqb, ne_eqb}
use Rattle.ground.specs.Kind.{kind_of}
use Rattle.ground.specs.declared.Reason.TheVariants.{PartUnknown}
use Rattle.image.proofs.Replies.{size_none, size_some}
use Rattle.image.proofs.array_size.Goals as goal

pub returns-in_err-size : goal.returns-in_err-size
returns-in_err-size c =
    let none : c.size_of.result ≡ None = search rules in
    let same : c.from_residual.result ≡ Err PartUnknown = search rules in
    rw (same, size_none _ _ c.size_of.ensures none)

pub returns-then-len-size : goal.returns-then-len-size
returns-then-len-size c =
    let some : c.size_of.result ≡ Some c.in_ok-size.field-0 = search rules in
    let known = size_some _ _ _ c.size_of.ensures some in
    rw (known.0, ne_eqb c.args.len (kind_of c.args.part).size (λ e. c.if-len-size.true (omega (arith, known.1, e))))

pub returns : goal.returns
returns c =
    let some : c.size_of.result ≡ Some c.in_ok-size.field-0 = search rules in
    let known = size_some _ _ _ c.size_of.ensures some in
    rw (known.0, eq-eqb c.args.len (kind_of c.args.part).size (omega (arith, known.1, c.if-len-size.false)), known.1)
