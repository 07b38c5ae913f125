-- No part has more bytes than there is room for.
use Rattle.std.proofs.Common.{sym, ap, ◌∙◌, arith}
use lib.Seq.{length-take-le}
use Rattle.ground.specs.declared.kinds.Kind.{Kind}
use Rattle.ground.proofs.Known.{kind-paged}
use Rattle.replayed.proofs.put_within.Goals as goal

pub slice_bounds-put_report-end : goal.slice_bounds-put_report-end
slice_bounds-put_report-end g c =
    let e = ap (λ (k : Kind). k.size) c.kind_of-kind.ensures in
    omega (arith, e, (kind-paged c.args.powering.part).most)

pub slice_bounds-put_report-end-2 : goal.slice_bounds-put_report-end-2
slice_bounds-put_report-end-2 g c =
    let e = ap (λ (k : Kind). k.size) c.kind_of-kind.ensures in
    sym (length-take-le _ _ (omega (arith, e, (kind-paged c.args.powering.part).most)))

pub put_report-requires : goal.put_report-requires
put_report-requires g c =
    let e = ap (λ (k : Kind). k.size) c.kind_of-kind.ensures in
    length-take-le _ _ (omega (arith, e, (kind-paged c.args.powering.part).most)) ∙ e
