-- `tidying::fixed_form` meets its contract: no part has more bytes than there is room for.
use mathlib.Core.Path.{ap, sym, ◌∙◌}
use native.Mathlib.Omega.{arith}
use lib.Seq.{length-take-le}
use Rattle.ground.specs.declared.kinds.Kind.{Kind}
use Rattle.forms.specs.Writing.{lines_length}
use Rattle.image.proofs.Sizes.{kind-most}
use Rattle.tidying.proofs.fixed_form.Goals as goal

pub slice_bounds-array-end : goal.slice_bounds-array-end
slice_bounds-array-end c =
    let e = ap (λ (k : Kind). k.size) c.kind_of.ensures in
    omega (arith, e, c.from-size.ensures, kind-most c.args.part)

pub slice_bounds-tidied-end : goal.slice_bounds-tidied-end
slice_bounds-tidied-end c =
    let e = ap (λ (k : Kind). k.size) c.kind_of.ensures in
    sym (length-take-le _ _ (omega (arith, e, c.from-size.ensures, kind-most c.args.part)))

pub tidied-requires-clause-array_len : goal.tidied-requires-clause-array_len
tidied-requires-clause-array_len c =
    let e = ap (λ (k : Kind). k.size) c.kind_of.ensures in
    length-take-le _ _ (omega (arith, e, c.from-size.ensures, kind-most c.args.part)) ∙ c.from-size.ensures ∙ e

pub tidied-requires-clause-large_size_in_bounds : goal.tidied-requires-clause-large_size_in_bounds
unfolding lines_length
tidied-requires-clause-large_size_in_bounds c = omega arith
