-- `disagreements::judge` meets its contract. Assumes nothing.
use mathlib.Core.Path.{◌≡◌, ap, sym, ◌∙◌}
use Rattle.std.proofs.lemmas.Result.{err_from_is_err_and}
use Rattle.ground.specs.Kind.{kind_of}
use Rattle.ground.specs.declared.kinds.Kind.{Kind}
use Rattle.ground.specs.Verdict.{meant}
use Rattle.disagreements.proofs.Openings.{open-unpowered, open-unsized, open-judged}
use Rattle.disagreements.proofs.judge.Goals as goal

pub returns-in_err-powered-clause-said : goal.returns-in_err-powered-clause-said
unfolding meant
returns-in_err-powered-clause-said c =
    let p = err_from_is_err_and c.from_residual.result c.from_residual.ensures.1 in
    rw (p.1, p.2) (open-unpowered _ _ _ _ c.in_err-powered.was)

pub returns-then-array-from-clause-said : goal.returns-then-array-from-clause-said
unfolding meant
returns-then-array-from-clause-said c =
    let s : c.from.result ≡ (kind_of c.args.part).size = c.from.ensures ∙ ap (λ (k : Kind). k.size) c.kind_of-kind.ensures in
    rw c.into.ensures (open-unsized _ _ _ _ _ c.in_ok-powered.was (λ e. c.if-array-from.true (e ∙ sym s)))

pub returns-in_err-samples-clause-said : goal.returns-in_err-samples-clause-said
unfolding meant
returns-in_err-samples-clause-said c =
    let p = err_from_is_err_and c.from_residual-in_err-samples.result c.from_residual-in_err-samples.ensures.1 in
    let s : c.from.result ≡ (kind_of c.args.part).size = c.from.ensures ∙ ap (λ (k : Kind). k.size) c.kind_of-kind.ensures in
    rw (p.1, p.2) (c.in_err-samples.ensures.reply ∙ open-judged _ _ _ _ _ c.in_ok-powered.was (c.if-array-from.false ∙ s))

pub returns-clause-said : goal.returns-clause-said
returns-clause-said c =
    let s : c.from.result ≡ (kind_of c.args.part).size = c.from.ensures ∙ ap (λ (k : Kind). k.size) c.kind_of-kind.ensures in
    c.in_ok-samples.ensures.reply ∙ open-judged _ _ _ _ _ c.in_ok-powered.was (c.if-array-from.false ∙ s)
