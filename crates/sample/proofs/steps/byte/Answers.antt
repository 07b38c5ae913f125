-- `sample::steps::byte` meets its contract.
use mathlib.Core.Bool.{true, false}
use mathlib.Core.Path.{sym, ◌∙◌}
use Rattle.device.proofs.Phases.{byte-is-data, kept_by_lem}
use Rattle.sample.specs.Sample.{byte_step}
use Rattle.sample.proofs.steps.byte.Goals as goal

pub returns-then-expects_data : goal.returns-then-expects_data
unfolding byte_step
returns-then-expects_data c =
    let d = c.args.s.device in
    let t = sym c.expects_data.ensures ∙ c.if-expects_data.true in
    rw (c.kept.ensures, c.«data».ensures, c.taken-takes.ensures, c.kind_of-kind.ensures, byte-is-data _ _ d _ t, kept_by_lem _ d _ _ true t)

pub returns : goal.returns
unfolding byte_step
returns c =
    let d = c.args.s.device in
    let t = sym c.expects_data.ensures ∙ c.if-expects_data.false in
    rw (c.byte.ensures, c.kind_of-kind.ensures, kept_by_lem _ d _ _ false t)
