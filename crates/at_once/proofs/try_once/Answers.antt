-- `at_once::try_once` meets its contract. Assumes nothing.
use mathlib.Core.Bool.{false}
use mathlib.Core.List.{[]}
use mathlib.Core.Path.{◌≡◌, ◌∙◌}
use Rattle.std.specs.Result.{is_err}
use Rattle.at_once.proofs.Reporting.{powered-fit, tries-report}
use Rattle.at_once.proofs.try_once.Goals as goal

pub read_once-requires : goal.read_once-requires
read_once-requires c =
    let b : is_err c.power_up-powered.result.reply ≡ false = cc (c.is_err.ensures.value, c.if-is_err.false) in
    record { fit = powered-fit _ _ _ [] _ [] _ c.power_up-powered.ensures b _ c.kind_of-kind.ensures (c.if-array-from.false ∙ c.from.ensures); copy_len = c.requires }

pub returns : goal.returns
returns c =
    let b : is_err c.power_up-powered.result.reply ≡ false = cc (c.is_err.ensures.value, c.if-is_err.false) in
    tries-report _ _ _ _ _ _ _ c.power_up-powered.ensures b _ c.kind_of-kind.ensures (c.if-array-from.false ∙ c.from.ensures) _ _ _ c.read_once.ensures
