-- `wires::times::time_of` meets its contract: what the digits so far and those that are left come to, cut, is the whole's value, cut, and
-- those that are left tell whether all are digits. Assumes nothing.
use mathlib.Core.Path.{◌≡◌, sym, ◌∙◌}
use native.Mathlib.Omega.{arith}
use borrow.Author.Rules.{rules}
use lib.ListN.{length}
use Rattle.words.specs.Words.{decimal_base}
use Rattle.words.proofs.WordLaws.{numeral-none}
use Rattle.wires.proofs.WireLaws.{counts-start, counts-turn, counts-none, counts-end, time-none}
use Rattle.wires.proofs.times.time_of.Goals as goal

pub returns-then-is_empty : goal.returns-then-is_empty
returns-then-is_empty c =
    let e : length c.args.digits.now ≡ 0 = search rules in
    sym (time-none _ (sym (numeral-none decimal_base _ e)))

pub loop-character-init : goal.loop-character-init
loop-character-init c = counts-start _ (λ e. search rules)

pub returns-in_err-time : goal.returns-in_err-time
returns-in_err-time c =
    let none = counts-none _ _ _ c.loop-character-test.true c.loop-character.invariant (sym c.in_err-time.was ∙ c.with_digit.ensures) in
    search rules

pub loop-character-preserved : goal.loop-character-preserved
loop-character-preserved c =
    counts-turn _ _ _ c.loop-character-test.true c.loop-character.invariant _ (sym c.in_ok-time.was ∙ c.with_digit.ensures)

pub returns : goal.returns
returns c = counts-end _ _ _ (omega arith) c.loop-character.invariant
