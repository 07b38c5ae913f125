-- `intel::form` meets its contract.
use Rattle.std.proofs.Common.{rules, tests, arith}
use Rattle.std.proofs.lemmas.Grind.{common_steps}
use Rattle.intel.proofs.Heard.{length-line, colon-line, pairs-line, formed-line}
use Rattle.intel.proofs.form.Goals as goal

pub returns-then-not-contains : goal.returns-then-not-contains
returns-then-not-contains c = length-line _ _ _ c.requires.n_in_bounds (λ least most. grind (arith, common_steps))

pub returns-then-text-ne-COLON : goal.returns-then-text-ne-COLON
returns-then-text-ne-COLON c = colon-line _ _ _ c.requires.n_in_bounds (search (rules, tests)) c.if-text-ne-COLON.true

pub returns-then-decode : goal.returns-then-decode
returns-then-decode c =
    rw c.length_for.ensures
    (formed-line c.args.text.now _ _ c.requires.n_in_bounds (search (rules, tests)) c.if-text-ne-COLON.false c.decode.ensures c.if-decode.true)

pub returns-else-decode : goal.returns-else-decode
returns-else-decode c = rw c.if-decode.false (pairs-line _ _ _ c.requires.n_in_bounds (search (rules, tests)) c.decode.ensures c.if-decode.false)
