-- `hexfile::pairs::all_digits` meets its contract.
use Rattle.std.proofs.Common.{◌&&◌, rules, tests, true}
use Rattle.std.proofs.lemmas.Iterator.Consumers.{fold_from_yields_List}
use Rattle.std.proofs.lemmas.Iterator.{YieldsList-from_slice}
use Rattle.digits.specs.Digits.{is_digit}
use Rattle.hexfile.proofs.WindowLaws.{digits_found}
use Rattle.hexfile.proofs.pairs.all_digits.Goals as goal

pub returns : goal.returns
returns c =
    digits_found c.fold.result c.args.text.now
    (fold_from_yields_List _ (λ all d. all && is_digit d) true c.fold.result c.fold.ensures.ran
    (YieldsList-from_slice c.args.text.now cc) (λ all d r q called. search (rules, tests)))
