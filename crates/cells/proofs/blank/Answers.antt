-- `cells::blank` meets its contract.
use Rattle.std.proofs.Common.{◌&&◌, rules, tests, true}
use Rattle.std.proofs.lemmas.Iterator.Consumers.{fold_from_yields_List}
use Rattle.std.proofs.lemmas.Iterator.{YieldsList-from_slice}
use Rattle.cells.proofs.CellLaws.{blank_found}
use Rattle.cells.proofs.blank.Goals as goal
use Rattle.cells.specs.Cells.{blank_byte}
use lib.Dec.{eqb}

pub returns : goal.returns
returns c =
    blank_found c.fold.result c.args.bytes.now
    (fold_from_yields_List _ (λ all b. all && eqb b blank_byte) true c.fold.result c.fold.ensures.ran
    (YieldsList-from_slice c.args.bytes.now cc) (λ all b r q called. search (rules, tests)))
