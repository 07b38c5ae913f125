-- `hexfile::sums::sum` meets its contract: the bytes are added one after another.
use Rattle.std.proofs.Common.{◌%◌, ◌+◌, ◌∙◌, arith, rules, tests}
use Rattle.std.proofs.lemmas.Iterator.Consumers.{fold_from_yields_List}
use Rattle.std.proofs.lemmas.Iterator.{YieldsList-from_slice}
use Rattle.hexfile.proofs.PairLaws.{fold-sum}
use Rattle.hexfile.proofs.sums.sum.Goals as goal

pub returns : goal.returns
returns c =
    fold_from_yields_List _ (λ t b. (t + b) % 256) c.args.start c.fold.result c.fold.ensures.ran
    (YieldsList-from_slice c.args.bytes.now cc) (λ t b r q called. search (rules, tests))
    ∙ fold-sum c.args.bytes.now c.args.start (omega arith)
