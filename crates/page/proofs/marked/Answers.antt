-- `page::marked` meets its contract.
use mathlib.Core.Path.{refl, ◌∙◌}
use Rattle.page.proofs.Laws.{list_any-marked}
use Rattle.page.proofs.marked.Goals as goal

pub returns : goal.returns
returns c = c.contains.ensures.value ∙ list_any-marked _ refl refl c.args.marks
