-- `headings::table::declare` meets its contract. Assumes nothing.
use Rattle.headings.proofs.TableLaws.{declared-one, declared-other}
use Rattle.headings.proofs.table.declare.Goals as goal

pub returns-then-code-eq1 : goal.returns-then-code-eq1
returns-then-code-eq1 c = declared-one _ _ _ c.if-code-eq1.true c.from-index.ensures c.mark.ensures.value

pub returns-else-code-eq1 : goal.returns-else-code-eq1
returns-else-code-eq1 c = declared-other _ _ _ c.if-code-eq1.false
