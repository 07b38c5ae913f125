-- `at_once::report` meets its contract. Assumes nothing.
use Rattle.at_once.proofs.Reporting.{report-left}
use Rattle.at_once.proofs.report.Goals as goal

pub returns-in-None : goal.returns-in-None
returns-in-None c = report-left _ _ _ _ _ _ _ _ c.in-None.ensures _ _ _ c.report.ensures
