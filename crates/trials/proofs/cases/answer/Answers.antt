-- `trials::cases::answer` meets its contract.
use Rattle.trials.proofs.Trying.{answers-ran, answers-refused}
use Rattle.trials.proofs.cases.answer.Goals as goal

pub returns-in-Ok : goal.returns-in-Ok
returns-in-Ok c =
    answers-ran _ _ _ _ _ _ _ _ _ _ c.in-Ok.last c.in-Ok.ensures c.opening.ensures c.closing.ensures c.ending.ensures

pub returns-in-Err : goal.returns-in-Err
returns-in-Err c = answers-refused _ _ _ _ _ _ _ _ c.in-Err.refusal c.in-Err.ensures c.opening-in-Err.ensures
