-- `judging::judge` meets its contract: the definitions, and what follows them. Assumes nothing.
use Rattle.judging.proofs.Kept.{judged-undefined}
use Rattle.judging.proofs.judge.Goals as goal

pub returns-in-Err : goal.returns-in-Err
returns-in-Err c = judged-undefined _ _ _ _ c.in-Err.ensures c.reply_of.ensures
