-- `disagreements::begin` meets its contract. Assumes nothing.
use Rattle.disagreements.proofs.Openings.{opens}
use Rattle.disagreements.proofs.begin.Goals as goal

pub returns : goal.returns
returns c =
    let power = c.power_up-powered.ensures in
    opens _ _ _ _ _ _ _ _ _ c.begin.ensures power.reply power.state c.judge.ensures.said c.judge.ensures.small
