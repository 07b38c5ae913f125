-- `captures::capture` meets its contract.
use Rattle.captures.proofs.Captured.{captures-all}
use Rattle.captures.proofs.capture.Goals as goal

pub returns : goal.returns
returns c = captures-all _ _ _ _ _ _ _ _ c.power_up-powered.ensures _ _ _ _ c.in_ok-powered.was c.replay.ensures
