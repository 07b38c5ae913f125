-- `trials::rounds::replays` meets its contract: the replays that are left, from the round that stands, give what all of them give from the first.
use Prim.Native.Nat.{◌-◌}
use mathlib.Core.Path.{◌∙◌, ap}
use Rattle.trials.specs.Rounds.{Round, round_of, again_of, times_of}
use Rattle.trials.proofs.Repeats.{once, again-turn, again-done}
use Rattle.trials.proofs.rounds.replays.Goals as goal

pub loop-preserved : goal.loop-preserved
loop-preserved c =
    let at = c.loop in
    let call = c.replay-last-in-loop in
    again-turn c.args.times at.counter _ _ (round_of at.last at.array at.answers) _ c.loop-test.true (once _ _ _ _ _ _ _ _ call.ensures) ∙ at.invariant

pub returns : goal.returns
unfolding times_of
returns c =
    let at = c.loop in
    let call = c.replay-last in
    let a = c.args in
    again-done a.times at.counter _ _ _ _ c.loop-test.false at.invariant
    ∙ ap (λ (r : Round). again_of (a.times - 1) a.elapsed.now a.levels.now r) (once _ _ _ _ _ _ _ _ call.ensures)
