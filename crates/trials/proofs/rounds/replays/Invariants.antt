-- `trials::rounds::replays` meets its contract: the replays that are left, from the round that stands, give what all of them give from the first.
use Rattle.std.proofs.Common.{◌≡◌, ◌-◌}
use Rattle.trials.specs.Rounds.{round_of, again_of}
use Rattle.trials.proofs.rounds.replays.Given as goal

abbrev pub invariant-loop : goal.invariant-loop
invariant-loop l =
    again_of (l.times - l.counter) l.elapsed l.levels (round_of l.last l.array l.answers)
    ≡ again_of (l.times - 1) l.elapsed l.levels (round_of l.initial.last l.initial.array l.initial.answers)
