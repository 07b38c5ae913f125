-- `judging::reply_of` meets its contract. Assumes nothing.
use native.Mathlib.Numerals.{add-one}
use Rattle.ground.specs.Verdict.{meant}
use Rattle.judging.proofs.reply_of.Goals as goal

pub returns-in-Some : goal.returns-in-Some
unfolding meant
returns-in-Some c = rw (c.in-Some.is, add-one)

pub returns-in-None : goal.returns-in-None
unfolding meant
returns-in-None c = rw c.in-None.is
