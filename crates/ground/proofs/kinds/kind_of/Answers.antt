-- `ground::kinds::kind_of` meets its contract: each arm's number decides the tests of `kind_of`.
use borrow.Author.Rules.{rules}
use borrow.Author.Tests.{eq-eqb, ne_eqb}
use Rattle.ground.specs.Kind.{kind_of}
use Rattle.ground.proofs.kinds.kind_of.Goals as goal

pub returns-in-4323 : goal.returns-in-4323
unfolding kind_of
returns-in-4323 c = rw (c.small.ensures, eq-eqb _ _ c.in-4323.is)

pub returns-in-4325 : goal.returns-in-4325
unfolding kind_of
returns-in-4325 c = rw (c.small-in-4325.ensures, c.in-4325.is)

pub returns-in-4283 : goal.returns-in-4283
unfolding kind_of
returns-in-4283 c = rw (c.large.ensures, c.in-4283.is)

pub returns-in-4285 : goal.returns-in-4285
unfolding kind_of
returns-in-4285 c = rw (c.large-in-4285.ensures, c.in-4285.is)

pub returns-in_default : goal.returns-in_default
unfolding kind_of
returns-in_default c = rw (ne_eqb c.args.part 4323 (search rules), ne_eqb c.args.part 4325 (search rules), ne_eqb c.args.part 4283 (search rules), ne_eqb c.args.part 4285 (search rules))
