-- `ground::kinds::size_of` meets its contract.
use Rattle.ground.specs.Size.{size_meant}
use Rattle.ground.proofs.Tests.{not-zero}
use Rattle.ground.proofs.kinds.size_of.Goals as goal

pub returns-then-kind-eq0 : goal.returns-then-kind-eq0
unfolding size_meant
returns-then-kind-eq0 c = record { said = rw (← c.kind_of-kind.ensures, c.if-kind-eq0.true) }

pub returns : goal.returns
unfolding size_meant
returns c = record { said = rw (← c.kind_of-kind.ensures, not-zero _ c.if-kind-eq0.false) }
