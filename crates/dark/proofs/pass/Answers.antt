-- `dark::pass` meets its contract.
use mathlib.Core.Path.{ap}
use Rattle.ground.specs.declared.kinds.Kind.{Kind}
use Rattle.dark.proofs.pass.Goals as goal

pub returns : goal.returns
returns c = c.go_on-dim.ensures.goes _ _ c.requires.dark (ap (λ (k : Kind). k.high) c.kind_of-kind.ensures)
