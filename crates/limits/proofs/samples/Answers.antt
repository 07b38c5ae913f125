-- `limits::samples` meets its contract.
use Prim.Native.Nat.{max}
use mathlib.Core.Path.{◌≡◌, sym}
use borrow.Author.Rules.{rules}
use Rattle.std.specs.List.{fold}
use Rattle.ground.specs.Verdict.{meant}
use Rattle.limits.proofs.Laws.{samples-clean}
use Rattle.limits.proofs.samples.Goals as goal

pub returns-then-highest-le-MOST_LEVEL : goal.returns-then-highest-le-MOST_LEVEL
unfolding meant
returns-then-highest-le-MOST_LEVEL c =
    let h : c.fold-longest.result ≡ fold max 0 c.args.elapsed.now = search rules in
    let k : c.fold-highest.result ≡ fold max 0 c.args.levels.now = search rules in
    sym (samples-clean c.args.elapsed.now c.args.levels.now 0 0 0 _ (rw h at c.if-longest-le-MOST_ELAPSED.true) (rw k at c.if-highest-le-MOST_LEVEL.true))
