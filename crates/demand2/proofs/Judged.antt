-- What an accepted capture was fit for. Assumes nothing.
use Prim.Native.Nat.{ℕ}
use mathlib.Core.List.{List}
use mathlib.Core.Path.{◌≡◌}
use lib.ListN.{length}
use borrow.Author.Tests.{eqb-true}
use Rattle.ground.specs.Kind.{kind_of}
use Rattle.part.specs.declared.state.State.{State}
use Rattle.ground.specs.Verdict.{accepted}
use Rattle.refusals.specs.Refusals.{judged_of}
use Rattle.refusals.proofs.Laws.{judged-passed}
use Rattle.ranges.specs.Fit.{Fit}

-- The part of an accepted replay is fit for it.
pub judged-fit : (s : State) (es ls array row : List ℕ) (n : ℕ) → judged_of s es ls array row ≡ accepted n
    → Fit (record { state = s; array = array })
judged-fit s es ls array row n j =
    let x = judged-passed s es ls array row n j in
    record {
      range = x.state-good;
      size = eqb-true (length array) (kind_of s.chip.part).size x.array-good;
    }
