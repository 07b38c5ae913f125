-- `limits::faults` meets its contract: what the samples left say is what all of them say.
use mathlib.Core.Path.{◌≡◌, sym, ◌∙◌}
use mathlib.Core.Logic.{◌⊎◌, inl, inr}
use lib.ListN.{length}
use borrow.Author.Tests.{le-leb, lt-leb}
use Rattle.std.specs.Iterator.Adapters.{enumerate_source, enumerate_count, zip_first, zip_second}
use Rattle.std.specs.Slice.Iter.{iter_rest}
use Rattle.ground.specs.Verdict.{meant}
use Rattle.limits.proofs.Laws.{samples-end}
use Rattle.limits.proofs.faults.Goals as goal

pub returns-then-time-gt-MOST_ELAPSED : goal.returns-then-time-gt-MOST_ELAPSED
unfolding meant
returns-then-time-gt-MOST_ELAPSED c =
    let s = c.in-Some.ensures.steps in
    rw (← c.loop-place.invariant, s.0.0, s.0.1, ← s.1, lt-leb _ _ c.if-time-gt-MOST_ELAPSED.true)

pub returns-then-level-gt-MOST_LEVEL : goal.returns-then-level-gt-MOST_LEVEL
unfolding meant
returns-then-level-gt-MOST_LEVEL c =
    let s = c.in-Some.ensures.steps in
    rw (← c.loop-place.invariant, s.0.0, s.0.1, ← s.1, le-leb _ _ c.if-time-gt-MOST_ELAPSED.false, lt-leb _ _ c.if-level-gt-MOST_LEVEL.true)

pub returns : goal.returns
unfolding meant
returns c =
    let it = c.loop-place.place-iterator in
    let times = iter_rest (zip_first (enumerate_source it)) in
    let levels = iter_rest (zip_second (enumerate_source it)) in
    let e : (length times ≡ 0) ⊎ (length levels ≡ 0) =
    elim c.in-None.ensures.steps.0 [ inl x ↦ inl x.1.0 | inr x ↦ inr x.1.0 ] in
    sym (samples-end times levels (enumerate_count it) _ e) ∙ c.loop-place.invariant
