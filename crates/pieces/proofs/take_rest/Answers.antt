-- `pieces::take_rest` meets its contract. The loop's invariant: what is left of the dump, with the levels so far, gives the same moments.
-- Assumes nothing.
use mathlib.Core.Path.{ap, ◌∙◌}
use Rattle.std.proofs.Common.{Some}
use Rattle.pieces.proofs.Reading.{moving-value, moving-moves, moves-time, moves-breaks, moves-none}
use Rattle.pieces.proofs.take_rest.Goals as goal

pub returns-in_default : goal.returns-in_default
returns-in_default c = moves-none _ _ _ _ _ _ _ c.loop-word.invariant c.in_default.ensures

pub returns-in_default-change_of : goal.returns-in_default-change_of
returns-in_default-change_of c =
    moves-breaks _ _ _ _ _ _ _ c.loop-word.invariant _ _ _ c.in-Some.ensures _ c.change_of.ensures c.in_default-change_of.is

pub returns-in-Time : goal.returns-in-Time
returns-in-Time c =
    moves-time _ _ _ _ _ _ _ c.loop-word.invariant _ _ _ c.in-Some.ensures _ c.change_of.ensures _
    (c.in-Some-change_of.is ∙ ap Some c.in-Time.is)

pub loop-word-preserved-in-Value : goal.loop-word-preserved-in-Value
loop-word-preserved-in-Value c =
    moving-value _ _ _ _ _ _ _ c.loop-word.invariant _ _ _ c.in-Some.ensures _ c.change_of.ensures _ _
    (c.in-Some-change_of.is ∙ ap Some c.in-Value.is) c.level_of.ensures.value c.lay-level.ensures.value c.lay-level.ensures.upper_bound

pub loop-word-preserved : goal.loop-word-preserved
loop-word-preserved c =
    moving-moves _ _ _ _ _ _ _ c.loop-word.invariant _ _ _ c.in-Some.ensures _ c.change_of.ensures _
    (c.in-Some-change_of.is ∙ ap Some c.in-Moves.is)
