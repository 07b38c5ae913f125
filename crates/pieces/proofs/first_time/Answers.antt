-- `pieces::first_time` meets its contract. The loop's invariant: what is left of the dump gives the same samples. Assumes nothing.
use mathlib.Core.Path.{◌≡◌, ap, ◌∙◌}
use Rattle.std.proofs.Common.{rules, Some, None}
use Rattle.pieces.proofs.Reading.{starting-moves, starts-time, starts-value, starts-breaks, starts_none}
use Rattle.pieces.proofs.first_time.Goals as goal

pub returns-in_err-word : goal.returns-in_err-word
returns-in_err-word c =
    let e : c.from_residual.result ≡ None = search rules in
    rw e (starts_none _ _ _ _ _ c.loop-word.invariant c.in_err-word.ensures)

pub returns-in_err-change : goal.returns-in_err-change
returns-in_err-change c =
    let e : c.from_residual-in_err-change.result ≡ None = search rules in
    rw e (starts-breaks _ _ _ _ _ c.loop-word.invariant _ _ _ c.in_ok-word.ensures _ c.change_of.ensures c.in_err-change.was)

pub returns-in-Time : goal.returns-in-Time
returns-in-Time c =
    starts-time _ _ _ _ _ c.loop-word.invariant _ _ _ c.in_ok-word.ensures _ c.change_of.ensures _
    (c.in_ok-change.was ∙ ap Some c.in-Time.is)

pub loop-word-preserved : goal.loop-word-preserved
loop-word-preserved c =
    starting-moves _ _ _ _ _ c.loop-word.invariant _ _ _ c.in_ok-word.ensures _ c.change_of.ensures _
    (c.in_ok-change.was ∙ ap Some c.in-Moves.is)

pub returns-in-Value : goal.returns-in-Value
returns-in-Value c =
    starts-value _ _ _ _ _ c.loop-word.invariant _ _ _ c.in_ok-word.ensures _ c.change_of.ensures _ _
    (c.in_ok-change.was ∙ ap Some c.in-Value.is)
