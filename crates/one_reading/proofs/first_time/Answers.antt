-- `one_reading::first_time` meets its contract. The loop's invariant: no fault was met, and what is left gives the same samples.
-- Assumes nothing.
use mathlib.Core.Path.{◌≡◌, ap, ◌∙◌}
use native.Mathlib.Omega.{arith}
use Rattle.std.proofs.Common.{rules, Some, None}
use Rattle.one_reading.proofs.Beginning.{beginning-first, beginning-moves, starts_first, starts-short, starts-value, starts-broken}
use Rattle.one_reading.proofs.first_time.Goals as goal

pub loop-word-init : goal.loop-word-init
loop-word-init c = beginning-first _ _ _ c.requires.kept

pub returns-in_err-word : goal.returns-in_err-word
returns-in_err-word c =
    let e : c.from_residual.result ≡ None = search rules in
    rw e (starts-short _ _ _ _ _ c.loop-word.invariant c.in_err-word.ensures)

pub returns-in_err-change : goal.returns-in_err-change
returns-in_err-change c =
    let e : c.from_residual-in_err-change.result ≡ None = search rules in
    rw e (starts-broken _ _ _ _ _ c.loop-word.invariant _ _ _ c.in_ok-word.ensures _ c.change_of.ensures c.in_err-change.was)

pub take_time-heard-requires : goal.take_time-heard-requires
take_time-heard-requires c = record { lines_bound = omega arith; samples_le_most_counted = λ e. omega arith }

pub returns-in-Time : goal.returns-in-Time
returns-in-Time c =
    starts_first _ _ _ _ _ c.loop-word.invariant _ _ _ c.in_ok-word.ensures _ c.change_of.ensures _ _
    (c.in_ok-change.was ∙ ap Some c.in-Time.is) c.take_time-heard.ensures

pub loop-word-preserved : goal.loop-word-preserved
loop-word-preserved c =
    beginning-moves _ _ _ _ _ c.loop-word.invariant _ _ _ c.in_ok-word.ensures _ c.change_of.ensures _
    (c.in_ok-change.was ∙ ap Some c.in-Moves.is)

pub returns-in-Value : goal.returns-in-Value
returns-in-Value c =
    starts-value _ _ _ _ _ c.loop-word.invariant _ _ _ c.in_ok-word.ensures _ c.change_of.ensures _ _
    (c.in_ok-change.was ∙ ap Some c.in-Value.is)
