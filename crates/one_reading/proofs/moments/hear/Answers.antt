-- `one_reading::moments::hear` meets its contract. The loop's invariant: no fault was heard, and what is left gives the same moments.
-- Assumes nothing.
use mathlib.Core.Bool.{true, false}
use mathlib.Core.Path.{◌≡◌, ap, ◌∙◌}
use native.Mathlib.Omega.{arith}
use Rattle.std.proofs.Common.{rules, Some, None}
use Rattle.std.specs.Option.{is_some}
use Rattle.one_reading.proofs.Hearing.{hearing-first, hearing-moves, hearing-value, unfit-faulty, late-faulty, broken-faulty, ends-badly, closes-end, closes-time, heard-small, none-some, some-none}
use Rattle.one_reading.proofs.moments.hear.Goals as goal

pub loop-word-init : goal.loop-word-init
loop-word-init c = hearing-first _ _ _ _ _ c.requires.going.kept c.requires.going.begun

pub returns-then-is_some : goal.returns-then-is_some
returns-then-is_some c =
    let t : is_some c.at_end.result ≡ true = cc in
    ends-badly _ _ _ _ _ _ _ _ c.loop-word.invariant _ c.in_default.ensures c.at_end.ensures (some-none _ t)

pub returns-in_default : goal.returns-in_default
returns-in_default c =
    let t : is_some c.at_end.result ≡ false = cc in
    closes-end _ _ _ _ _ _ _ _ c.loop-word.invariant _ c.in_default.ensures c.at_end.ensures (none-some _ t)

pub returns-in_err-change : goal.returns-in_err-change
returns-in_err-change c =
    let e : c.from_residual.result ≡ None = search rules in
    rw e (broken-faulty _ _ _ _ _ _ _ _ c.loop-word.invariant _ _ _ c.in-Some.ensures _ c.change_of.ensures c.in_err-change.was)

pub returns-then-is_some-2 : goal.returns-then-is_some-2
returns-then-is_some-2 c =
    let t : is_some c.at_time.result ≡ true = cc in
    late-faulty _ _ _ _ _ _ _ _ c.loop-word.invariant _ _ _ c.in-Some.ensures _ c.change_of.ensures _ _
    (c.in_ok-change.was ∙ ap Some c.in-Time.is) c.at_time.ensures (some-none _ t)

pub take_time-heard-requires : goal.take_time-heard-requires
take_time-heard-requires c =
    let s = heard-small _ _ _ _ _ c.loop-word.invariant.kept (omega (arith, c.well_formed.0.1)) in
    record { lines_bound = s.0; samples_le_most_counted = λ e. s.1 }

pub returns-in-Time : goal.returns-in-Time
returns-in-Time c =
    let t : is_some c.at_time.result ≡ false = cc in
    closes-time _ _ _ _ _ _ _ _ c.loop-word.invariant _ _ _ c.in-Some.ensures _ c.change_of.ensures _ _
    (c.in_ok-change.was ∙ ap Some c.in-Time.is) c.at_time.ensures _ (none-some _ t) c.take_time-heard.ensures

pub returns-then-is_some-3 : goal.returns-then-is_some-3
returns-then-is_some-3 c =
    let t : is_some c.at_value.result ≡ true = cc in
    unfit-faulty _ _ _ _ _ _ _ _ c.loop-word.invariant _ _ _ c.in-Some.ensures _ c.change_of.ensures _ _ _
    (c.in_ok-change.was ∙ ap Some c.in-Value.is) c.at_value.ensures (some-none _ t)

pub loop-word-preserved-in-Value : goal.loop-word-preserved-in-Value
loop-word-preserved-in-Value c =
    let t : is_some c.at_value.result ≡ false = cc in
    hearing-value _ _ _ _ _ _ _ _ c.loop-word.invariant _ _ _ c.in-Some.ensures _ c.change_of.ensures _ _ _
    (c.in_ok-change.was ∙ ap Some c.in-Value.is) c.at_value.ensures _ _ _ (none-some _ t) c.level_of.ensures.value c.lay-level.ensures.value c.lay-level.ensures.upper_bound c.lay.ensures.value

pub loop-word-preserved : goal.loop-word-preserved
loop-word-preserved c =
    hearing-moves _ _ _ _ _ _ _ _ c.loop-word.invariant _ _ _ c.in-Some.ensures _ c.change_of.ensures _
    (c.in_ok-change.was ∙ ap Some c.in-Moves.is)
