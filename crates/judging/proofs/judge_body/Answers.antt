-- `judging::judge_body` meets its contract: the faults and samples so far, with those of what is left, are the dump's. Assumes nothing.
use mathlib.Core.Path.{refl, ap, ◌∙◌}
use native.Mathlib.Omega.{arith}
use Rattle.std.proofs.Common.{Some}
use Rattle.ground.specs.declared.Reason.TheVariants.{DumpMalformed}
use Rattle.headings.proofs.FaultLaws.{joined_small}
use Rattle.judging.proofs.Kept.{kept-start, counts-small, first-within, none-told, told-none}
use Rattle.judging.proofs.Turns.{turn-time, turn-value, turn-moves, turn-breaks, judged-end}
use Rattle.judging.proofs.judge_body.Goals as goal

pub loop-word-init : goal.loop-word-init
loop-word-init c = kept-start _ _ _ c.requires

pub returns-in_default : goal.returns-in_default
returns-in_default c =
    judged-end _ _ _ _ _ _ c.pass-plain.ensures.kept c.in_default.ensures _ _ _ c.at_end-reason.ensures refl c.join_end.ensures.value _ c.reply_of.ensures

pub reply_of-requires-in_default-change_of : goal.reply_of-requires-in_default-change_of
reply_of-requires-in_default-change_of c =
    let k = c.pass-plain.ensures.kept in
    let w = c.in-Some.ensures in
    rw c.join.ensures
    (first-within _ _ _ (omega (arith, c.well_formed.0.1)) (joined_small _ (Some DumpMalformed) _ _ k.faulty (omega (arith, w.small, w.some, w.inside))))

pub returns-in_default-change_of : goal.returns-in_default-change_of
returns-in_default-change_of c =
    turn-breaks _ _ _ _ _ _ c.pass-plain.ensures.kept _ _ _ c.in-Some.ensures _ _
    c.change_of.ensures c.in_default-change_of.is c.join.ensures _ c.reply_of-in_default-change_of.ensures

pub take_time-heard-requires-clause-samples_le_most_counted :
    goal.take_time-heard-requires-clause-samples_le_most_counted
take_time-heard-requires-clause-samples_le_most_counted c =
    let w = counts-small _ _ _ _ _ _ c.pass-plain.ensures.kept (omega (arith, c.well_formed.0.1)) _ _ _ c.join-fault.ensures in
    λ e. w.1 (none-told _ _ c.is_none.ensures e)

pub loop-word-preserved-in-Time : goal.loop-word-preserved-in-Time
loop-word-preserved-in-Time c =
    turn-time _ _ _ _ _ _ c.pass-plain.ensures.kept _ _ _ c.in-Some.ensures _ _
    c.change_of.ensures (c.in-Some-change_of.is ∙ ap Some c.in-Time.is) _ c.at_time-reason.ensures _
    (λ e. told-none _ _ c.is_none.ensures (c.join-fault.ensures ∙ e)) _ _ c.join-fault.ensures c.take_time-heard.ensures

pub loop-word-preserved-in-Value : goal.loop-word-preserved-in-Value
loop-word-preserved-in-Value c =
    turn-value _ _ _ _ _ _ c.pass-plain.ensures.kept _ _ _ c.in-Some.ensures _ _ _
    c.change_of.ensures (c.in-Some-change_of.is ∙ ap Some c.in-Value.is) _ c.at_value.ensures _ _ c.join-fault-in-Value.ensures c.lay.ensures.value

pub loop-word-preserved : goal.loop-word-preserved
loop-word-preserved c =
    turn-moves _ _ _ _ _ _ c.pass-plain.ensures.kept _ _ _ c.in-Some.ensures _ _
    c.change_of.ensures (c.in-Some-change_of.is ∙ ap Some c.in-Moves.is)
