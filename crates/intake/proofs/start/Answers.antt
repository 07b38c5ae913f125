-- An accepted power-up has the verdict of its words, and the state of one.
use Rattle.std.proofs.Common.{◌≡◌, ◌∙◌, ap, ℕ, min, Ok}
use Rattle.part.specs.declared.state.State.{State}
use Rattle.ground.proofs.Verdicts.{is-accepted}
use Rattle.power.specs.Power.{powered_up, power_state}
use Rattle.power.specs.Promises.{PowersUp}
use Rattle.power.specs.declared.Replayed.{Replayed}
use Rattle.refusals.specs.Refusals.{power_of}
use Rattle.form.specs.declared.headers.Header.{Header}
use Rattle.form.specs.Header.{state_of}
use Rattle.intake.specs.Start.{Starts}
use Rattle.intake.proofs.start.Goals as goal

starts_at : (h : Header) (a b d n : ℕ) (r : Replayed) (s : State) → a ≡ min h.part 65535 → b ≡ min h.select 255 → d ≡ min h.stored 255 → PowersUp a b d r → r.reply ≡ Ok n → s ≡ state_of h r.state → Starts h s
starts_at h a b d n r s ea eb ed p o e =
    let v = is-accepted r.reply (power_of a b d) n p.reply o in
    let u : r.state ≡ powered_up a b d = p.state ∙ ap (λ k. power_state k a b d) v in
    record { accepts = (n, cc); state = cc }

pub returns-clause-started : goal.returns-clause-started
returns-clause-started c =
    starts_at
    c.args.header c.narrow16.result c.narrow8.result c.narrow8-2.result c.in_ok-up.field-0 c.power_up-up.result c.state_of.result
    c.narrow16.ensures c.narrow8.ensures c.narrow8-2.ensures c.power_up-up.ensures c.in_ok-up.was c.state_of.ensures
