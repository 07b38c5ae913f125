-- What every reachable state keeps, shown by induction over the rows. Assumes nothing.
use Prim.Native.Nat.{ℕ, ◌<◌}
use mathlib.Core.Bool.{Bool, true, false, true≢false}
use mathlib.Core.List.{List, [], ◌∷◌, ◌++◌}
use mathlib.Core.Path.{◌≡◌, refl, ap, sym, subst, ◌∙◌}
use native.Mathlib.Omega.{arith}
use lib.Dec.{ltb}
use lib.ListN.{length, length-append}
use borrow.Author.Tests.{lt-ltb, ltb-true}
use Rattle.ground.specs.Numbers.{most_bits}
use Rattle.ground.specs.Cases.{highest}
use Rattle.ground.specs.Kind.{kind_of}
use Rattle.page.specs.Page.{at, marked}
use Rattle.part.specs.declared.state.Phase.TheVariants.{Idle}
use Rattle.part.specs.declared.state.State.{State}
use Rattle.ground.proofs.Tests.{and_split}
use Rattle.ground.specs.Verdict.{accepted}
use Rattle.refusals.specs.Refusals.{power_of, in_range}
use Rattle.sample.specs.Run.{Part, part_step, run_of}
use Rattle.power.specs.Power.{powered_up, at_power}
use Rattle.reachable.specs.Reachable.{Reachable, speaks, sends_now, Lowers, acknowledges, sends_zero, Keeps}
use Rattle.reachable.proofs.Kept.Talks.{Voice, rests, answers, sends, fresh}
use Rattle.ranges.specs.Fit.{Fit}
use Rattle.onward.proofs.Onward.{run-append, power-fit, run-fit}
use Rattle.reachable.proofs.Kept.Steps.{Sits, step-sits}

-- The state at a power-up.
power-sits : (part select stored : ℕ) → Sits (powered_up part select stored)
unfolding powered_up
power-sits part select stored =
    record {
      talks =
          fresh (kind_of part) 0 Idle (at 0)
          (record { stored = stored; wel = false; rwel = false; chosen = false; pending = false; value = 0 }) refl (λ x. cc)
          refl refl;
      line = λ x y. cc;
      acks = λ x y. absurd (omega arith);
    }

-- A part whose state keeps all, within the eight ranges, beside an array of its kind's size.
pub record Stands (p : Part) : Type 0 where
  pub sits : Sits p.state
  pub fit : Fit p

-- The rows, first sample first.
run-sits : (es ls : List ℕ) (p : Part) → Sits p.state → Sits (run_of es ls p).state
unfolding part_step
run-sits [] ls p g = g
run-sits (e ∷ es) [] p g = g
run-sits (e ∷ es) (l ∷ ls) p g = run-sits es ls (part_step e l p) (step-sits e l p.array p.state g)

-- Every reachable part.
pub reachable-stands : (p : Part) → Reachable p → Stands p
unfolding powered_up
reachable-stands p r =
    let q = at_power r.part r.select r.stored r.array in
    let f = power-fit r.part r.select r.stored r.array 0 r.given r.size in
    subst (λ (x : Part). Stands x) r.reached
    (record {
      sits = run-sits r.es r.ls q (power-sits r.part r.select r.stored);
      fit = run-fit r.es r.ls q f;
    })

-- In a phase of a read, below the eighth bit, a byte is being sent.
pub sends-now : (s : State) → speaks s.device.talk.phase ≡ true → s.wire.frame.bits < most_bits → sends_now s ≡ true
sends-now s a b = rw (a, lt-ltb s.wire.frame.bits most_bits b)

-- Only there a byte is being sent.
pub now-sends : (s : State) → sends_now s ≡ true
    → (speaks s.device.talk.phase ≡ true) × (s.wire.frame.bits < most_bits)
now-sends s e =
    let t = and_split (speaks s.device.talk.phase) (ltb s.wire.frame.bits most_bits) e in
    (t.0, ltb-true s.wire.frame.bits most_bits t.1)

-- Own SDA low has its reason.
low-reason : (s : State) → Voice s.device.talk s.wire.frame.bits → s.device.talk.own ≡ false → Lowers s
low-reason s (rests a b c) e = absurd (true≢false (sym c ∙ e))
low-reason s (answers a b c d) e = acknowledges a b
low-reason s (sends a b c) e = sends_zero (sends-now s a b) (sym c ∙ e)

-- Where a byte is being sent, its highest bit is out.
voice-sent : (s : State) → Voice s.device.talk s.wire.frame.bits → sends_now s ≡ true
    → s.device.talk.own ≡ highest s.device.talk.out
voice-sent s (rests a b c) e = let t = now-sends s e in let z = a t.0 in absurd (omega arith)
voice-sent s (answers a b c d) e = let t = now-sends s e in absurd (omega arith)
voice-sent s (sends a b c) e = c

-- Where none is being sent, the byte is 0.
voice-silent : (s : State) → Voice s.device.talk s.wire.frame.bits → sends_now s ≡ false
    → s.device.talk.out ≡ 0
voice-silent s (rests a b c) e = b
voice-silent s (answers a b c d) e = c
voice-silent s (sends a b c) e = absurd (true≢false (sym (sends-now s a b) ∙ e))

-- A mark set and a byte pending would be two phases at once.
not-both : (b : Bool) → (b ≡ true → true ≡ false) → b ≡ false
not-both true h = h refl
not-both false h = refl

-- What is kept together gives each part.
sits-keeps : (s : State) → Sits s → in_range s ≡ true → Keeps s
sits-keeps s g r =
    record {
      loading = g.talks.opens;
      pending =
          λ e.
          record {
            phase = g.talks.pends.phase e;
            chosen = g.talks.pends.chosen (g.talks.pends.phase e);
            alone = not-both (marked s.load) (λ x. cc (g.talks.pends.phase e, (g.talks.opens x).phase));
          };
      none = g.talks.pends.none;
      whole = g.talks.whole;
      own = low-reason s g.talks.voice;
      sent = voice-sent s g.talks.voice;
      silent = voice-silent s g.talks.voice;
      range = r;
      line = g.line;
    }

-- Every reachable state keeps what is listed.
pub reachable-keeps : (p : Part) → Reachable p → Keeps p.state
reachable-keeps p r = let g = reachable-stands p r in sits-keeps p.state g.sits g.fit.range

-- A part at an accepted power-up is reachable, by no rows.
pub power-reachable : (part select stored : ℕ) (array : List ℕ) → power_of part select stored ≡ accepted 0
    → length array ≡ (kind_of part).size → Reachable (at_power part select stored array)
power-reachable part select stored array e h =
    record {
      part = part;
      select = select;
      stored = stored;
      array = array;
      es = [];
      ls = [];
      given = e;
      size = h;
      rows = refl;
      reached = refl;
    }

-- A reachable part stays reachable through further rows.
pub reachable-on : (p : Part) → Reachable p → (es ls : List ℕ) → length es ≡ length ls → Reachable (run_of es ls p)
reachable-on p r es ls h =
    record {
      part = r.part;
      select = r.select;
      stored = r.stored;
      array = r.array;
      es = r.es ++ es;
      ls = r.ls ++ ls;
      given = r.given;
      size = r.size;
      rows = simp length-append (omega arith);
      reached =
          run-append r.es r.ls es ls (at_power r.part r.select r.stored r.array) r.rows
          ∙ ap (run_of es ls) r.reached;
    }
