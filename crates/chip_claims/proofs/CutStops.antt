-- What a stop does, cut or not. Assumes nothing.
use Prim.Native.Nat.{ℕ}
use mathlib.Core.Bool.{Bool, true, false, true≢false}
use mathlib.Core.Path.{◌≡◌, refl, ap, ◌∙◌}
use native.Mathlib.Omega.{arith}
use borrow.Author.Tests.{lt-ltb}
use Rattle.page.specs.Page.{empty_load}
use Rattle.part.specs.State.{with_device, with_load}
use Rattle.part.specs.declared.state.Control.{Control}
use Rattle.part.specs.declared.state.State.{State}
use Rattle.part.specs.declared.state.Timers.{Timers}
use Rattle.timers.specs.Timers.{timed_of, supplied_of}
use Rattle.wire.specs.declared.Sign.{Sign}
use Rattle.wire.specs.declared.Sign.TheVariants.{Stop}
use Rattle.ends.specs.Ends.{cuts_off, dropped, ended_of}
use Rattle.levels.specs.Level.{wp_of, vcc_of}
use Rattle.sample.specs.Sample.{latched_by, opens_of, wired_of, stop_of, saved_of, sign_in, sees, seen_by, seen_of, step_of, array_of}
use Rattle.sample.specs.Run.{Part, part_step}
use Rattle.sample.proofs.Stops.{cut-stop, cut-saved, whole-left}
use Rattle.chip_claims.specs.CutStops.{Cancelled, WhichCut, CutStops}

-- Where a sign is seen VCC is good, and the latches stand.
latched-seen : (v : Bool) (t : Timers) (sign seen : Sign) (c : Control) → seen_by (supplied_of v t).reset sign ≡ sees seen
    → dropped (latched_by v c) ≡ dropped c
unfolding supplied_of
latched-seen true t sign seen c h = refl
latched-seen false t sign seen c h = absurd (true≢false (cc))

module _ (e level n : ℕ) (p : Part) (seen : seen_of level (opens_of e level p.state) ≡ sees (Stop n)) where
  -- The state after rules 1 and 2, with the wire after the sample.
  abbrev wired : State
  wired = wired_of level (opens_of e level p.state)

  -- The part after a stop that cuts a byte off.
  cut_step : cuts_off p.state.device.talk.phase n ≡ true
      → ◌≡◌ {A = Part} (part_step e level p) (record { state = with_load (with_device wired (ended_of wired.device)) empty_load; array = p.array })
  unfolding part_step step_of array_of opens_of wired_of
  cut_step c = rw (seen, cut-stop n (wp_of level) wired c, cut-saved n wired p.array c)

  -- Nothing but the talk has ended.
  cut-cancels : cuts_off p.state.device.talk.phase n ≡ true → Cancelled e level p (part_step e level p)
  unfolding opens_of wired_of ended_of seen_of
  cut-cancels c =
      let k = cut_step c in
      record {
        chip = ap (λ (r : Part). r.state.chip) k;
        wire = ap (λ (r : Part). r.state.wire) k;
        array = ap (λ (r : Part). r.array) k;
        timers = ap (λ (r : Part). r.state.timers) k;
        counter = ap (λ (r : Part). r.state.device.counter) k;
        register =
            ap (λ (r : Part). r.state.device.control) k
            ∙ latched-seen (vcc_of level) (timed_of p.state.device.control.stored e p.state.timers) (sign_in level (opens_of e level p.state))
            (Stop n) p.state.device.control seen;
        talk = ap (λ (r : Part). r.state.device.talk) k;
        load = ap (λ (r : Part). r.state.load) k;
      }

  -- Any other stop works on the part as it stands.
  whole-works : cuts_off p.state.device.talk.phase n ≡ false
      → ◌≡◌ {A = Part} (part_step e level p) (record { state = stop_of (wp_of level) wired; array = saved_of p.state p.array })
  unfolding part_step step_of array_of opens_of wired_of
  whole-works c = rw (seen, whole-left n wired c)

-- Which stops cut.
which-cut : WhichCut
which-cut =
    record {
      array = λ n h k. lt-ltb 0 n (omega arith);
      register = λ n h k. lt-ltb 0 n (omega arith);
      none = (refl, refl);
      waiting = λ n. (refl, refl);
      addressed = λ n. (refl, refl, refl);
      sending = λ n. (refl, refl);
    }

-- The claim.
pub cut-stops : CutStops
cut-stops = record { which = which-cut; cancels = cut-cancels; works = whole-works }
