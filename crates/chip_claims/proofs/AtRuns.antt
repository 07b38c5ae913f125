-- The claims on the part at captures that were computed. Each law rests on the claims that it names.
use mathlib.Core.Bool.{true, false}
use mathlib.Core.List.{List}
use mathlib.Core.Path.{◌≡◌, refl, ap, ◌∙◌}
use lib.ListN.{get_or, take}
use Prim.Native.Nat.{ℕ}
use Rattle.ground.specs.Numbers.{x4323, x4283}
use Rattle.ground.specs.Kind.{kind_of}
use Rattle.ground.specs.Verdict.{meant}
use Rattle.std.specs.Prelude.{Ok}
use Rattle.refusals.specs.Refusals.{power_of}
use Rattle.power.specs.Power.{powered_up}
use Rattle.power.specs.declared.Replayed.{Replayed}
use Rattle.waves.specs.Waves.{Capture, up_to}
use Rattle.wire.specs.declared.Sign.TheVariants.{Stop}
use Rattle.page.specs.Page.{marked}
use Rattle.ends.specs.Ends.{cuts_off}
use Rattle.sample.specs.Sample.{opens_of, saved_of, sees, seen_of}
use Rattle.sample.specs.Run.{Part}
use Rattle.chip_claims.specs.CutStops.{CutStops}
use Rattle.runs.specs.Runs.{after_capture, Taken}
use Rattle.runs.proofs.Opened.{opened}
use Rattle.reachable.specs.Reachable.{Reachable}
use Rattle.demand3.specs.Sending.{nothing, sends, sent_of}
use Rattle.part.specs.declared.state.State.{State}
use Rattle.demand3.specs.Differ.{fetches_none, EqualBut, FullLoad, sent_after}
use Rattle.demand3_runs.specs.Occurs.{spot, left, right, far_spot, far_left, far_right, read_at, read_it, unset_write, set_write, cut_write, cut_stop_at, whole_stop_at, cut_read, Occurs}
use Rattle.chip_claims.specs.Demand3.{over, Compared, ReplayDemand3, PowerDemand3, ComputedForm}
use Rattle.chip_claims.specs.States.{HandedOut, FitAgain, CutAnywhere}
use Rattle.chip_claims.specs.AtRuns.{row_for, Outcome, AtRuns}

-- The load at power-up is whole.
power-load : (part stored : ℕ) → FullLoad (powered_up part 0 stored)
unfolding powered_up
power-load part stored = record { bytes = refl; marks = refl }

left-load : FullLoad left.state
left-load = power-load x4323 0

-- A part of the runs has just been powered up.
left-reachable : HandedOut → Occurs → Reachable left
unfolding power_of kind_of meant
left-reachable handed o =
    (handed.power x4323 0 0 0 left.array (record { reply = Ok 0; state = left.state })
    (record { reply = refl; state = refl }) refl o.size).1

-- Two replays of a capture that is taken, of one state over two arrays.
module _ (d : ReplayDemand3) (a : ℕ) (s : State) (xs ys : List ℕ) (load : FullLoad s) (arrays : EqualBut a xs ys) (c : Capture)
    (t : Taken c (over s xs)) (r q : Replayed) (xs' ys' said said₂ : List ℕ) where
  two-replays : Outcome c (over s xs) r xs' said → Outcome c (over s ys) q ys' said₂
      → Compared a s xs ys c.times c.levels r q xs' ys' said said₂
  two-replays x y =
      let v = d.verdict a s xs ys c.times c.levels (row_for c) arrays in
      d.compared a s xs ys c.times c.levels (row_for c) (row_for c) _ _ r q xs' ys' said said₂ load arrays
      (record { judged = t; replays = x }) (record { judged = v ∙ t; replays = y })

-- Of the two parts of the runs.
compares : ReplayDemand3 → Occurs → (c : Capture) → Taken c left → (r q : Replayed) (xs ys said said₂ : List ℕ) → Outcome c left r xs said
    → Outcome c right q ys said₂
    → Compared spot left.state left.array right.array c.times c.levels r q xs ys said said₂
compares d o c t r q xs ys said said₂ x y =
    two-replays d spot left.state left.array right.array left-load o.arrays c t r q xs ys said said₂ x y

-- The first 100 samples of the read fetch nothing from the address.
not-fetched : fetches_none spot (take 100 read_it.times) (take 100 read_it.levels) left ≡ true
unfolding opened sent_of
not-fetched = refl

-- After the read that is cut off the third bit of the byte is out.
third-bit : sent_after cut_read.times cut_read.levels left nothing ≡ sends spot 0x4C 2
unfolding opened sent_of
third-bit = refl

-- The stop of the write that is cut is seen with three bits committed, while data comes in; that of the other with none.
cut-seen : seen_of 11 (opens_of 1 11 (after_capture (up_to cut_stop_at cut_write) left).state) ≡ sees (Stop 3)
unfolding opened
cut-seen = refl

cut-loaded : marked (after_capture (up_to cut_stop_at cut_write) left).state.load ≡ true
unfolding opened
cut-loaded = refl

cuts-three : cuts_off (after_capture (up_to cut_stop_at cut_write) left).state.device.talk.phase 3 ≡ true
unfolding opened
cuts-three = refl

whole-seen : seen_of 11 (opens_of 1 11 (after_capture (up_to whole_stop_at set_write) left).state) ≡ sees (Stop 0)
unfolding opened
whole-seen = refl

cuts-none : cuts_off (after_capture (up_to whole_stop_at set_write) left).state.device.talk.phase 0 ≡ false
unfolding opened
cuts-none = refl

-- What the other stores.
stored_there : get_or (saved_of (after_capture (up_to whole_stop_at set_write) left).state (after_capture (up_to whole_stop_at set_write) left).array) spot 0 ≡ 0x77
unfolding opened
stored_there = refl

-- The claims at the runs.
pub runs-from : Occurs → ReplayDemand3 → PowerDemand3 → ComputedForm → HandedOut → FitAgain → CutAnywhere → CutStops → AtRuns
unfolding kind_of
runs-from o replay3 power3 form handed fit cut stops =
    record {
      read = λ r q xs ys said said₂ x y. (compares replay3 o read_it o.read.taken r q xs ys said said₂ x y).reached 126 o.read.reached;
      far = λ r q xs ys said said₂ x y.
          (two-replays replay3 far_spot far_left.state far_left.array far_right.array (power-load x4283 0x08) o.far (read_at far_spot)
          o.far-read.taken r q xs ys said said₂ x y).reached 126 o.far-read.reached;
      write = λ r q xs ys said said₂ x y.
          (compares replay3 o set_write o.write.taken r q xs ys said said₂ x y).covered 230 o.write.covered;
      powered = power3.alike spot left right.array read_it.times read_it.levels (left-reachable handed o) o.arrays;
      pieces = λ r r₁ r₂ xs xs₁ xs₂ said said₁ said₂ x y z.
          cut.joined left.state read_it.times read_it.levels left.array (row_for read_it) _ _ 121 27 r r₁ r₂ xs xs₁ xs₂ said said₁
          said₂ (record { judged = o.read.taken; replays = x }) refl refl y z;
      again = λ r xs said x.
          fit.fit left.state read_it.times read_it.levels left.array (row_for read_it) _ r xs said
          (record { judged = o.read.taken; replays = x });
      low = λ r xs said x.
          (handed.replay left cut_read.times cut_read.levels (row_for cut_read) r xs said (left-reachable handed o) x).0.own;
      until =
          (power3.alike spot left right.array read_it.times read_it.levels (left-reachable handed o) o.arrays).until 100 not-fetched;
      out =
          (power3.alike spot left right.array cut_read.times cut_read.levels (left-reachable handed o) o.arrays).out left spot 0x4C
          2 third-bit;
      stays =
          (power3.alike spot left right.array unset_write.times unset_write.levels (left-reachable handed o) o.arrays).uncovered
          o.covering.0;
      cut = (cut-seen, cut-loaded);
      whole = whole-seen;
      cancelled = stops.cancels 1 11 3 (after_capture (up_to cut_stop_at cut_write) left) cut-seen cuts-three;
      stored =
          ap (λ (r : Part). get_or r.array spot 0) (stops.works 1 11 0 (after_capture (up_to whole_stop_at set_write) left) whole-seen cuts-none)
          ∙ stored_there;
      form = form.holds spot left.state left.array right.array read_it.times read_it.levels left-load o.arrays;
    }
