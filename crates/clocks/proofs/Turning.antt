-- One sample with VCC good in which no timer ends, by its sign. Assumes nothing.
use Prim.Native.Nat.{ℕ}
use mathlib.Core.Bool.{true, false, ◌&&◌}
use mathlib.Core.List.{List}
use mathlib.Core.Path.{◌≡◌, ap, ◌∙◌}
use Rattle.timers.specs.Timers.{timed_of, supplied_of}
use Rattle.part.specs.Bench.{part_of}
use Rattle.part.specs.declared.state.Timers.{Timers}
use Rattle.part.specs.declared.state.Wire.{Wire}
use Rattle.part.specs.declared.state.Device.{Device}
use Rattle.part.specs.declared.state.Load.{Load}
use Rattle.part.specs.declared.state.State.{State}
use Rattle.wire.specs.declared.Sign.{Sign}
use Rattle.levels.specs.Level.{scl_of, sda_of, wp_of, vcc_of}
use Rattle.sample.specs.Sample.{opens_of, heard_by, written_by, sign_in, wired_of}
use Rattle.sample.specs.Run.{part_step}
use Rattle.sample.proofs.Sampled.{step-heard, array-heard}
use Rattle.clocks.specs.Goes.{moved_of}
use Rattle.clocks.proofs.Seeing.{Sees}

module _ (s : State) (array : List ℕ) (e l : ℕ) (t t' : Timers) (w w' : Wire) (d : Device) (m : Load) where
  opened : vcc_of l ≡ true → supplied_of true (timed_of d.control.stored e t) ≡ t' → opens_of e l (moved_of s t w d m) ≡ moved_of s t' w d m
  unfolding opens_of
  opened v h = rw (v, h)

  -- It comes to what its sign does.
  pub heard : (sign : Sign) (q : State) → vcc_of l ≡ true
      → supplied_of true (timed_of d.control.stored e t) ≡ t' → t'.reset ≡ false
      → Sees w (scl_of l) (sda_of l && d.talk.own) sign w'
      → heard_by sign (wp_of l) array (moved_of s t' w' d m) ≡ q
      → written_by sign (moved_of s t' w' d m) array ≡ array
      → part_of q array ≡ part_step e l (part_of (moved_of s t w d m) array)
  unfolding part_step sign_in wired_of
  heard sign q v h r y f g =
      let o = opened v h in
      let z = ap (λ (x : State). x.timers.reset) o ∙ r in
      let a = step-heard e l array (moved_of s t w d m) z in
      let b = array-heard e l array (moved_of s t w d m) z in
      rw (a, b, o, y.shown, y.left, f, g)
