-- Samples with VCC low. Assumes nothing.
use Prim.Native.Nat.{ℕ, ◌+◌, ◌-◌, ◌<◌}
use mathlib.Core.Bool.{Bool, true, false}
use mathlib.Core.List.{List}
use mathlib.Core.Path.{◌≡◌, refl, sym, ap, ◌∙◌}
use native.Mathlib.Numerals.{add-one}
use native.Mathlib.Nat.{add_assoc}
use lib.Dec.{ltb}
use lib.ListN.{length, get_or}
use Rattle.ground.specs.Cases.{or_zero}
use Rattle.ground.specs.Kind.{kind_of}
use Rattle.timers.specs.Timers.{timed_of, supplied_of}
use Rattle.page.specs.Page.{empty_load}
use Rattle.part.specs.Bench.{part_of}
use Rattle.part.specs.declared.state.Timers.{Timers}
use Rattle.part.specs.declared.state.Lines.{Lines}
use Rattle.part.specs.declared.state.Wire.{Wire}
use Rattle.part.specs.declared.state.Device.{Device}
use Rattle.part.specs.declared.state.Load.{Load}
use Rattle.part.specs.declared.state.State.{State}
use Rattle.ends.specs.Ends.{ended_of}
use Rattle.levels.specs.Level.{scl_of, sda_of, vcc_of, answer_of, pin_by}
use Rattle.sample.specs.Sample.{opens_of, reset_of}
use Rattle.sample.specs.Run.{Part, part_step}
use Rattle.sample.proofs.Sampled.{step-reset, array-reset}
use Rattle.clocks.specs.Goes.{Goes, moved_of}
use Rattle.clocks.specs.Rooms.{base_of, Tells}
use Rattle.dark.specs.Dark.{held_at, quiet_at, fallen_of, Dark, dark_at}
use Rattle.clocks.proofs.Going.{goes_on}

-- Low VCC is reset.
resets : (s : State) (e l : ℕ) → vcc_of l ≡ false → (opens_of e l s).timers.reset ≡ true
unfolding opens_of supplied_of
resets s e l v = rw v

-- A sample with VCC low.
pub low_step : (s : State) (array : List ℕ) (e l : ℕ) → vcc_of l ≡ false → part_of (reset_of l (opens_of e l s)) array ≡ part_step e l (part_of s array)
unfolding part_step
low_step s array e l v = rw (step-reset e l array s (resets s e l v), array-reset e l array s (resets s e l v))

-- The state after it is dark.
pub first-dark : (s : State) (e l : ℕ) → vcc_of l ≡ false → Dark (reset_of l (opens_of e l s))
unfolding opens_of reset_of supplied_of ended_of
first-dark s e l v = record { timers = rw v; wire = refl; device = rw v; load = refl }

-- The state with other timers and another wire.
abbrev dimmed : State → Timers → Wire → State
dimmed s t w = moved_of s t w s.device s.load

module _ (s : State) (h : Dark s) where
  -- A dark state has these fields.
  dark-as : (write : ℕ) (lines : Lines) → dark_at s write lines ≡ dimmed s (held_at write s.timers.watchdog) (quiet_at lines)
  dark-as write lines =
      ap
      (λ (t : Timers). dimmed s (record { write = write; hold = t.hold; reset = t.reset; low = t.low; watchdog = t.watchdog }) (record { lines = lines; frame = s.wire.frame }))
      h.timers
      ∙ ap (λ (w : Wire). dimmed s (held_at write s.timers.watchdog) (record { lines = lines; frame = w.frame })) h.wire

  -- Another such sample changes no more than the write time and the lines.
  again : (e l write : ℕ) (lines : Lines) → vcc_of l ≡ false
      → reset_of l (opens_of e l (dimmed s (held_at write s.timers.watchdog) (quiet_at lines)))
      ≡ moved_of s (held_at (write - e) s.timers.watchdog) (quiet_at (record { scl = scl_of l; sda = sda_of l })) (fallen_of s.device) empty_load
  unfolding opens_of reset_of timed_of supplied_of
  again e l write lines v = rw v

  pub dark-turn : (e l write : ℕ) (lines : Lines) (array : List ℕ) → vcc_of l ≡ false
      → part_of (dark_at s (write - e) (record { scl = scl_of l; sda = sda_of l })) array ≡ part_step e l (part_of (dark_at s write lines) array)
  dark-turn e l write lines array v =
      ap (λ (x : State). part_of x array)
      (dark-as (write - e) (record { scl = scl_of l; sda = sda_of l })
      ∙ ap (λ (d : Device). moved_of s (held_at (write - e) s.timers.watchdog) (quiet_at (record { scl = scl_of l; sda = sda_of l })) d s.load) h.device
      ∙ ap (λ (m : Load). moved_of s (held_at (write - e) s.timers.watchdog) (quiet_at (record { scl = scl_of l; sda = sda_of l })) (fallen_of s.device) m) h.load
      ∙ sym (again e l write lines v)
      ∙ ap (λ (x : State). reset_of l (opens_of e l x)) (sym (dark-as write lines)))
      ∙ low_step (dark_at s write lines) array e l v

  held-said : (write : ℕ) (lines : Lines) (d : Device) → d.talk.own ≡ true
      → answer_of (moved_of s (held_at write s.timers.watchdog) (quiet_at lines) d s.load) ≡ 1 + base_of (kind_of s.chip.part).high true write
  unfolding answer_of
  held-said write lines d o = rw o (add_assoc 1 (or_zero (pin_by (kind_of s.chip.part).high true) 2) (or_zero (ltb 0 write) 4))

  released : s.device.talk.own ≡ true
  unfolding ended_of
  released = ap (λ (d : Device). d.talk.own) h.device

  -- Its answer.
  pub dark-said : (write : ℕ) (lines : Lines) → answer_of (dark_at s write lines) ≡ 1 + base_of (kind_of s.chip.part).high true write
  dark-said write lines = ap answer_of (dark-as write lines) ∙ held-said write lines s.device released

  -- One sample more, with its answer.
  pub dark-goes : {es ls row₀ row array row' : List ℕ} {from i i' write base : ℕ} {lines : Lines} {p : Part} {high : Bool}
      → Goes es ls from p row₀ i (part_of (dark_at s write lines) array) row → length es ≡ length ls → length row₀ ≡ length ls → i < length ls
      → vcc_of (get_or ls i 0) ≡ false → high ≡ (kind_of s.chip.part).high → base ≡ base_of high true (write - get_or es i 0) → Tells row i true base i' row'
      → Goes es ls from p row₀ i' (part_of (dark_at s (write - get_or es i 0) (record { scl = scl_of (get_or ls i 0); sda = sda_of (get_or ls i 0) })) array) row'
  dark-goes {es} {ls} {row₀} {row} {array} {row'} {from} {i} {i'} {write} {base} {lines} {p} {high} g u w m v k b f =
      rw (f.next, f.said, add-one)
      (goes_on es ls row₀ row from i p _ g (1 + base) _ u w m
      (dark-turn (get_or es i 0) (get_or ls i 0) write lines array v)
      (ap (λ (n : ℕ). 1 + n) (b ∙ ap (λ (h' : Bool). base_of h' true (write - get_or es i 0)) k) ∙ sym (dark-said (write - get_or es i 0) (record { scl = scl_of (get_or ls i 0); sda = sda_of (get_or ls i 0) }))))
