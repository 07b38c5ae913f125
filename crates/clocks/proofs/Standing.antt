-- How one sample carries on what holds before each sample of the loops. Assumes nothing.
use Prim.Native.Nat.{ℕ, ◌+◌, ◌-◌, ◌<◌, ◌≤◌}
use mathlib.Core.Bool.{Bool, true, false}
use mathlib.Core.List.{List}
use mathlib.Core.Path.{◌≡◌, refl, sym, ap, subst, ◌∙◌}
use native.Mathlib.Omega.{arith}
use native.Mathlib.Nat.{add_assoc}
use native.Mathlib.Numerals.{add-one}
use lib.ListN.{length, get_or, length-set}
use Rattle.ground.specs.Cases.{or_zero}
use Rattle.ground.specs.Kind.{kind_of}
use Rattle.part.specs.Bench.{part_of}
use Rattle.part.specs.declared.state.Timers.{Timers}
use Rattle.part.specs.declared.state.Wire.{Wire}
use Rattle.part.specs.declared.state.Device.{Device}
use Rattle.part.specs.declared.state.Load.{Load}
use Rattle.part.specs.declared.state.State.{State}
use Rattle.wire.specs.declared.Sign.{Sign}
use Rattle.levels.specs.Level.{scl_of, wp_of, vcc_of, answer_of}
use Rattle.sample.specs.Sample.{heard_by, written_by}
use Rattle.sample.specs.Run.{part_step}
use Rattle.clocks.specs.Goes.{Goes, moved_of}
use Rattle.clocks.specs.Rooms.{Room, timers_at, base_of, Tells}
use Rattle.clocks.specs.Clocks.{wire_at, spoken_of, line_at, clocks_of}
use Rattle.clocks.specs.Stands.{state_at, Stands}
use Rattle.clocks.specs.declared.turns.Clocks.{Clocks}
use Rattle.clocks.specs.declared.rooms.Times.{Times}
use Rattle.clocks.proofs.Going.{goes_none, goes_on}
use Rattle.clocks.proofs.Seeing.{Sees}
use Rattle.clocks.proofs.Timing.{time-passes, still-writes, begins}
use Rattle.clocks.proofs.Turning.{heard}

-- A row is as long after an answer as before it.
pub told-long : {row : List ℕ} {i : ℕ} {own : Bool} {base r : ℕ} {row' : List ℕ} → Tells row i own base r row' → length row' ≡ length row
told-long {row} {i} {own} {base} f = ap length f.said ∙ length-set row i (or_zero own 1 + base)

-- The answer while no timer ends.
pub answer_at : (s : State) (t : Times) (d : Device) (m : Load) (c : Clocks) → (0 < t.write → t.all - c.room < t.write)
    → answer_of (state_at s t d m c) ≡ or_zero c.own 1 + base_of (kind_of s.chip.part).high false t.write
unfolding answer_of
answer_at s t d m c h = rw (still-writes t.write (t.all - c.room) h) (add_assoc (or_zero c.own 1) _ _)

-- What holds where the loops start.
pub stands-first : (s : State) (es ls array row : List ℕ) (from base : ℕ) (t : Times) → length es ≡ length ls → length row ≡ length ls → from ≤ length ls
    → base ≡ base_of (kind_of s.chip.part).high false s.timers.write
    → t ≡ record { write = s.timers.write; left = s.timers.watchdog.left; all = t.all; running = s.timers.watchdog.running }
    → Room s.timers.write s.timers.watchdog.running s.timers.watchdog.left t.all
    → s.timers.reset ≡ false → s.timers.low ≡ false
    → Stands s es ls array row from base t s.device s.load (clocks_of s.wire s.device.talk t.all) row from
stands-first s es ls array row from base t u v h f q r z l =
    subst
    (λ (x : Times). Stands s es ls array row from base x s.device s.load (clocks_of s.wire s.device.talk x.all) row from)
    (sym q)
    (record {
      long = u;
      wide = v;
      rests = f;
      times = r;
      fits = omega arith;
      goes =
          subst
          (λ (x : Timers). Goes es ls from (part_of s array) row from (part_of (moved_of s x s.wire s.device s.load) array) row)
          (sym (begins s.timers.hold (record { write = s.timers.write; left = s.timers.watchdog.left; all = t.all; running = s.timers.watchdog.running }) s.timers.reset s.timers.low z l))
          (goes_none es ls row from (part_of s array) h);
    })

module _ {s : State} {es ls array row₀ : List ℕ} {from base : ℕ} {t : Times} {d : Device} {m : Load} {c : Clocks} {row : List ℕ} {i : ℕ} (g : Stands s es ls array row₀ from base t d m c row i) (more : i < length ls) (soon : get_or es i 0 < c.room) where
  -- A sample comes to what its sign does.
  pub signed : (sign : Sign) (w' : Wire) (q : State) → vcc_of (get_or ls i 0) ≡ true → Sees (wire_at c) (scl_of (get_or ls i 0)) (line_at c (get_or ls i 0)) sign w'
      → heard_by sign (wp_of (get_or ls i 0)) array (moved_of s (timers_at s.timers.hold t (c.room - get_or es i 0)) w' (spoken_of d c) m) ≡ q
      → written_by sign (moved_of s (timers_at s.timers.hold t (c.room - get_or es i 0)) w' (spoken_of d c) m) array ≡ array
      → part_of q array ≡ part_step (get_or es i 0) (get_or ls i 0) (part_of (state_at s t d m c) array)
  signed sign w' q v y f k =
      heard s array (get_or es i 0) (get_or ls i 0) _ _ (wire_at c) w' (spoken_of d c) m sign q v
      (time-passes d.control.stored (get_or es i 0) s.timers.hold c.room t soon g.fits g.times)
      refl y f k

  writes-on : (n : ℕ) → n ≡ c.room - get_or es i 0 → 0 < t.write → t.all - n < t.write
  writes-on n e z = let h = g.times.writes z in let k = g.fits in omega (arith, e, h, k, soon)

  -- One more, by which the times stay.
  pub carried : (d' : Device) (m' : Load) (c' : Clocks) (i' : ℕ) (row' : List ℕ) → c'.room ≡ c.room - get_or es i 0
      → part_of (state_at s t d' m' c') array ≡ part_step (get_or es i 0) (get_or ls i 0) (part_of (state_at s t d m c) array)
      → Tells row i c'.own base i' row'
      → Stands s es ls array row₀ from base t d' m' c' row' i'
  carried d' m' c' i' row' e q f =
      let fits = g.fits in
      record {
        long = g.long;
        wide = g.wide;
        rests = g.rests;
        times = g.times;
        fits = omega (arith, fits, e);
        goes =
            rw (f.next, f.said, add-one)
            (goes_on es ls row₀ row from i (part_of s array) _ g.goes (or_zero c'.own 1 + base) _ g.long g.wide more q
            (ap (λ (n : ℕ). or_zero c'.own 1 + n) g.rests ∙ sym (answer_at s t d' m' c' (writes-on c'.room e))));
      }
