-- What each turn of the loops makes of a state. Assumes nothing.
use Prim.Native.Nat.{ℕ, ◌+◌, ◌-◌, ◌<◌}
use mathlib.Core.Bool.{Bool, true, false}
use mathlib.Core.List.{List}
use mathlib.Core.Path.{◌≡◌, refl, sym, ap, subst⁻¹, ◌∙◌}
use native.Mathlib.Omega.{arith}
use native.Mathlib.Numerals.{add-one}
use lib.Dec.{ltb}
use lib.ListN.{length, get_or}
use Rattle.ground.specs.Cases.{or_zero}
use Rattle.ground.specs.Kind.{kind_of}
use Rattle.page.specs.Page.{empty_load, filled_of}
use Rattle.timers.specs.Timers.{loaded_of}
use Rattle.ground.specs.declared.kinds.Kind.{Kind}
use Rattle.part.specs.Bench.{part_of}
use Rattle.part.specs.declared.state.Timers.{Timers}
use Rattle.part.specs.declared.state.Watchdog.{Watchdog}
use Rattle.part.specs.declared.state.Wire.{Wire}
use Rattle.part.specs.declared.state.Device.{Device}
use Rattle.part.specs.declared.state.Load.{Load}
use Rattle.part.specs.declared.state.State.{State}
use Rattle.wire.specs.Sign.{pushed, wire_of}
use Rattle.wire.specs.declared.Sign.{Sign}
use Rattle.wire.specs.declared.Sign.TheVariants.{Quiet, Start, Stop, Bit, Byte, Ninth}
use Rattle.control.specs.Register.{carried_out}
use Rattle.control.specs.declared.Order.TheVariants.{Nothing}
use Rattle.address.specs.Talk.{sends_in}
use Rattle.device.specs.Bytes.{byte_of, kept_by, kept_of, Fills}
use Rattle.bits.specs.Bits.{ninth_of}
use Rattle.ends.specs.Ends.{started_of, stopped_of, ended_of}
use Rattle.levels.specs.Level.{scl_of, wp_of, pin_by}
use Rattle.part.specs.State.{with_watchdog}
use Rattle.sample.specs.Sample.{start_of, heard_by, written_by, stop_of, byte_step}
use Rattle.sample.proofs.Stops.{no-order, calm-stop, calm-saved}
use Rattle.clocks.specs.Goes.{moved_of}
use Rattle.clocks.specs.Rooms.{Room, Begins, timers_at, base_of, Tells}
use Rattle.clocks.specs.Clocks.{wire_at, spoken_of, line_at, seen_at, turn_by, fallen_by, fallen_at, cut_at, Comes, small_by, Turned}
use Rattle.clocks.specs.Stands.{Stands}
use Rattle.clocks.specs.declared.turns.Clocks.{Clocks}
use Rattle.clocks.specs.declared.turns.Turn.{Turn}
use Rattle.clocks.specs.declared.rooms.Times.{Times}
use Rattle.clocks.proofs.Going.{goes_on}
use Rattle.clocks.proofs.Seeing.{unlike, eighth-bits, eighth-seen, ninth-bits, ninth-seen, start_seen, stop-seen}
use Rattle.clocks.proofs.Timing.{still-writes, begins}
use Rattle.clocks.proofs.Standing.{signed, carried, answer_at}

-- No more than a bit changes nothing but the device, and never the array.
small-heard : (sign : Sign) (wp : Bool) (array : List ℕ) (s : State) (t : Timers) (w : Wire) (d : Device) (m : Load) → turn_by sign ≡ Turn.Plain
    → (heard_by sign wp array (moved_of s t w d m) ≡ moved_of s t w (small_by sign d) m) × (written_by sign (moved_of s t w d m) array ≡ array)
small-heard Quiet wp array s t w d m h = (refl, refl)
small-heard Bit wp array s t w d m h = (refl, refl)
small-heard (Byte v) wp array s t w d m h = unlike (cc)
small-heard (Ninth b) wp array s t w d m h = unlike (cc)
small-heard Start wp array s t w d m h = unlike (cc)
small-heard (Stop n) wp array s t w d m h = unlike (cc)

-- With nothing pending a stop ends talk as reset does.
stop-ends : (d : Device) → stopped_of Nothing d ≡ ended_of d
unfolding stopped_of ended_of carried_out
stop-ends d = refl

-- The load after a byte that fills it, and after one that does not.
module _ (kind : Kind) (x : Device) (v : ℕ) (m : Load) (b : Bool) (h : Fills kind x b) where
  pub kept-filled : b ≡ true → filled_of m x.counter v ≡ kept_of kind x v m
  kept-filled e = sym (h v m ∙ ap (λ (y : Bool). kept_by y x v m) e)

  pub kept-left : b ≡ false → m ≡ kept_of kind x v m
  kept-left e = sym (h v m ∙ ap (λ (y : Bool). kept_by y x v m) e)

-- Times begun anew are the timers with the watchdog loaded.
begun-anew : (hold room : ℕ) (t t' : Times) (dog : Watchdog) → Begins (t.write - (t.all - room)) dog t'
    → timers_at hold t' t'.all ≡ with_watchdog (timers_at hold t room) dog
begun-anew hold room t t' dog b =
    begins hold t' false false refl refl
    ∙ ap
    (λ (x : Times). record { write = x.write; hold = hold; reset = false; low = false; watchdog = record { running = x.running; left = x.left } })
    b.same

-- A start does not ask what was said before.
start-forgets : (w : Bool) (d : Device) (c : Clocks) → started_of w (spoken_of d c) ≡ started_of w d
unfolding started_of
start-forgets w d c = refl

module _ {s : State} {es ls array row₀ : List ℕ} {from base : ℕ} {t : Times} {d : Device} {m : Load} {c : Clocks} {row : List ℕ} {i : ℕ} (g : Stands s es ls array row₀ from base t d m c row i) (more : i < length ls) where
  -- A plain clock.
  pub plain_turn : (c' : Clocks) (sends : Bool) (i' : ℕ) (row' : List ℕ) → Comes c (get_or es i 0) (get_or ls i 0) Turn.Plain → Turned c sends (get_or es i 0) (get_or ls i 0) c'
      → sends ≡ sends_in d.talk.phase → Tells row i c'.own base i' row'
      → Stands s es ls array row₀ from base t d m c' row' i'
  plain_turn c' sends i' row' k u n f =
      let x = small-heard (seen_at c (get_or ls i 0)) (wp_of (get_or ls i 0)) array s (timers_at s.timers.hold t (c.room - get_or es i 0)) (wire_of (wire_at c) (scl_of (get_or ls i 0)) (line_at c (get_or ls i 0))) (spoken_of d c) m k.shown in
      carried g more k.soon d m c' i' row' u.room
      (signed g more k.soon (seen_at c (get_or ls i 0)) _ _ k.good (record { shown = refl; left = refl })
      (x.0 ∙ rw (u.room, u.wire, u.talk d n))
      x.1)
      f

  -- An eighth fall, with what it leaves of the device and of the load.
  pub eighth-turn : (kind : Kind) (select : ℕ) (x d' : Device) (m' : Load) (c' : Clocks) (v i' : ℕ) (row' : List ℕ)
      → Comes c (get_or es i 0) (get_or ls i 0) Turn.Eighth → v ≡ pushed c.shift c.bit
      → kind ≡ kind_of s.chip.part → select ≡ s.chip.select → x ≡ spoken_of d c → d' ≡ byte_of kind select x v → m' ≡ kept_of kind x v m
      → c' ≡ fallen_at c d'.talk (get_or es i 0) (get_or ls i 0) → Tells row i c'.own base i' row'
      → Stands s es ls array row₀ from base t d' m' c' row' i'
  unfolding byte_step
  eighth-turn kind select x d' m' c' v i' row' k u j l y p q r f =
      let b = eighth-bits c.scl c.sda _ _ c.held c.bit c.bits c.shift k.shown in
      let z = r ∙ ap (λ (o : Bool). fallen_by o c d'.talk (get_or es i 0) (get_or ls i 0)) b in
      carried g more k.soon d' m' c' i' row' (ap (λ (o : Clocks). o.room) z)
      (signed g more k.soon _ _ _ k.good (eighth-seen c.scl c.sda _ _ c.held c.bit c.bits c.shift k.shown)
      (rw (z, p, q, j, l, y, u))
      refl)
      f

  -- A ninth.
  pub ninth-turn : (kind : Kind) (x d' : Device) (c' : Clocks) (i' : ℕ) (row' : List ℕ)
      → Comes c (get_or es i 0) (get_or ls i 0) Turn.Ninth → kind ≡ kind_of s.chip.part → x ≡ spoken_of d c → d' ≡ ninth_of kind array c.bit x
      → c' ≡ fallen_at c d'.talk (get_or es i 0) (get_or ls i 0) → Tells row i c'.own base i' row'
      → Stands s es ls array row₀ from base t d' m c' row' i'
  ninth-turn kind x d' c' i' row' k j y p r f =
      let b = ninth-bits c.scl c.sda _ _ c.held c.bit c.bits c.shift k.shown in
      let z = r ∙ ap (λ (o : Bool). fallen_by o c d'.talk (get_or es i 0) (get_or ls i 0)) b in
      carried g more k.soon d' m c' i' row' (ap (λ (o : Clocks). o.room) z)
      (signed g more k.soon _ _ _ k.good (ninth-seen c.scl c.sda _ _ c.held c.bit c.bits c.shift k.shown)
      (rw (z, p, j, y))
      refl)
      f

  -- A stop with an empty load and nothing pending.
  pub stop-turn : (d' : Device) (c' : Clocks) (room i' : ℕ) (row' : List ℕ)
      → Comes c (get_or es i 0) (get_or ls i 0) Turn.Stop → d' ≡ ended_of d → d.control.pending ≡ false → m ≡ empty_load
      → c' ≡ cut_at true room → room ≡ c.room - get_or es i 0 → Tells row i true base i' row'
      → Stands s es ls array row₀ from base t d' m c' row' i'
  unfolding stop_of ended_of
  stop-turn d' c' room i' row' k p h e r z f =
      carried g more k.soon d' m c' i' row' (ap (λ (o : Clocks). o.room) r ∙ z)
      (signed g more k.soon _ _ _ k.good (stop-seen c.scl c.sda _ _ c.held c.bit c.bits c.shift k.shown)
      (calm-stop c.bits _ _ h e ∙ rw (r, z, p, e, no-order (wp_of (get_or ls i 0)) d.control h, stop-ends (spoken_of d c)))
      (calm-saved c.bits _ array e))
      (rw (ap (λ (o : Clocks). o.own) r) f)

  -- A start: the watchdog is loaded, and the time is counted anew.
  pub start-turn : (t' : Times) (d' : Device) (m' : Load) (c' : Clocks) (room i' : ℕ) (row' : List ℕ)
      → Comes c (get_or es i 0) (get_or ls i 0) Turn.Start → room ≡ c.room - get_or es i 0
      → Begins (t.write - (t.all - room)) (loaded_of d.control.stored) t' → d' ≡ started_of (ltb 0 t'.write) d → m' ≡ empty_load
      → c' ≡ cut_at false t'.all → Tells row i true base i' row'
      → Stands s es ls array row₀ from base t' d' m' c' row' i'
  unfolding start_of started_of
  start-turn t' d' m' c' room i' row' k z b p e r f =
      let fits = g.fits in
      let soon = k.soon in
      let within : 0 < t.write → t.all - room < t.write = λ n. omega (arith, z, fits, soon, g.times.writes n) in
      let wrote : t'.write ≡ t.write - (t.all - room) = ap (λ (x : Times). x.write) b.same in
      let same : ltb 0 t'.write ≡ ltb 0 t.write = ap (ltb 0) wrote ∙ still-writes t.write (t.all - room) within in
      let rests : base ≡ base_of (kind_of s.chip.part).high false t'.write = g.rests ∙ ap (λ (x : Bool). or_zero (pin_by (kind_of s.chip.part).high false) 2 + or_zero x 4) (sym same) in
      let steps =
      signed g more soon Start _ _ k.good (start_seen c.scl c.sda _ _ c.held c.bit c.bits c.shift k.shown) refl refl
      in
      subst⁻¹ (λ (o : Clocks). Stands s es ls array row₀ from base t' d' m' o row' i')
      r
      (record {
        long = g.long;
        wide = g.wide;
        rests = rests;
        times = subst⁻¹ (λ (x : Times). Room x.write x.running x.left x.all) b.same b.room;
        fits = omega arith;
        goes =
            rw (f.next, f.said, add-one)
            (goes_on es ls row₀ row from i (part_of s array) _ g.goes (1 + base) _ g.long g.wide more
            (rw (begun-anew s.timers.hold room t t' (loaded_of d.control.stored) b, p, e, wrote, z) steps)
            (ap (λ (n : ℕ). 1 + n) rests ∙ sym (answer_at s t' d' m' (cut_at false t'.all) (λ n. omega (arith, n)))));
      })
