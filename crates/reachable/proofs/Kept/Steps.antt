-- One sample keeps all that the reachable states keep beside the ranges, in one record that holds its parts together.
-- Assumes nothing.
use Prim.Native.Nat.{ℕ}
use mathlib.Core.Bool.{Bool, true, false, true≢false}
use mathlib.Core.List.{List}
use mathlib.Core.Path.{◌≡◌, refl}
use native.Mathlib.Omega.{arith}
use Rattle.std.proofs.lemmas.Bool.{and_right}
use Rattle.ground.specs.Numbers.{most_bits}
use Rattle.ground.specs.Kind.{kind_of}
use Rattle.timers.specs.Timers.{writes, timed_of, supplied_of}
use Rattle.part.specs.declared.state.Phase.TheVariants.{Idle}
use Rattle.part.specs.declared.state.Timers.{Timers}
use Rattle.part.specs.declared.state.Wire.{Wire}
use Rattle.part.specs.declared.state.Device.{Device}
use Rattle.part.specs.declared.state.Load.{Load}
use Rattle.part.specs.declared.state.State.{State}
use Rattle.wire.specs.Sign.{wire_of}
use Rattle.wire.specs.declared.Sign.{Sign}
use Rattle.wire.specs.declared.Sign.TheVariants.{Quiet, Start, Stop, Bit, Byte, Ninth}
use Rattle.part.specs.State.{with_control, with_wire, with_timers, with_device, with_load}
use Rattle.control.specs.Register.{order_of}
use Rattle.device.specs.Bytes.{byte_of, kept_of}
use Rattle.bits.specs.Bits.{bit_of, ninth_of}
use Rattle.ends.specs.Ends.{started_of, keeps_for_stop, dropped, stopped_of, ended_of}
use Rattle.levels.specs.Level.{scl_of, sda_of, wp_of, vcc_of}
use Rattle.sample.specs.Sample.{latched_by, opens_of, reset_of, start_of, stop_of, left_of, byte_step, heard_by, line_of, sign_in, wired_of, seen_by, seen_of, goes_on_by, step_of}
use Rattle.ranges.proofs.Signs.{Saw, saw}
use Rattle.reachable.proofs.Kept.Acknowledges.{byte-acks}
use Rattle.reachable.proofs.Kept.Talks.{Talks, fresh, start-talks, stop-talks}
use Rattle.reachable.proofs.Kept.Falls.{bit-talks, byte-talks, ninth-talks}

-- With all eight bits of a byte committed that is kept for a stop to act on, the part acknowledges it.
abbrev pub Acks : ℕ → Device → Type 0
Acks n d = keeps_for_stop d.talk.phase ≡ true → n ≡ most_bits → d.talk.own ≡ false

-- All that is kept beside the ranges, together.
pub record Sits (s : State) : Type 0 where
  pub talks : Talks (kind_of s.chip.part) s.wire.frame.bits s.device s.load
  pub line : s.device.talk.own ≡ false → s.wire.lines.scl ≡ true → s.wire.lines.sda ≡ false
  pub acks : Acks s.wire.frame.bits s.device

-- A fall of SCL keeps it where its device and load do.
fallen : (s : State) (w : Wire) (d : Device) (l : Load) → w.lines.scl ≡ false
    → Talks (kind_of s.chip.part) w.frame.bits d l → Acks w.frame.bits d
    → Sits (with_load (with_device (with_wire s w) d) l)
fallen s w d l c t a = record { talks = t; line = λ x y. cc; acks = a }

-- Each sign keeps it, on a wire as the sign says and with own SDA low seen on it.
heard-sits : (sign : Sign) (wp : Bool) (array : List ℕ) (s : State) (w : Wire)
    → Saw sign s.wire.frame.bits w.frame.bits w.lines.scl
    → (s.device.talk.own ≡ false → w.lines.sda ≡ false) → Sits s → Sits (heard_by sign wp array (with_wire s w))
unfolding start_of started_of stop_of stopped_of left_of byte_step
heard-sits Quiet wp array s w e h g =
    record { talks = rw e g.talks; line = λ x y. h x; acks = rw e g.acks }
heard-sits Start wp array s w e h g =
    record {
      talks =
          start-talks (kind_of s.chip.part) w.frame.bits s.device (writes s.timers);
      line = λ x y. cc;
      acks = λ x y. absurd (omega arith);
    }
heard-sits (Stop n) wp array s w e h g =
    record {
      talks = stop-talks (kind_of s.chip.part) w.frame.bits (left_of n s).device (order_of wp (left_of n s).device.control);
      line = λ x y. cc;
      acks = λ x y. absurd (omega arith);
    }
heard-sits Bit wp array s w e h g =
    fallen s w (bit_of s.device) s.load e.2
    (bit-talks (kind_of s.chip.part) s.wire.frame.bits w.frame.bits s.device s.load g.talks e.1 e.0)
    (λ x y. absurd (omega (arith, e.0)))
heard-sits (Byte v) wp array s w e h g =
    fallen s w (byte_of (kind_of s.chip.part) s.chip.select s.device v) (kept_of (kind_of s.chip.part) s.device v s.load)
    e.2
    (byte-talks (kind_of s.chip.part) s.wire.frame.bits w.frame.bits s.device s.load g.talks s.chip.select v
    e.1 e.0)
    (λ x y. byte-acks (kind_of s.chip.part) s.chip.select v s.device x)
heard-sits (Ninth b) wp array s w e h g =
    fallen s w (ninth_of (kind_of s.chip.part) array b s.device) s.load e.1
    (ninth-talks (kind_of s.chip.part) s.wire.frame.bits w.frame.bits s.device s.load g.talks b array
    (omega arith))
    (λ x y. absurd (omega (arith, e.0)))

-- Rule 4 keeps it.
wired-sits : (level : ℕ) (array : List ℕ) (s : State) → Sits s
    → Sits (heard_by (sign_in level s) (wp_of level) array (wired_of level s))
unfolding sign_in wired_of wire_of
wired-sits level array s g =
    heard-sits (sign_in level s) (wp_of level) array s (wire_of s.wire (scl_of level) (line_of level s))
    (saw s.wire (scl_of level) (line_of level s)) (and_right (sda_of level) s.device.talk.own) g

-- The state after rules 1 and 2, with the supply and the timers after rule 1.
abbrev opened : Bool → Timers → State → State
opened v t s = with_device (with_timers s (supplied_of v t)) (with_control s.device (latched_by v s.device.control))

-- Rules 3 and 4, by whether reset is active: with low VCC it is.
opened-sits : (b v : Bool) (t : Timers) (level : ℕ) (array : List ℕ) (s : State) → (opened v t s).timers.reset ≡ b
    → Sits s → Sits (goes_on_by (seen_by b (sign_in level (opened v t s))) level array (opened v t s))
unfolding supplied_of reset_of ended_of
opened-sits true v t level array s e g =
    record {
      talks =
          fresh (kind_of s.chip.part) 0 Idle s.device.counter (dropped (latched_by v s.device.control)) refl (λ x. cc)
          refl refl;
      line = λ x y. cc;
      acks = λ x y. absurd (omega arith);
    }
opened-sits false true t level array s e g =
    wired-sits level array (opened true t s) (record { talks = g.talks; line = g.line; acks = g.acks })
opened-sits false false t level array s e g = absurd (true≢false e)

-- A sample keeps it.
pub step-sits : (e level : ℕ) (array : List ℕ) (s : State) → Sits s → Sits (step_of e level array s)
unfolding step_of opens_of seen_of
step-sits e level array s g =
    opened-sits (opens_of e level s).timers.reset (vcc_of level) (timed_of s.device.control.stored e s.timers) level
    array s refl g
