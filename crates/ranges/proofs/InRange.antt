-- Every state within the eight ranges of refusal 4, reachable or not, is within them after any sample; its part number
-- stays, and so does the array's length. Assumes nothing.
use Prim.Native.Nat.{ℕ, ◌<◌, ◌≤◌}
use mathlib.Core.Bool.{Bool, true, false}
use mathlib.Core.List.{List, [], ◌∷◌}
use mathlib.Core.Path.{◌≡◌, refl}
use native.Mathlib.Omega.{arith}
use native.Mathlib.Nat.{mod-lt}
use lib.Dec.{eqb, leb, ltb}
use borrow.Author.Tests.{eq-eqb, lt-ltb, le-leb, ltb-true, leb-true}
use Rattle.ground.specs.Numbers.{write_time, reset_hold, long_watch, most_select, most_bits, register_address}
use Rattle.ground.specs.Cases.{odd, middle}
use Rattle.ground.specs.Kind.{kind_of, known}
use Rattle.timers.specs.Timers.{timed_of}
use Rattle.page.specs.Page.{marked}
use Rattle.ground.specs.declared.kinds.Kind.{Kind}
use Rattle.part.specs.declared.state.BusAddress.{BusAddress}
use Rattle.part.specs.declared.state.Phase.{Phase}
use Rattle.part.specs.declared.state.Phase.TheVariants.{Idle, Silent, Slave, High, Low, Data, Register, Send, SendRegister}
use Rattle.part.specs.declared.state.Timers.{Timers}
use Rattle.part.specs.declared.state.Wire.{Wire}
use Rattle.part.specs.declared.state.Control.{Control}
use Rattle.part.specs.declared.state.Device.{Device}
use Rattle.part.specs.declared.state.Load.{Load}
use Rattle.part.specs.declared.state.State.{State}
use Rattle.ground.proofs.Tests.{and_split}
use Rattle.ground.proofs.Known.{Sound, kind-sound}
use Rattle.page.proofs.Places.{array-stays, read_stays}
use Rattle.wire.specs.Sign.{wire_of}
use Rattle.wire.specs.declared.Sign.{Sign}
use Rattle.wire.specs.declared.Sign.TheVariants.{Quiet, Start, Stop, Bit, Byte, Ninth}
use Rattle.control.specs.declared.Order.{Order}
use Rattle.control.specs.declared.Order.TheVariants.{SetWel, ClearWel, SetRwel, Take, Nothing}
use Rattle.control.specs.Register.{plain_of, order_of, carried_out, takes_time}
use Rattle.refusals.specs.Refusals.{storable, timers_in_range, in_range}
use Rattle.address.specs.Talk.{address_of, matches}
use Rattle.address.specs.Address.{slave_by, slave_of, high_of, address_by, low_of}
use Rattle.device.specs.Bytes.{taken_of, data_by, register_by, byte_in, byte_of, kept_of}
use Rattle.bits.specs.Bits.{bit_in, bit_of, answered_by, ninth_in, ninth_of}
use Rattle.ends.specs.Ends.{started_of, cuts_off, control_left, stopped_of, ended_of}
use Rattle.levels.specs.Level.{scl_of, wp_of, vcc_of}
use Rattle.part.specs.State.{with_timers, with_wire, with_device, with_load}
use Rattle.sample.specs.Sample.{begun, latched_by, opens_of, reset_of, start_of, stop_of, left_of, byte_step, heard_by, line_of, sign_in, wired_of, Seen, unseen, sees, seen_by, seen_of, goes_on_by, step_of}
use Rattle.sample.proofs.Sampled.{array-length}
use Rattle.sample.specs.Run.{Part, part_step, run_of}
use Rattle.ranges.specs.Fit.{Fit}
use Rattle.ranges.proofs.Signs.{Saw, saw}
use Rattle.ranges.proofs.Times.{Times, timed-times, supplied-times, watched-times, begun-times}

-- The eight ranges, one by one; the three times are together.
pub record Within (s : State) : Type 0 where
  pub counter : s.device.counter.0 < (kind_of s.chip.part).size
  pub bits : s.wire.frame.bits ≤ most_bits
  pub times : Times s.timers
  pub part : known s.chip.part ≡ true
  pub select : leb s.chip.select most_select ≡ true
  pub stored : storable s.device.control.stored ≡ true

-- So says the test.
pub range-within : (s : State) → in_range s ≡ true → Within s
unfolding in_range
range-within s e =
    let a = and_split (ltb s.device.counter.0 (kind_of s.chip.part).size) _ e in
    let b = and_split (leb s.wire.frame.bits most_bits) _ a.1 in
    let t = and_split (timers_in_range s.timers) _ b.1 in
    let u = and_split (leb s.timers.write write_time) _ t.0 in
    let w = and_split (leb s.timers.hold reset_hold) (leb s.timers.watchdog.left long_watch) u.1 in
    let k = and_split (known s.chip.part) _ t.1 in
    let c = and_split (leb s.chip.select most_select) (storable s.device.control.stored) k.1 in
    record {
      counter = ltb-true s.device.counter.0 (kind_of s.chip.part).size a.0;
      bits = leb-true s.wire.frame.bits most_bits b.0;
      times = record {
        write = leb-true s.timers.write write_time u.0;
        hold = leb-true s.timers.hold reset_hold w.0;
        left = leb-true s.timers.watchdog.left long_watch w.1;
      };
      part = k.0;
      select = c.0;
      stored = c.1;
    }

-- And the test says so.
pub within-range : (s : State) → Within s → in_range s ≡ true
unfolding in_range
within-range s g =
    rw (
      lt-ltb s.device.counter.0 (kind_of s.chip.part).size g.counter,
      le-leb s.wire.frame.bits most_bits g.bits,
      le-leb s.timers.write write_time g.times.write,
      le-leb s.timers.hold reset_hold g.times.hold,
      le-leb s.timers.watchdog.left long_watch g.times.left,
      g.part,
      g.select,
    ) g.stored

-- The two ranges of a device: its counter and its stored byte.
abbrev Fits : Kind → Device → Type 0
Fits k d = (d.counter.0 < k.size) × (storable d.control.stored ≡ true)

-- The stored byte that an order leaves.
order-stored : (o : Order) (c : Control) → storable c.stored ≡ true → storable (carried_out o c).stored ≡ true
unfolding carried_out
order-stored SetWel c h = h
order-stored ClearWel c h = h
order-stored SetRwel c h = h
order-stored Take c h = eq-eqb (middle (plain_of c.value)) 0 (omega arith)
order-stored Nothing c h = h

module _ (k : Kind) (q : Sound k) (d : Device) (g : Fits k d) where
  -- A bit, by phase.
  bit_in_lem : (p : Phase) → Fits k (bit_in p d)
  bit_in_lem Idle = g
  bit_in_lem Silent = g
  bit_in_lem Slave = g
  bit_in_lem High = g
  bit_in_lem Low = g
  bit_in_lem Data = g
  bit_in_lem Register = g
  bit_in_lem Send = g
  bit_in_lem SendRegister = g

  -- A ninth fall of a read.
  answered-fits : (b : Bool) (array : List ℕ) → Fits k (answered_by b k array d)
  answered-fits false array = (read_stays k d.counter q.some, g.1)
  answered-fits true array = g

  -- A ninth fall, by phase.
  ninth-in : (p : Phase) (b : Bool) (array : List ℕ) → Fits k (ninth_in p k array b d)
  ninth-in Idle b array = g
  ninth-in Silent b array = g
  ninth-in Slave b array = g
  ninth-in High b array = g
  ninth-in Low b array = g
  ninth-in Data b array = g
  ninth-in Register b array = g
  ninth-in Send b array = answered-fits b array
  ninth-in SendRegister b array = g

  -- A slave byte.
  slave-fits : (a r c : Bool) → Fits k (slave_by a r c d)
  slave-fits false r c = g
  slave-fits true false c = g
  slave-fits true true false = g
  slave-fits true true true = g

  -- A whole address.
  address-fits : (b : Bool) (a : BusAddress) → Fits k (address_by b k d a)
  address-fits true a = g
  address-fits false a = (mod-lt a.0 q.some, g.1)

  -- An array byte.
  data-fits : (b : Bool) → Fits k (data_by b d)
  data-fits true = (array-stays d.counter k.size q.whole g.0, g.1)
  data-fits false = g

  -- A register byte.
  register-fits : (b : Bool) (v : ℕ) → Fits k (register_by b d v)
  register-fits true v = g
  register-fits false v = g

  -- A byte, by phase.
  byte-in : (p : Phase) (s v : ℕ) → Fits k (byte_in p k s d v)
  unfolding slave_of high_of low_of
  byte-in Idle s v = g
  byte-in Silent s v = g
  byte-in Slave s v = slave-fits (matches s v) (odd v) d.control.chosen
  byte-in High s v = g
  byte-in Low s v = address-fits (eqb (address_of d.talk.high v).0 register_address) (address_of d.talk.high v)
  byte-in Data s v = data-fits (taken_of k d)
  byte-in Register s v = register-fits d.control.pending v
  byte-in Send s v = g
  byte-in SendRegister s v = g

-- A state with the part and the select as they were, all else in its ranges.
kept : (s : State) → Within s → (t : Timers) (w : Wire) (d : Device) (l : Load) → Times t → w.frame.bits ≤ most_bits
    → Fits (kind_of s.chip.part) d
    → Within (with_load (with_device (with_wire (with_timers s t) w) d) l)
kept s g t w d l h b f =
    record { counter = f.0; bits = b; times = h; part = g.part; select = g.select; stored = f.1 }

-- What a stop's bits leave of the register keeps the stored byte.
left-stored : (cut : Bool) (c : Control) → storable c.stored ≡ true → storable (control_left cut c).stored ≡ true
left-stored true c h = h
left-stored false c h = h

-- Each sign keeps the ranges, on a wire as the sign says.
heard-within : (sign : Sign) (wp : Bool) (array : List ℕ) (s : State) (w : Wire)
    → Saw sign s.wire.frame.bits w.frame.bits w.lines.scl → Within s
    → Within (heard_by sign wp array (with_wire s w))
unfolding start_of started_of stop_of stopped_of left_of byte_step byte_of bit_of ninth_of
heard-within Quiet wp array s w e g =
    kept s g s.timers w s.device s.load g.times (omega arith) (g.counter, g.stored)
heard-within Start wp array s w e g =
    record {
      counter = g.counter;
      bits = omega arith;
      times = watched-times s.device.control.stored s.timers g.times;
      part = g.part;
      select = g.select;
      stored = g.stored;
    }
heard-within (Stop n) wp array s w e g =
    let left : State = left_of n s in
    let order : Order = order_of wp left.device.control in
    record {
      counter = g.counter;
      bits = omega arith;
      times = begun-times (takes_time order) (begun (marked left.load) s.timers) (begun-times (marked left.load) s.timers g.times);
      part = g.part;
      select = g.select;
      stored =
          order-stored order left.device.control
          (left-stored (cuts_off s.device.talk.phase n) s.device.control g.stored);
    }
heard-within Bit wp array s w e g =
    kept s g s.timers w (bit_of s.device) s.load g.times (omega arith)
    (bit_in_lem (kind_of s.chip.part) (kind-sound s.chip.part g.part) s.device (g.counter, g.stored) s.device.talk.phase)
heard-within (Byte v) wp array s w e g =
    kept s g s.timers w (byte_of (kind_of s.chip.part) s.chip.select s.device v)
    (kept_of (kind_of s.chip.part) s.device v s.load) g.times (omega arith)
    (byte-in (kind_of s.chip.part) (kind-sound s.chip.part g.part) s.device (g.counter, g.stored)
    s.device.talk.phase s.chip.select v)
heard-within (Ninth b) wp array s w e g =
    kept s g s.timers w (ninth_of (kind_of s.chip.part) array b s.device) s.load g.times (omega arith)
    (ninth-in (kind_of s.chip.part) (kind-sound s.chip.part g.part) s.device (g.counter, g.stored)
    s.device.talk.phase b array)

-- Low supply keeps the stored byte.
latched-stored : (v : Bool) (c : Control) → storable c.stored ≡ true → storable (latched_by v c).stored ≡ true
latched-stored true c h = h
latched-stored false c h = h

-- Rules 1 and 2 keep the ranges.
opens-within : (e level : ℕ) (s : State) → Within s → Within (opens_of e level s)
unfolding opens_of
opens-within e level s g =
    record {
      counter = g.counter;
      bits = g.bits;
      times =
          supplied-times (vcc_of level) (timed_of s.device.control.stored e s.timers)
          (timed-times s.device.control.stored e s.timers g.times);
      part = g.part;
      select = g.select;
      stored = latched-stored (vcc_of level) s.device.control g.stored;
    }

-- So do rules 3 and 4.
goes-within : (b : Bool) (level : ℕ) (array : List ℕ) (s : State) → Within s → Within (goes_on_by (seen_by b (sign_in level s)) level array s)
unfolding reset_of ended_of sign_in wired_of wire_of
goes-within true level array s g =
    record {
      counter = g.counter;
      bits = omega arith;
      times = g.times;
      part = g.part;
      select = g.select;
      stored = g.stored;
    }
goes-within false level array s g =
    heard-within (sign_in level s) (wp_of level) array s (wire_of s.wire (scl_of level) (line_of level s))
    (saw s.wire (scl_of level) (line_of level s)) g

-- A sample keeps the ranges.
pub step-within : (e level : ℕ) (array : List ℕ) (s : State) → Within s → Within (step_of e level array s)
unfolding step_of seen_of
step-within e level array s g =
    goes-within (opens_of e level s).timers.reset level array (opens_of e level s) (opens-within e level s g)

-- So says the test of refusal 4.
pub step-in-range : (e level : ℕ) (array : List ℕ) (s : State) → in_range s ≡ true
    → in_range (step_of e level array s) ≡ true
step-in-range e level array s h =
    within-range (step_of e level array s) (step-within e level array s (range-within s h))

-- Each sign leaves the part number as it was.
heard-part : (sign : Sign) (wp : Bool) (array : List ℕ) (s : State) → (heard_by sign wp array s).chip.part ≡ s.chip.part
unfolding start_of stop_of left_of byte_step
heard-part Quiet wp array s = refl
heard-part Start wp array s = refl
heard-part (Stop n) wp array s = refl
heard-part Bit wp array s = refl
heard-part (Byte v) wp array s = refl
heard-part (Ninth b) wp array s = refl

-- So does rule 3 or 4.
goes-part : (x : Seen) (level : ℕ) (array : List ℕ) (s : State) → (goes_on_by x level array s).chip.part ≡ s.chip.part
unfolding reset_of wired_of
goes-part unseen level array s = refl
goes-part (sees sign) level array s = heard-part sign (wp_of level) array (wired_of level s)

-- A sample leaves the part number.
pub step_part : (e level : ℕ) (array : List ℕ) (s : State) → (step_of e level array s).chip.part ≡ s.chip.part
unfolding step_of opens_of
step_part e level array s = goes-part (seen_of level (opens_of e level s)) level array (opens_of e level s)

-- A part that is fit for a replay is so after any rows, first sample first.
pub run-fit : (es ls : List ℕ) (p : Part) → Fit p → Fit (run_of es ls p)
unfolding part_step
run-fit [] ls p g = g
run-fit (e ∷ es) [] p g = g
run-fit (e ∷ es) (l ∷ ls) p g =
    run-fit es ls (part_step e l p)
    (record {
      range = step-in-range e l p.array p.state g.range;
      size = rw (array-length e l p.array p.state, step_part e l p.array p.state) g.size;
    })
