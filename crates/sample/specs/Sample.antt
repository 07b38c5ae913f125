-- One sample, in the order of its four rules (document 01, State and time).
use Rattle.std.specs.Prelude.{ℕ, Bool, true, false, ◌&&◌, List}
use Rattle.ground.specs.Numbers.{write_time}
use Rattle.ground.specs.Kind.{kind_of}
use Rattle.part.specs.State.{with_timers, with_wire, with_device, with_load, with_write, with_watchdog, with_control, with_wel, with_rwel}
use Rattle.timers.specs.Timers.{loaded_of, writes, timed_of, supplied_of}
use Rattle.page.specs.Page.{empty_load, marked, store_of}
use Rattle.part.specs.declared.state.Timers.{Timers}
use Rattle.part.specs.declared.state.Wire.{Wire}
use Rattle.part.specs.declared.state.Control.{Control}
use Rattle.part.specs.declared.state.Load.{Load}
use Rattle.part.specs.declared.state.Place.{Place}
use Rattle.part.specs.declared.state.State.{State}
use Rattle.wire.specs.Sign.{clean_frame, sign_of, wire_of}
use Rattle.wire.specs.declared.Sign.{Sign}
use Rattle.wire.specs.declared.Sign.TheVariants.{Quiet, Start, Stop, Bit, Byte, Ninth}
use Rattle.control.specs.Register.{order_of, takes_time}
use Rattle.control.specs.declared.Order.{Order}
use Rattle.device.specs.Bytes.{byte_of, kept_of}
use Rattle.bits.specs.Bits.{bit_of, ninth_of}
use Rattle.ends.specs.Ends.{started_of, cuts_off, control_left, stopped_of, ended_of}
use Rattle.levels.specs.Level.{scl_of, sda_of, wp_of, vcc_of}

-- The timers with a write cycle begun, or as they were (Bytes on the wire, stop; Control register, RWEL high).
abbrev pub begun : Bool → Timers → Timers
begun true t = with_write t write_time
begun false t = t

-- Low VCC clears both latches (State and time, 2).
abbrev pub latched_by : Bool → Control → Control
latched_by true c = c
latched_by false c = with_rwel (with_wel c false) false

-- Rules 1 and 2: time passes, the supply is judged (State and time, 1 and 2).
unfoldable pub opens_of : ℕ → ℕ → State → State
opens_of e level s =
    with_device
    (with_timers s (supplied_of (vcc_of level) (timed_of s.device.control.stored e s.timers)))
    (with_control s.device (latched_by (vcc_of level) s.device.control))

-- The outside levels as a wire with no bit taken (State and time, 3).
abbrev pub outside_of : ℕ → Wire
outside_of level = record { lines = record { scl = scl_of level; sda = sda_of level }; frame = clean_frame }

-- Rule 3: while reset is active talk ends, the load is dropped, and the outside levels are only remembered (State and time, 3).
unfoldable pub reset_of : ℕ → State → State
reset_of level s = with_load (with_device (with_wire s (outside_of level)) (ended_of s.device)) empty_load

-- A start: the watchdog is loaded, the load dropped, the device told whether a write runs (State and time, every start).
unfoldable pub start_of : State → State
start_of s =
    with_load
    (with_device
    (with_timers s (with_watchdog s.timers (loaded_of s.device.control.stored)))
    (started_of (writes s.timers) s.device))
    empty_load

-- A stop that carries out an order: its work is done, then the load is dropped and the part is idle (Bytes on the wire, stop and any stop).
abbrev pub stop_by : Order → State → State
stop_by order s =
    with_load
    (with_device (with_timers s (begun (takes_time order) (begun (marked s.load) s.timers))) (stopped_of order s.device))
    empty_load

-- A stop, with WP as its sample has it (Bytes on the wire, stop; Control register, at a stop).
unfoldable pub stop_of : Bool → State → State
stop_of wp s = stop_by (order_of wp s.device.control) s

-- The load as a stop finds it: one that cuts a byte off cancels it whole (Bytes on the wire, stop; request 2026-02).
abbrev pub load_left : Bool → Load → Load
load_left true l = empty_load
load_left false l = l

-- What is left of the state by whether a stop cut a byte off: load and pending byte are cancelled together (request 2026-02).
abbrev pub left_over_by : Bool → State → State
left_over_by cut s = with_load (with_device s (with_control s.device (control_left cut s.device.control))) (load_left cut s.load)

-- The state that a stop with n committed bits acts on (Bytes on the wire, stop; Control register; request 2026-02).
unfoldable pub left_of : ℕ → State → State
left_of n s = left_over_by (cuts_off s.device.talk.phase n) s

-- A byte changes the device and the load (Bytes on the wire).
unfoldable pub byte_step : ℕ → State → State
byte_step v s =
    with_load
    (with_device s (byte_of (kind_of s.chip.part) s.chip.select s.device v))
    (kept_of (kind_of s.chip.part) s.device v s.load)

-- What each sign does to the state; a stop acts on what its bits left (Bytes on the wire; Control register; request 2026-02).
abbrev pub heard_by : Sign → Bool → List ℕ → State → State
heard_by Quiet wp array s = s
heard_by Start wp array s = start_of s
heard_by (Stop n) wp array s = stop_of wp (left_of n s)
heard_by Bit wp array s = with_device s (bit_of s.device)
heard_by (Byte v) wp array s = byte_step v s
heard_by (Ninth b) wp array s = with_device s (ninth_of (kind_of s.chip.part) array b s.device)

-- A load goes into the array if any of its marks is set (Bytes on the wire, stop).
abbrev pub saved_by : Bool → Place → Load → List ℕ → List ℕ
saved_by true p l array = store_of p l array
saved_by false p l array = array

-- The same of a state's load, at its counter (Bytes on the wire, stop).
abbrev pub saved_of : State → List ℕ → List ℕ
saved_of s array = saved_by (marked s.load) s.device.counter s.load array

-- What each sign does to the array: only a stop writes it, with the load that its bits left (Bytes on the wire, stop; request 2026-02).
abbrev pub written_by : Sign → State → List ℕ → List ℕ
written_by Quiet s array = array
written_by Start s array = array
written_by (Stop n) s array = saved_of (left_of n s) array
written_by Bit s array = array
written_by (Byte v) s array = array
written_by (Ninth b) s array = array

-- The SDA line: the outside level AND the part's own as the sample before left it (State and time, 4).
abbrev pub line_of : ℕ → State → Bool
line_of level s = sda_of level && s.device.talk.own

-- The sign of SCL and the SDA line (State and time, 4).
unfoldable pub sign_in : ℕ → State → Sign
sign_in level s = sign_of s.wire (scl_of level) (line_of level s)

-- The state with the wire after the sample (State and time, 4).
unfoldable pub wired_of : ℕ → State → State
wired_of level s = with_wire s (wire_of s.wire (scl_of level) (line_of level s))

-- What a sample shows the part: nothing while reset is active, else a sign (State and time, 3 and 4).
pub data Seen : Type 0 where
  unseen : Seen
  sees : Sign → Seen

-- By whether reset is active (State and time, 3 and 4).
abbrev pub seen_by : Bool → Sign → Seen
seen_by true sign = unseen
seen_by false sign = sees sign

-- What is seen in a sample, once time has passed and the supply is judged. The state, the array, what is being sent, which write covers an
-- address and the list of transfers all go by it (State and time, 3 and 4).
unfoldable pub seen_of : ℕ → State → Seen
seen_of level s = seen_by s.timers.reset (sign_in level s)

-- Rules 3 and 4 for the state, by what is seen (State and time, 3 and 4).
abbrev pub goes_on_by : Seen → ℕ → List ℕ → State → State
goes_on_by unseen level array s = reset_of level s
goes_on_by (sees sign) level array s = heard_by sign (wp_of level) array (wired_of level s)

-- The state after one sample (State and time, each sample).
unfoldable pub step_of : ℕ → ℕ → List ℕ → State → State
step_of e level array s = goes_on_by (seen_of level (opens_of e level s)) level array (opens_of e level s)

-- Rules 3 and 4 for the array, by what is seen (State and time, 3 and 4).
abbrev pub keeps_by : Seen → ℕ → List ℕ → State → List ℕ
keeps_by unseen level array s = array
keeps_by (sees sign) level array s = written_by sign (wired_of level s) array

-- The array after one sample (Bytes on the wire, stop).
unfoldable pub array_of : ℕ → ℕ → List ℕ → State → List ℕ
array_of e level array s = keeps_by (seen_of level (opens_of e level s)) level array (opens_of e level s)
