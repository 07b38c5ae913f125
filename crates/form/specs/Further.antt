-- What a long case says beyond a short one: words 16 to 31 of its header, put into the state (docs/BENCH.md).
use Rattle.std.specs.Prelude.{ℕ, ◌-◌, ◌/◌, ◌^◌, min, Bool, true, List, [], ◌∷◌, get_or, Option, None}
use Rattle.ground.specs.Cases.{odd}
use Rattle.page.specs.Page.{filled_of}
use Rattle.part.specs.State.{with_timers, with_wire, with_device, with_load, with_reset, with_low, with_talk, with_own, with_control, with_wel, with_rwel, with_chosen, with_pending}
use Rattle.part.specs.declared.state.Phase.{Phase}
use Rattle.part.specs.declared.state.Phase.TheVariants.{Idle, Silent, Slave, High, Low, Data, Register, Send, SendRegister}
use Rattle.part.specs.declared.state.Talk.{Talk}
use Rattle.part.specs.declared.state.Timers.{Timers}
use Rattle.part.specs.declared.state.Wire.{Wire}
use Rattle.part.specs.declared.state.Device.{Device}
use Rattle.part.specs.declared.state.State.{State}
use Rattle.form.specs.Fields.{given, unless_kept}
use Rattle.form.specs.declared.further.Further.{Further}

-- What a short case says: nothing, so that every field stays.
abbrev pub no_further : Further
no_further = record { phase = None; flags = None; pending = None; loaded = None }

-- A word of the longer header, by its number, of the sixteen that follow the first sixteen.
abbrev pub numbered : ℕ → List ℕ → ℕ
numbered n ws = get_or ws (n - 16) 0

-- The further words that count; 16 to 22 and 27 to 31 are not looked at.
abbrev pub further_of : List ℕ → Further
further_of ws =
    record {
      phase = given (numbered 23 ws);
      flags = given (numbered 24 ws);
      pending = given (numbered 25 ws);
      loaded = given (numbered 26 ws);
    }

-- The phases in the order of their numbers, from 0 on.
abbrev pub phases : List Phase
phases = Idle ∷ Silent ∷ Slave ∷ High ∷ Low ∷ Data ∷ Register ∷ Send ∷ SendRegister ∷ []

-- The phase of a number; idle where there is none.
unfoldable pub phase_of : ℕ → Phase
phase_of n = get_or phases n Idle

-- The talk in another phase.
abbrev pub with_phase : Talk → Phase → Talk
with_phase t p = record { phase = p; high = t.high; out = t.out; own = t.own }

-- The state in the phase of a number.
abbrev pub phase_in : ℕ → State → State
phase_in n s = with_device s (with_talk s.device (with_phase s.device.talk (phase_of n)))

-- Whether a bit of a number is set, counted from its lowest, bit 0.
abbrev pub flag_at : ℕ → ℕ → Bool
flag_at k v = odd (v / 2 ^ k)

-- The timers with their two flags.
abbrev pub timers_flagged : ℕ → Timers → Timers
timers_flagged v t = with_low (with_reset t (flag_at 1 v)) (flag_at 2 v)

-- The wire with the remembered levels of its lines.
abbrev pub wire_flagged : ℕ → Wire → Wire
wire_flagged v w = record { lines = record { scl = flag_at 5 v; sda = flag_at 6 v }; frame = w.frame }

-- The device with its own level, its two latches and the choice of the register.
abbrev pub device_flagged : ℕ → Device → Device
device_flagged v d =
    with_control
    (with_talk d (with_own d.talk (flag_at 0 v)))
    (with_chosen (with_rwel (with_wel d.control (flag_at 3 v)) (flag_at 4 v)) (flag_at 7 v))

-- The state with flags, from bit 0: own level, reset active, low-VCC flag, WEL, RWEL, SCL, SDA, register chosen.
abbrev pub flags_in : ℕ → State → State
flags_in v s =
    with_device
    (with_wire (with_timers s (timers_flagged v s.timers)) (wire_flagged v s.wire))
    (device_flagged v s.device)

-- The state with a register byte that pends.
abbrev pub pending_in : ℕ → State → State
pending_in v s = with_device s (with_control s.device (with_pending s.device.control true v))

-- The state with a byte loaded and marked at the counter's place.
abbrev pub loaded_in : ℕ → State → State
loaded_in v s = with_load s (filled_of s.load s.device.counter v)

-- A byte that a word puts into the state: the state stays if nothing is put, and a wider word counts as 255.
unfoldable pub put_by_word : (ℕ → State → State) → Option ℕ → State → State
put_by_word put word s = unless_kept word s (λ (w : ℕ). put (min w 255) s)

-- The state with the further words put in.
unfoldable pub further_in : Further → State → State
further_in f s =
    put_by_word loaded_in f.loaded
    (put_by_word pending_in f.pending (put_by_word flags_in f.flags (put_by_word phase_in f.phase s)))
