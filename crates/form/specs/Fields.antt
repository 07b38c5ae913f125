-- Words put into the fields of a state (docs/BENCH.md).
use Rattle.std.specs.Prelude.{ℕ, min, cond, eqb, Option, Some, None}
use Rattle.page.specs.Page.{at}
use Rattle.part.specs.State.{with_chip, with_timers, with_wire, with_device, with_write, with_hold, with_watchdog, with_counter, with_control, with_stored}
use Rattle.part.specs.declared.state.Chip.{Chip}
use Rattle.part.specs.declared.state.Timers.{Timers}
use Rattle.part.specs.declared.state.Wire.{Wire}
use Rattle.part.specs.declared.state.Device.{Device}
use Rattle.part.specs.declared.state.State.{State}
use Rattle.form.specs.declared.fields.Preset.{Preset}

-- The word that leaves a field as it is.
abbrev pub keep_word : ℕ
keep_word = 0xFFFFFFFF

-- What a word puts into a field: nothing, if the word leaves it.
abbrev pub given : ℕ → Option ℕ
given word = cond (eqb word keep_word) None (Some word)

-- What was there before, if nothing is put there, else what the word that is put there makes of it.
abbrev pub unless_kept : {A : Type 0} → Option ℕ → A → (ℕ → A) → A
unless_kept None old new = old
unless_kept (Some word) old new = new word

-- A word put into a field whose largest number is given: it stays if nothing is put, and a wider word counts as that number.
unfoldable pub field_of : ℕ → Option ℕ → ℕ → ℕ
field_of most word old = unless_kept word old (λ (w : ℕ). min w most)

-- The chip with the part number and the select put in.
abbrev pub chip_of : Preset → Chip → Chip
chip_of p c = record { part = field_of 65535 p.part c.part; select = field_of 255 p.select c.select }

-- The timers with three words put in: write time left, reset hold, watchdog left.
unfoldable pub timers_of : Preset → Timers → Timers
timers_of p t =
    with_watchdog
    (with_hold
    (with_write t (field_of 4294967295 p.write t.write))
    (field_of 4294967295 p.hold t.hold))
    (record { running = t.watchdog.running; left = field_of 4294967295 p.watchdog t.watchdog.left })

-- The wire with the count of committed bits put in.
unfoldable pub wire_put : Preset → Wire → Wire
wire_put p w =
    record {
      lines = w.lines;
      frame =
          record {
            held = w.frame.held;
            bit = w.frame.bit;
            bits = field_of 255 p.bits w.frame.bits;
            shift = w.frame.shift;
          };
    }

-- The device with the address counter and the stored byte put in.
unfoldable pub device_of : Preset → Device → Device
device_of p d =
    with_control
    (with_counter d (at (field_of 65535 p.counter d.counter.0)))
    (with_stored d.control (field_of 255 p.stored d.control.stored))

-- The state with all eight words put in.
unfoldable pub put_in_of : Preset → State → State
put_in_of p s =
    with_device
    (with_wire (with_timers (with_chip s (chip_of p s.chip)) (timers_of p s.timers)) (wire_put p s.wire))
    (device_of p s.device)
