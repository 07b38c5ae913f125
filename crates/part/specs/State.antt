-- The state with one field anew. No other definition writes a whole state, chip, timers, device or control register out, but for
-- power-up: a field more is a field more here.
use Rattle.std.specs.Prelude.{ℕ, Bool}
use Rattle.part.specs.declared.state.Chip.{Chip}
use Rattle.part.specs.declared.state.Control.{Control}
use Rattle.part.specs.declared.state.Device.{Device}
use Rattle.part.specs.declared.state.Load.{Load}
use Rattle.part.specs.declared.state.Place.{Place}
use Rattle.part.specs.declared.state.State.{State}
use Rattle.part.specs.declared.state.Talk.{Talk}
use Rattle.part.specs.declared.state.Timers.{Timers}
use Rattle.part.specs.declared.state.Watchdog.{Watchdog}
use Rattle.part.specs.declared.state.Wire.{Wire}

-- The state with another chip on the bench.
abbrev pub with_chip : State → Chip → State
with_chip s c = record { chip = c; timers = s.timers; wire = s.wire; device = s.device; load = s.load }

-- The state with other timers.
abbrev pub with_timers : State → Timers → State
with_timers s t = record { chip = s.chip; timers = t; wire = s.wire; device = s.device; load = s.load }

-- The state with another wire.
abbrev pub with_wire : State → Wire → State
with_wire s w = record { chip = s.chip; timers = s.timers; wire = w; device = s.device; load = s.load }

-- The state with another device.
abbrev pub with_device : State → Device → State
with_device s d = record { chip = s.chip; timers = s.timers; wire = s.wire; device = d; load = s.load }

-- The state with another page load.
abbrev pub with_load : State → Load → State
with_load s l = record { chip = s.chip; timers = s.timers; wire = s.wire; device = s.device; load = l }

-- The timers with another write time.
abbrev pub with_write : Timers → ℕ → Timers
with_write t n = record { write = n; hold = t.hold; reset = t.reset; low = t.low; watchdog = t.watchdog }

-- The timers with another reset hold.
abbrev pub with_hold : Timers → ℕ → Timers
with_hold t n = record { write = t.write; hold = n; reset = t.reset; low = t.low; watchdog = t.watchdog }

-- The timers with reset active, or not.
abbrev pub with_reset : Timers → Bool → Timers
with_reset t b = record { write = t.write; hold = t.hold; reset = b; low = t.low; watchdog = t.watchdog }

-- The timers with the low-VCC flag set, or not.
abbrev pub with_low : Timers → Bool → Timers
with_low t b = record { write = t.write; hold = t.hold; reset = t.reset; low = b; watchdog = t.watchdog }

-- The timers with another watchdog.
abbrev pub with_watchdog : Timers → Watchdog → Timers
with_watchdog t w = record { write = t.write; hold = t.hold; reset = t.reset; low = t.low; watchdog = w }

-- The talk with another byte being sent.
abbrev pub with_out : Talk → ℕ → Talk
with_out t v = record { phase = t.phase; high = t.high; out = v; own = t.own }

-- The talk with SDA released by the part, or pulled low.
abbrev pub with_own : Talk → Bool → Talk
with_own t b = record { phase = t.phase; high = t.high; out = t.out; own = b }

-- The device with another talk.
abbrev pub with_talk : Device → Talk → Device
with_talk d t = record { talk = t; counter = d.counter; control = d.control }

-- The device with another address counter.
abbrev pub with_counter : Device → Place → Device
with_counter d p = record { talk = d.talk; counter = p; control = d.control }

-- The device with another control register.
abbrev pub with_control : Device → Control → Device
with_control d c = record { talk = d.talk; counter = d.counter; control = c }

-- The control register with another stored byte.
abbrev pub with_stored : Control → ℕ → Control
with_stored c v = record { stored = v; wel = c.wel; rwel = c.rwel; chosen = c.chosen; pending = c.pending; value = c.value }

-- The control register with WEL set, or not.
abbrev pub with_wel : Control → Bool → Control
with_wel c b = record { stored = c.stored; wel = b; rwel = c.rwel; chosen = c.chosen; pending = c.pending; value = c.value }

-- The control register with RWEL set, or not.
abbrev pub with_rwel : Control → Bool → Control
with_rwel c b = record { stored = c.stored; wel = c.wel; rwel = b; chosen = c.chosen; pending = c.pending; value = c.value }

-- The register chosen, or not.
abbrev pub with_chosen : Control → Bool → Control
with_chosen c b = record { stored = c.stored; wel = c.wel; rwel = c.rwel; chosen = b; pending = c.pending; value = c.value }

-- A register byte that pends, or none, with its value.
abbrev pub with_pending : Control → Bool → ℕ → Control
with_pending c b v = record { stored = c.stored; wel = c.wel; rwel = c.rwel; chosen = c.chosen; pending = b; value = v }
