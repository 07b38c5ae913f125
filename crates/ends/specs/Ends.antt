-- What a start, a stop and reset do to the device (document 01, State and time; Bytes on the wire; Control register).
use Rattle.std.specs.Prelude.{ℕ, Bool, true, false, ◌&&◌, ltb}
use Rattle.part.specs.declared.state.Phase.{Phase}
use Rattle.part.specs.declared.state.Phase.TheVariants.{Idle, Silent, Slave, High, Low, Data, Register, Send, SendRegister}
use Rattle.part.specs.declared.state.Control.{Control}
use Rattle.part.specs.declared.state.Device.{Device}
use Rattle.control.specs.Register.{carried_out}
use Rattle.control.specs.declared.Order.{Order}
use Rattle.part.specs.State.{with_talk, with_control, with_chosen}
use Rattle.address.specs.Talk.{none_pends, rested}

-- After a start the part hears a slave byte; after one while writing, nothing until another start (State and time).
abbrev pub start_phase : Bool → Phase
start_phase true = Silent
start_phase false = Slave

-- A start drops a pending byte and releases SDA; the counter and the choice stay (Bytes on the wire, any start).
unfoldable pub started_of : Bool → Device → Device
started_of writing d = with_control (with_talk d (rested (start_phase writing))) (none_pends d.control)

-- No choice and no pending byte (Bytes on the wire, any stop; State and time, 3).
abbrev pub dropped : Control → Control
dropped c = with_chosen (none_pends c) false

-- The phases in which a byte is kept for a stop to act on: array data and a register byte (Bytes on the wire; request 2026-02).
abbrev pub keeps_for_stop : Phase → Bool
keeps_for_stop Idle = false
keeps_for_stop Silent = false
keeps_for_stop Slave = false
keeps_for_stop High = false
keeps_for_stop Low = false
keeps_for_stop Data = true
keeps_for_stop Register = true
keeps_for_stop Send = false
keeps_for_stop SendRegister = false

-- Whether a stop with n committed bits cuts such a byte off, from its first bit to the end of its acknowledge. State, array, timers,
-- demand 3 and the list of transfers all go by it (Bytes on the wire, stop; request 2026-02).
abbrev pub cuts_off : Phase → ℕ → Bool
cuts_off phase n = keeps_for_stop phase && ltb 0 n

-- The register as a stop finds it: one that cuts a byte off cancels the pending byte (Control register; request 2026-02).
abbrev pub control_left : Bool → Control → Control
control_left true c = none_pends c
control_left false c = c

-- A stop carries out the pending byte's order, then drops it and the choice; the part is idle (Bytes on the wire, any stop).
unfoldable pub stopped_of : Order → Device → Device
stopped_of order d = with_control (with_talk d (rested Idle)) (dropped (carried_out order d.control))

-- While reset is active talk ends: SDA released, pending byte and choice dropped, part idle (State and time, 3).
unfoldable pub ended_of : Device → Device
ended_of d = with_control (with_talk d (rested Idle)) (dropped d.control)
