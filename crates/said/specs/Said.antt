-- What one sample says, entry by entry (document 01, State and time; Bytes on the wire; Control register; request 2026-02).
use Rattle.std.specs.Prelude.{ℕ, Bool, ◌&&◌, List, ◌++◌, Option, Some, None}
use Rattle.ground.specs.Kind.{kind_of}
use Rattle.timers.specs.Timers.{writes, write_fell}
use Rattle.page.specs.Page.{marked}
use Rattle.part.specs.declared.state.Device.{Device}
use Rattle.part.specs.declared.state.Load.{Load}
use Rattle.part.specs.declared.state.State.{State}
use Rattle.wire.specs.declared.Sign.{Sign}
use Rattle.wire.specs.declared.Sign.TheVariants as sign
use Rattle.ends.specs.Ends.{cuts_off}
use Rattle.withheld.specs.Withheld.{reason_of}
use Rattle.entries.specs.Entries.{edge_by, told_of}
use Rattle.entries.specs.declared.Entry.{Entry}
use Rattle.entries.specs.declared.Entry.TheVariants.{Start, Stop, Byte, Ninth, CycleBegins, CycleEnds, ResetBegins, ResetEnds}
use Rattle.sample.specs.Sample.{sign_in, Seen, unseen, sees, seen_by}

-- A stop by whether it cuts a byte off, its bits, a loaded mark and a pending byte: a cut drops these undone (request 2026-02).
abbrev pub stop_says_by : Bool → ℕ → Bool → Bool → Entry
stop_says_by cut n marked pending = Stop n cut (cut && marked) (cut && pending)

-- The same of the device and the load that it met (Bytes on the wire, stop; Control register; request 2026-02).
unfoldable pub stop_says : ℕ → Device → Load → Entry
stop_says n d l = stop_says_by (cuts_off d.talk.phase n) n (marked l) d.control.pending

-- What a sign says, as the state before it met it: a start the bits committed before it, a byte its phase and why it is not acknowledged, a
-- ninth bit the part's own SDA level (State and time, 4; Bytes on the wire, acknowledged from the eighth fall to the ninth).
abbrev pub said_by : Sign → State → Option Entry
said_by sign.Quiet s = None
said_by sign.Start s = Some (Start s.wire.frame.bits)
said_by (sign.Stop n) s = Some (stop_says n s.device s.load)
said_by sign.Bit s = None
said_by (sign.Byte v) s = Some (Byte s.device.talk.phase v (reason_of (kind_of s.chip.part) s.device))
said_by (sign.Ninth b) s = Some (Ninth b s.device.talk.own)

-- What is seen says (State and time, 3 and 4).
abbrev pub heard_in : Seen → State → Option Entry
heard_in unseen s = None
heard_in (sees sign) s = said_by sign s

-- One sample between two states: what time and supply did, then the sign, then a write cycle begun (State and time, 1 to 4).
unfoldable pub sample_says : ℕ → ℕ → State → State → List Entry
sample_says e level s next =
    told_of (edge_by s.timers.reset next.timers.reset ResetBegins ResetEnds)
    ++ (told_of (edge_by (writes s.timers) (writes (write_fell e s.timers)) CycleBegins CycleEnds)
    ++ (told_of (heard_in (seen_by next.timers.reset (sign_in level s)) s)
    ++ told_of (edge_by (writes (write_fell e s.timers)) (writes next.timers) CycleBegins CycleEnds)))
