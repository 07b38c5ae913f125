-- What is claimed of a stop, of every part and every sample: one that cuts a byte off cancels the load and the pending register byte, any
-- other does its work (request 2026-02; document 01, Bytes on the wire, stop; Control register).
-- For a person from the line: pull the cable inside a byte of a write, and nothing of that write is stored and no order is carried out; the
-- chip is idle and goes on as it was. A stop after a whole byte and its acknowledge, with no clock but its own in between, stores all.
use Rattle.std.specs.Prelude.{ℕ, ◌≤◌, true, false, ◌≡◌}
use Rattle.page.specs.Page.{empty_load}
use Rattle.part.specs.declared.state.Phase.TheVariants.{Idle, Silent, Slave, High, Low, Data, Register, Send, SendRegister}
use Rattle.address.specs.Talk.{rested}
use Rattle.wire.specs.declared.Sign.TheVariants.{Stop}
use Rattle.ends.specs.Ends.{cuts_off, dropped}
use Rattle.levels.specs.Level.{wp_of}
use Rattle.sample.specs.Sample.{opens_of, wired_of, stop_of, saved_of, sees, seen_of}
use Rattle.sample.specs.Run.{Part, part_step}

-- Nothing but the talk has ended: the array, the latches, the stored bits and the counter are as they were, and no write cycle begins (request
-- 2026-02).
pub record Cancelled (e level : ℕ) (p r : Part) : Type 0 where
  pub chip : r.state.chip ≡ p.state.chip
  pub wire : r.state.wire ≡ (wired_of level (opens_of e level p.state)).wire
  pub array : r.array ≡ p.array
  pub timers : r.state.timers ≡ (opens_of e level p.state).timers
  pub counter : r.state.device.counter ≡ p.state.device.counter
  pub register : r.state.device.control ≡ dropped p.state.device.control
  pub talk : r.state.device.talk ≡ rested Idle
  pub load : r.state.load ≡ empty_load

-- Which stops cut a byte off, written out: those with 1 to 8 committed bits of array data or of a register byte, 8 standing from the eighth
-- fall to the end of the acknowledge; none with no bit, and none in another phase (request 2026-02).
pub record WhichCut : Type 0 where
  pub array : (n : ℕ) → 1 ≤ n → n ≤ 8 → cuts_off Data n ≡ true
  pub register : (n : ℕ) → 1 ≤ n → n ≤ 8 → cuts_off Register n ≡ true
  pub none : (cuts_off Data 0 ≡ false) × (cuts_off Register 0 ≡ false)
  pub waiting : (n : ℕ) → (cuts_off Idle n ≡ false) × (cuts_off Silent n ≡ false)
  pub addressed : (n : ℕ) → (cuts_off Slave n ≡ false) × (cuts_off High n ≡ false) × (cuts_off Low n ≡ false)
  pub sending : (n : ℕ) → (cuts_off Send n ≡ false) × (cuts_off SendRegister n ≡ false)

-- A stop that is seen, with n bits committed: it cuts a byte off, and all is cancelled; or it does not, and its work is done on the part as
-- it stands (Bytes on the wire, stop; Control register, at a stop; request 2026-02).
pub record CutStops : Type 0 where
  pub which : WhichCut
  pub cancels : (e level n : ℕ) (p : Part) → seen_of level (opens_of e level p.state) ≡ sees (Stop n)
      → cuts_off p.state.device.talk.phase n ≡ true → Cancelled e level p (part_step e level p)
  pub works : (e level n : ℕ) (p : Part) → seen_of level (opens_of e level p.state) ≡ sees (Stop n)
      → cuts_off p.state.device.talk.phase n ≡ false
      → part_step e level p
      ≡ record {
        state = stop_of (wp_of level) (wired_of level (opens_of e level p.state));
        array = saved_of p.state p.array;
      }
