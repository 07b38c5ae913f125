-- The bench cases of captures (document 01, Bench cases, P1 and P5 to P9). They are said of a part that has just been powered up, with
-- select 0, stored byte 00h and an array of so many bytes all FFh, WP low throughout: what it answers and holds after traffic that a replay accepts.
use Rattle.std.specs.Prelude.{ℕ, ◌-◌, true, false, List, [], ◌∷◌, ◌++◌, ◌≡◌, replicate}
use Rattle.lock.specs.Lock.{block_code}
use Rattle.timers.specs.Timers.{watch_code}
use Rattle.page.specs.Page.{at}
use Rattle.part.specs.declared.state.Control.{Control}
use Rattle.control.specs.Register.{reads_of}
use Rattle.sample.specs.Run.{Part}
use Rattle.waves.specs.Waves.{Capture, brisk, wait, start, sent, page_write, read_from}
use Rattle.runs.specs.Bench.{blank_of, part_at, answers_at, AcceptedAt, opening, register_byte, last_answers, clocked_bits}

-- Such a part after captures, one after the other (State and time, each sample).
abbrev pub bench_part : ℕ → ℕ → List Capture → Part
bench_part part size cs = part_at (blank_of part size 0) cs

-- Its answers, a byte for each sample (What goes in and what comes out).
abbrev pub answers : ℕ → ℕ → List Capture → List ℕ
answers part size cs = answers_at (blank_of part size 0) cs

-- A replay takes them (Refusal numbers, 4 to 10).
abbrev pub Accepted : ℕ → ℕ → List Capture → Type 0
Accepted part size cs = AcceptedAt (blank_of part size 0) cs

-- Four samples of good VCC: the first, then 100,000 + 99,999, then 1 (State and time, 1 and 2).
abbrev pub held_reset : List Capture
held_reset = wait 100000 ∷ wait 100000 ∷ wait 99999 ∷ wait 1 ∷ []

-- After the first good-VCC sample 100,000 + 99,999 keeps reset, and 1 more ends it: `held` is the answer byte with the RESET pin active,
-- `ended` with it inactive (Bench cases, P1).
pub record P1 (part size held ended : ℕ) : Type 0 where
  pub taken : Accepted part size held_reset
  pub pin : answers part size held_reset ≡ held ∷ held ∷ held ∷ ended ∷ []

-- Twelve bytes from an address on, with WEL set before (Bytes on the wire, array data).
abbrev pub twelve : ℕ → List Capture
twelve address =
    opening
    ++ brisk (register_byte 2)
    ∷ brisk (page_write 0 address (1 ∷ 2 ∷ 3 ∷ 4 ∷ 5 ∷ 6 ∷ 7 ∷ 8 ∷ 9 ∷ 10 ∷ 11 ∷ 12 ∷ []))
    ∷ []

-- A page that they fill from its place 60 on, the last four of it first (Bench cases, P5).
abbrev pub wrapped : List ℕ
wrapped = (5 ∷ 6 ∷ 7 ∷ 8 ∷ 9 ∷ 10 ∷ 11 ∷ 12 ∷ []) ++ replicate 52 0xFF ++ (1 ∷ 2 ∷ 3 ∷ 4 ∷ [])

-- They fill 60 to 63 and 0 to 7, and the counter is at 8; in the next page it is the same (Bench cases, P5).
pub record P5 (part size : ℕ) : Type 0 where
  pub taken : Accepted part size (twelve 0x03C) × Accepted part size (twelve 0x07C)
  pub page : (bench_part part size (twelve 0x03C)).array ≡ wrapped ++ replicate (size - 64) 0xFF
  pub counter : (bench_part part size (twelve 0x03C)).state.device.counter ≡ at 8
  pub next : (bench_part part size (twelve 0x07C)).array ≡ replicate 64 0xFF ++ wrapped ++ replicate (size - 128) 0xFF
  pub steps : (bench_part part size (twelve 0x07C)).state.device.counter ≡ at 0x048

-- A start and a slave byte (Bytes on the wire, after a start).
abbrev pub calls : ℕ → List Capture
calls v = opening ++ brisk (start ++ sent v) ∷ []

-- The last four answers to it: from its eighth fall to its ninth, which ends the acknowledge; after A1h the first bit of FFh is out.
abbrev pub to_slave : ℕ → ℕ → ℕ → List ℕ
to_slave part size v = last_answers 4 (answers part size (calls v))

-- Select 0 answers A0h and A1h, not A2h or A8h: `low` is the answer byte with SDA low, `high` with SDA high (Bench cases, P6).
pub record P6 (part size low high : ℕ) : Type 0 where
  pub taken : Accepted part size (calls 0xA0) × Accepted part size (calls 0xA1) × Accepted part size (calls 0xA2) × Accepted part size (calls 0xA8)
  pub writes : to_slave part size 0xA0 ≡ low ∷ low ∷ low ∷ high ∷ []
  pub reads : to_slave part size 0xA1 ≡ low ∷ low ∷ low ∷ high ∷ []
  pub select : to_slave part size 0xA2 ≡ high ∷ high ∷ high ∷ high ∷ []
  pub code : to_slave part size 0xA8 ≡ high ∷ high ∷ high ∷ high ∷ []

-- Three register bytes, each with its start and stop (Control register).
abbrev pub three : ℕ → ℕ → ℕ → List Capture
three u v w = opening ++ brisk (register_byte u) ∷ brisk (register_byte v) ∷ brisk (register_byte w) ∷ []

-- The register chosen and read once the write time is over; the last 30 answers are its byte, the ninth clock and the stop's (Bytes on the wire).
abbrev pub reads_register : List Capture
reads_register = wait 5000 ∷ brisk (read_from 0 0xFFFF 1) ∷ []

-- 02h, 06h, 63h gives WD 11 and BP 100; the register then reads 63h, on the bus too (Bench cases, P7).
pub record P7 (part size : ℕ) : Type 0 where
  pub watchdog : watch_code (bench_part part size (three 0x02 0x06 0x63)).state.device.control.stored ≡ 3
  pub block : block_code (bench_part part size (three 0x02 0x06 0x63)).state.device.control.stored ≡ 4
  pub reads : reads_of (bench_part part size (three 0x02 0x06 0x63)).state.device.control ≡ 0x63
  pub taken : Accepted part size (three 0x02 0x06 0x63 ++ reads_register)
  pub bus : clocked_bits (last_answers 30 (answers part size (three 0x02 0x06 0x63 ++ reads_register)))
      ≡ 0 ∷ 1 ∷ 1 ∷ 0 ∷ 0 ∷ 0 ∷ 1 ∷ 1 ∷ 1 ∷ 1 ∷ []

-- The control register with both latches set, nothing stored, nothing pending (Control register).
abbrev pub latched : Control
latched = record { stored = 0; wel = true; rwel = true; chosen = false; pending = false; value = 0 }

-- 67h as third byte changes nothing: as after 02h and 06h, RWEL stays, and no write time runs (Bench cases, P8).
pub record P8 (part size : ℕ) : Type 0 where
  pub taken : Accepted part size (three 0x02 0x06 0x67)
  pub before : (bench_part part size (opening ++ brisk (register_byte 0x02) ∷ brisk (register_byte 0x06) ∷ [])).state.device.control ≡ latched
  pub same : (bench_part part size (three 0x02 0x06 0x67)).state.device.control ≡ latched
  pub time : (bench_part part size (three 0x02 0x06 0x67)).state.timers.write ≡ 0
  pub array : (bench_part part size (three 0x02 0x06 0x67)).array ≡ replicate size 0xFF

-- A byte written, then 4,999 and 1 more (Bytes on the wire, stop).
abbrev pub written5000 : List Capture
written5000 = opening ++ brisk (register_byte 2) ∷ brisk (page_write 0 0 (1 ∷ [])) ∷ wait 4999 ∷ wait 1 ∷ []

-- The write time ends at 5,000, not at 4,999: `writing` is the answer byte while it runs, `done` after it (Bench cases, P9).
pub record P9 (part size writing done : ℕ) : Type 0 where
  pub taken : Accepted part size written5000
  pub last : last_answers 3 (answers part size written5000) ≡ writing ∷ writing ∷ done ∷ []
