-- Worked cases of what starts and ends talk (document 01, State and time, 4; Bytes on the wire; Control register), said of an X4323 that has
-- just been powered up with select 0. Every number is the paper's, written out.
use Rattle.std.specs.Prelude.{ℕ, true, false, List, [], ◌∷◌, ◌++◌, ◌≡◌, take, replicate}
use Rattle.part.specs.declared.state.Phase.TheVariants.{Idle, Silent}
use Rattle.sample.specs.Run.{Part}
use Rattle.waves.specs.Waves.{Capture, brisk, start, again, stop, clocks, sent, read, addressed, page_write, read_from, current_read}
use Rattle.runs.specs.Bench.{holding, blank_part, part_at, answers_at, AcceptedAt, opening, register_byte, last_answers, clocked_bits}

-- Captures: level bytes, once reset has ended (State and time, power-up and 1).
abbrev pub talked : List ℕ → List Capture
talked levels = opening ++ brisk levels ∷ []

-- The last four answers: from the eighth fall of a byte to its ninth.
abbrev pub ninth : List Capture → List ℕ
ninth cs = last_answers 4 (answers_at (blank_part 4323 0) cs)

-- Four bits of a slave byte, then another start and A0h (State and time, 4).
abbrev pub half_then_start : List Capture
half_then_start = talked (start ++ clocks 4 0xA ++ again ++ sent 0xA0)

-- Four bits of a slave byte, then a stop, a start and A0h (State and time, 4).
abbrev pub half_then_stop : List Capture
half_then_stop = talked (start ++ clocks 4 0xA ++ stop ++ start ++ sent 0xA0)

-- 02h, then 5Ah to 000h, seven bits of another byte and the stop: a byte cut short, which cancels the load (request 2026-02).
abbrev pub seven_bits : List Capture
seven_bits = opening ++ brisk (register_byte 0x02) ∷ brisk (addressed 0 0x000 ++ sent 0x5A ++ clocks 7 0x7F ++ stop) ∷ []

-- SCL rises as SDA falls, then A0h: 01 10 00 (State and time, 4).
abbrev pub rise_and_fall : List Capture
rise_and_fall = talked (10 ∷ 9 ∷ 8 ∷ sent 0xA0)

-- SCL falls as SDA falls, then A0h: 11 00 (State and time, 4).
abbrev pub both_fall : List Capture
both_fall = talked (11 ∷ 8 ∷ sent 0xA0)

-- SDA low and SCL high through the whole reset at power-up, then A0h (State and time, 3).
abbrev pub low_through : List Capture
low_through = record { times = 0 ∷ 100000 ∷ 100000 ∷ []; levels = 9 ∷ 9 ∷ 9 ∷ [] } ∷ brisk (8 ∷ sent 0xA0) ∷ []

-- A start or a stop discards bits, and the clock of the stop is no data bit; where both lines change only SCL counts; the levels of a reset
-- are remembered, so that SDA low since then is no start (State and time, 3 and 4).
pub record S19 : Type 0 where
  pub taken : AcceptedAt (blank_part 4323 0) half_then_start × AcceptedAt (blank_part 4323 0) half_then_stop × AcceptedAt (blank_part 4323 0) seven_bits
  pub accepted : AcceptedAt (blank_part 4323 0) rise_and_fall × AcceptedAt (blank_part 4323 0) both_fall × AcceptedAt (blank_part 4323 0) low_through
  pub started : ninth half_then_start ≡ 2 ∷ 2 ∷ 2 ∷ 3 ∷ []
  pub stopped : ninth half_then_stop ≡ 2 ∷ 2 ∷ 2 ∷ 3 ∷ []
  pub unfinished : (part_at (blank_part 4323 0) seven_bits).array ≡ replicate 4096 0xFF
  pub clean : (part_at (blank_part 4323 0) (talked (start ++ clocks 4 0xA ++ stop))).state.wire.frame
      ≡ record { held = false; bit = false; bits = 0; shift = 0 }
  pub rises : ninth rise_and_fall ≡ 3 ∷ 3 ∷ 3 ∷ 3 ∷ []
  pub idle : (part_at (blank_part 4323 0) (talked (10 ∷ 9 ∷ []))).state.device.talk.phase ≡ Idle
  pub falls : ninth both_fall ≡ 3 ∷ 3 ∷ 3 ∷ 3 ∷ []
  pub remembered : ninth low_through ≡ 3 ∷ 3 ∷ 3 ∷ 3 ∷ []

-- A part with A5h at 123h, all else FFh (The part on our bench).
abbrev pub one_byte : Part
one_byte = holding 4323 0 (replicate 0x123 0xFF ++ 0xA5 ∷ replicate 3804 0xFF)

-- The address 123h sent, then a stop: it sets the counter (Bytes on the wire, write).
abbrev pub counted : List Capture
counted = talked (addressed 0 0x123 ++ stop)

-- The bits of the last byte read, its ninth clock and the stop's: those of A5h (Bytes on the wire, read).
pub record ReadsA5 (cs : List Capture) : Type 0 where
  pub taken : AcceptedAt one_byte cs
  pub line : clocked_bits (last_answers 30 (answers_at one_byte cs)) ≡ 1 ∷ 0 ∷ 1 ∷ 0 ∷ 0 ∷ 1 ∷ 0 ∷ 1 ∷ 1 ∷ 1 ∷ []

-- 02h, then 5Ah to 000h, a start in place of the stop, and a stop (Bytes on the wire, any start).
abbrev pub load_dropped : List Capture
load_dropped = opening ++ brisk (register_byte 0x02) ∷ brisk (addressed 0 0x000 ++ sent 0x5A ++ again ++ stop) ∷ []

-- 02h to the register, a start in place of the stop, and a stop (Bytes on the wire, any start).
abbrev pub pending_dropped : List Capture
pending_dropped = talked (addressed 0 0xFFFF ++ sent 0x02 ++ again ++ stop)

-- Any start drops the load and a pending register byte. A stop drops the register choice, and so does another address; the byte read is then
-- the array's (Bytes on the wire).
pub record S20 : Type 0 where
  pub taken : AcceptedAt (blank_part 4323 0) load_dropped × AcceptedAt (blank_part 4323 0) pending_dropped
  pub array : (part_at (blank_part 4323 0) load_dropped).array ≡ replicate 4096 0xFF
  pub time : (part_at (blank_part 4323 0) load_dropped).state.timers.write ≡ 0
  pub latch : (part_at (blank_part 4323 0) pending_dropped).state.device.control.wel ≡ false
  pub stopped : ReadsA5 (counted ++ brisk (addressed 0 0xFFFF ++ stop) ∷ brisk (current_read 0 1) ∷ [])
  pub other : ReadsA5 (talked (addressed 0 0xFFFF ++ again ++ sent 0xA0 ++ sent 0x01 ++ sent 0x23 ++ again ++ sent 0xA1 ++ read true ++ stop))

-- Two register bytes before a stop (Control register, a second byte).
abbrev pub twice : List Capture
twice = talked (page_write 0 0xFFFF (0x02 ∷ 0x02 ∷ []))

-- The first register byte is acknowledged; a second isn't, and cancels the first: WEL stays low (Control register, a second byte).
pub record S21 : Type 0 where
  pub taken : AcceptedAt (blank_part 4323 0) twice
  pub first : take 4 (last_answers 34 (answers_at (blank_part 4323 0) twice)) ≡ 2 ∷ 2 ∷ 2 ∷ 3 ∷ []
  pub second : last_answers 7 (answers_at (blank_part 4323 0) twice) ≡ 3 ∷ 3 ∷ 3 ∷ 3 ∷ 3 ∷ 3 ∷ 3 ∷ []
  pub latch : (part_at (blank_part 4323 0) twice).state.device.control.wel ≡ false

-- The register read for two bytes: it is 00h (Bytes on the wire, read).
abbrev pub register_twice : List Capture
register_twice = counted ++ brisk (read_from 0 0xFFFF 2) ∷ []

-- The register is sent once, and the part is silent after it, though the host acknowledges; the counter stays at 123h. Its eighth fall drops
-- the choice: a read after another start, with no stop, sends the array byte (Bytes on the wire, read).
pub record S22 : Type 0 where
  pub once : clocked_bits (last_answers 57 (answers_at one_byte register_twice))
      ≡ 0 ∷ 0 ∷ 0 ∷ 0 ∷ 0 ∷ 0 ∷ 0 ∷ 0 ∷ 1 ∷ 1 ∷ 1 ∷ 1 ∷ 1 ∷ 1 ∷ 1 ∷ 1 ∷ 1 ∷ 1 ∷ 1 ∷ []
  pub stays : ReadsA5 (register_twice ++ brisk (current_read 0 1) ∷ [])
  pub dropped : ReadsA5
      (counted ++ brisk (addressed 0 0xFFFF ++ again ++ sent 0xA1 ++ read true ++ again ++ sent 0xA1 ++ read true ++ stop) ∷ [])

-- Eight clocks in which the part leaves SDA high, and a ninth in which it pulls it low.
abbrev pub acked : List ℕ
acked = 1 ∷ 1 ∷ 1 ∷ 1 ∷ 1 ∷ 1 ∷ 1 ∷ 1 ∷ 0 ∷ []

-- Slave byte, address high, address low and a data byte or a register byte: each is acknowledged, in its ninth clock alone; then the stop's
-- clock. With WEL low a data byte is not, and the part is silent (Bytes on the wire).
pub record S23 : Type 0 where
  pub taken : AcceptedAt (blank_part 4323 0) (opening ++ brisk (register_byte 0x02) ∷ brisk (page_write 0 0x123 (0x5A ∷ [])) ∷ [])
  pub accepted : AcceptedAt (blank_part 4323 0) (talked (register_byte 0x02)) × AcceptedAt (blank_part 4323 0) (talked (page_write 0 0x123 (0x5A ∷ [])))
  pub unstopped : AcceptedAt (blank_part 4323 0) (talked (addressed 0 0x123 ++ sent 0x5A))
  pub array : clocked_bits
      (last_answers 111
      (answers_at (blank_part 4323 0) (opening ++ brisk (register_byte 0x02) ∷ brisk (page_write 0 0x123 (0x5A ∷ [])) ∷ [])))
      ≡ acked ++ acked ++ acked ++ acked ++ 1 ∷ []
  pub register : clocked_bits (last_answers 111 (answers_at (blank_part 4323 0) (talked (register_byte 0x02)))) ≡ acked ++ acked ++ acked ++ acked ++ 1 ∷ []
  pub withheld : clocked_bits (last_answers 111 (answers_at (blank_part 4323 0) (talked (page_write 0 0x123 (0x5A ∷ [])))))
      ≡ acked ++ acked ++ acked ++ replicate 10 1
  pub silent : (part_at (blank_part 4323 0) (talked (addressed 0 0x123 ++ sent 0x5A))).state.device.talk.phase ≡ Silent
