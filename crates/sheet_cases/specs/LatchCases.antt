-- Worked cases of the latches and of WP (document 01, State and time, 2; Control register), said of a part that has just been powered up
-- with select 0 and an array all FFh. Every number is the paper's, written out.
use Rattle.std.specs.Prelude.{ℕ, ◌+◌, true, false, List, [], ◌∷◌, ◌++◌, ◌≡◌, replicate}
use Rattle.part.specs.declared.state.Control.{Control}
use Rattle.waves.specs.Waves.{Capture, brisk, page_write, addressed, sent}
use Rattle.runs.specs.Bench.{blank_part, part_at, answers_at, AcceptedAt, opening, register_byte, holds, last_answers}

-- The register of a part with a stored byte after captures.
abbrev pub control_at : ℕ → ℕ → List Capture → Control
control_at part stored cs = (part_at (blank_part part stored) cs).state.device.control

-- A low-VCC sample with both lines high, 1 microsecond on, then good VCC until reset ends (State and time, 2).
abbrev pub dip : List Capture
dip = record { times = 1 ∷ []; levels = 3 ∷ [] } ∷ opening

-- 5Ah to 000h. The last seven answers are from the eighth fall of that byte to its ninth, then the stop's three (Bytes on the wire, array data).
abbrev pub byte_to000 : List Capture
byte_to000 = brisk (page_write 0 0x000 (0x5A ∷ [])) ∷ []

-- 02h, then that byte (Control register, RWEL low).
abbrev pub latch_then_byte : List Capture
latch_then_byte = opening ++ brisk (register_byte 0x02) ∷ byte_to000

-- The same with low VCC in between (State and time, 2).
abbrev pub dipped : List Capture
dipped = opening ++ brisk (register_byte 0x02) ∷ (dip ++ byte_to000)

-- 02h and 06h, then low VCC (State and time, 2).
abbrev pub both_dipped : List Capture
both_dipped = opening ++ brisk (register_byte 0x02) ∷ brisk (register_byte 0x06) ∷ dip

-- Low VCC clears both latches: a data byte that would be acknowledged and stored after 02h is not after low VCC; `low` is the answer byte
-- with SDA low, `high` with SDA high, `writing` while a write runs (State and time, 2; Bytes on the wire, array data).
pub record S6 (part low high writing : ℕ) : Type 0 where
  pub taken : AcceptedAt (blank_part part 0) latch_then_byte × AcceptedAt (blank_part part 0) dipped × AcceptedAt (blank_part part 0) both_dipped
  pub before : last_answers 7 (answers_at (blank_part part 0) latch_then_byte) ≡ low ∷ low ∷ low ∷ high ∷ high ∷ high ∷ writing ∷ []
  pub stored : (part_at (blank_part part 0) latch_then_byte).array ≡ 0x5A ∷ replicate 4095 0xFF
  pub after : last_answers 7 (answers_at (blank_part part 0) dipped) ≡ high ∷ high ∷ high ∷ high ∷ high ∷ high ∷ high ∷ []
  pub kept : (part_at (blank_part part 0) dipped).array ≡ replicate 4096 0xFF
  pub both : control_at part 0 both_dipped ≡ holds 0 false false

-- Level bytes with WP high (What goes in and what comes out, level bit 2).
abbrev pub wp_high : List ℕ → List ℕ
wp_high [] = []
wp_high (l ∷ ls) = (l + 4) ∷ wp_high ls

-- All of a register write of 63h but the stop's own sample, which is 11: both lines high (Control register, at a stop).
abbrev pub up_to_stop : List ℕ
up_to_stop = addressed 0 0xFFFF ++ sent 0x63 ++ 8 ∷ 9 ∷ []

-- 02h and 06h, then level bytes (Control register, RWEL high).
abbrev pub third_step : List ℕ → List Capture
third_step levels = opening ++ brisk (register_byte 0x02) ∷ brisk (register_byte 0x06) ∷ brisk levels ∷ []

-- The third step with WP high at the stop's sample alone (Control register, WP is read at the stop's sample).
abbrev pub high_at_stop : List Capture
high_at_stop = third_step (up_to_stop ++ 15 ∷ [])

-- The third step with WP high at every sample but the stop's (Control register, WP is read at the stop's sample).
abbrev pub low_at_stop : List Capture
low_at_stop = third_step (wp_high up_to_stop ++ 11 ∷ [])

-- With WPEN (stored 80h) and WP both high the third step changes nothing and RWEL stays; with WP low, or with WPEN low (stored 00h), 63h is
-- taken: its bits 2 and 1 are not stored, RWEL is cleared and the write time is 5,000 (Control register, RWEL high).
pub record S7 (part : ℕ) : Type 0 where
  pub taken : AcceptedAt (blank_part part 0x80) high_at_stop × AcceptedAt (blank_part part 0x80) low_at_stop × AcceptedAt (blank_part part 0) high_at_stop
  pub refuses : control_at part 0x80 high_at_stop ≡ holds 0x80 true true
  pub no_time : (part_at (blank_part part 0x80) high_at_stop).state.timers.write ≡ 0
  pub takes : control_at part 0x80 low_at_stop ≡ holds 0x61 true false
  pub time : (part_at (blank_part part 0x80) low_at_stop).state.timers.write ≡ 5000
  pub unguarded : control_at part 0 high_at_stop ≡ holds 0x61 true false
  pub alike : (part_at (blank_part part 0) high_at_stop).state.timers.write ≡ 5000

-- 06h without 02h before it, and then 63h (Control register, RWEL low).
abbrev pub six_alone : List Capture
six_alone = opening ++ brisk (register_byte 0x06) ∷ brisk (register_byte 0x63) ∷ []

-- 06h sets RWEL only if WEL is set: without it nothing changes, and 63h is no third step (Control register, RWEL low).
pub record S8 (part : ℕ) : Type 0 where
  pub taken : AcceptedAt (blank_part part 0) six_alone
  pub six : control_at part 0 (opening ++ brisk (register_byte 0x06) ∷ []) ≡ holds 0 false false
  pub third : control_at part 0 six_alone ≡ holds 0 false false
  pub time : (part_at (blank_part part 0) six_alone).state.timers.write ≡ 0

-- 02h and 00h, then 5Ah to 000h (Control register, RWEL low).
abbrev pub cleared : List Capture
cleared = opening ++ brisk (register_byte 0x02) ∷ brisk (register_byte 0x00) ∷ byte_to000

-- 02h, 06h and 00h (Control register, RWEL high).
abbrev pub not_cleared : List Capture
not_cleared = opening ++ brisk (register_byte 0x02) ∷ brisk (register_byte 0x06) ∷ brisk (register_byte 0x00) ∷ []

-- 00h clears WEL, so that a data byte after it is not acknowledged and not kept; with RWEL high it changes nothing (Control register).
pub record S9 (part high : ℕ) : Type 0 where
  pub taken : AcceptedAt (blank_part part 0) cleared × AcceptedAt (blank_part part 0) not_cleared
  pub before : control_at part 0 (opening ++ brisk (register_byte 0x02) ∷ []) ≡ holds 0 true false
  pub zero : control_at part 0 (opening ++ brisk (register_byte 0x02) ∷ brisk (register_byte 0x00) ∷ []) ≡ holds 0 false false
  pub answer : last_answers 7 (answers_at (blank_part part 0) cleared) ≡ high ∷ high ∷ high ∷ high ∷ high ∷ high ∷ high ∷ []
  pub kept : (part_at (blank_part part 0) cleared).array ≡ replicate 4096 0xFF
  pub stays : control_at part 0 not_cleared ≡ holds 0 true true
