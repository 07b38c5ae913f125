-- Worked cases of reset and of a running write (document 01, State and time, 1 to 4), said of a part that has just been powered up with
-- select 0. Every number is the paper's, written out.
use Rattle.std.specs.Prelude.{ℕ, true, List, [], ◌∷◌, ◌++◌, ◌≡◌, replicate}
use Rattle.waves.specs.Waves.{Capture, brisk, wait, start, again, stop, sent, addressed, page_write, current_read}
use Rattle.runs.specs.Bench.{holding, blank_part, part_at, answers_at, AcceptedAt, opening, register_byte, last_answers, clocked_bits}

-- A low-VCC sample with both lines high, so many microseconds after the sample before (State and time, 2).
abbrev pub low_after : ℕ → Capture
low_after e = record { times = e ∷ []; levels = 3 ∷ [] }

-- Low VCC for 100,000 after the end of reset, then good VCC: its first sample, 100,000 + 99,999, and 1 more (State and time, 1 and 2).
abbrev pub low_vcc : List Capture
low_vcc = opening ++ low_after 1 ∷ low_after 100000 ∷ wait 100000 ∷ wait 100000 ∷ wait 99999 ∷ wait 1 ∷ []

-- Low VCC in the middle of the hold, then the same (State and time, 1 and 2).
abbrev pub cut_short : List Capture
cut_short = wait 0 ∷ wait 100000 ∷ low_after 1 ∷ wait 0 ∷ wait 100000 ∷ wait 99999 ∷ wait 1 ∷ []

-- Low VCC makes reset active with the whole hold of 200,000, whatever was left of it; `on` is the answer byte with reset active, `idle`
-- without (State and time, 2).
pub record S15 (part on idle : ℕ) : Type 0 where
  pub taken : AcceptedAt (blank_part part 0) low_vcc × AcceptedAt (blank_part part 0) cut_short
  pub anew : answers_at (blank_part part 0) low_vcc ≡ on ∷ on ∷ idle ∷ on ∷ on ∷ on ∷ on ∷ on ∷ idle ∷ []
  pub whole : answers_at (blank_part part 0) cut_short ≡ on ∷ on ∷ on ∷ on ∷ on ∷ on ∷ idle ∷ []

-- 02h, then 5Ah to 000h (Bytes on the wire, stop).
abbrev pub stored000 : List Capture
stored000 = opening ++ brisk (register_byte 0x02) ∷ brisk (page_write 0 0x000 (0x5A ∷ [])) ∷ []

-- Low VCC 1 microsecond after the stop, then 4,998 and 1 more (State and time, 3).
abbrev pub goes_on : List Capture
goes_on = stored000 ++ low_after 1 ∷ wait 4998 ∷ wait 1 ∷ []

-- A write under way goes on while reset is active: it ends at 5,000. `writing` is the answer byte after the stop, `both` while reset is active
-- too, `on` with reset active alone (State and time, 3).
pub record S16 (part writing both on : ℕ) : Type 0 where
  pub taken : AcceptedAt (blank_part part 0) goes_on
  pub last : last_answers 4 (answers_at (blank_part part 0) goes_on) ≡ writing ∷ both ∷ both ∷ on ∷ []
  pub array : (part_at (blank_part part 0) goes_on).array ≡ 0x5A ∷ replicate 4095 0xFF

-- A start and A0h while writing (State and time, a start while writing).
abbrev pub while_writing : List Capture
while_writing = stored000 ++ brisk (start ++ sent 0xA0) ∷ []

-- Then 5,000 with SCL low, in which no bit is taken, and A0h with no start (State and time, a start while writing).
abbrev pub after_writing : List Capture
after_writing = while_writing ++ record { times = 5000 ∷ []; levels = 10 ∷ [] } ∷ brisk (sent 0xA0) ∷ []

-- Then another start and A0h (State and time, a start while writing).
abbrev pub another_start : List Capture
another_start = after_writing ++ brisk (again ++ sent 0xA0) ∷ []

-- After a start while writing the part hears nothing, also when the write is over, until another start: the answers from the eighth fall of
-- A0h to its ninth (State and time, a start while writing).
pub record S17 : Type 0 where
  pub taken : AcceptedAt (blank_part 4323 0) another_start
  pub deaf : last_answers 4 (answers_at (blank_part 4323 0) while_writing) ≡ 7 ∷ 7 ∷ 7 ∷ 7 ∷ []
  pub still : last_answers 4 (answers_at (blank_part 4323 0) after_writing) ≡ 3 ∷ 3 ∷ 3 ∷ 3 ∷ []
  pub hears : last_answers 4 (answers_at (blank_part 4323 0) another_start) ≡ 2 ∷ 2 ∷ 2 ∷ 3 ∷ []

-- 400,000 microseconds: the watchdog of 200,000 runs out, and its reset ends (State and time, 1).
abbrev pub bites : List Capture
bites = replicate 4 (wait 100000)

-- 02h, a data byte 5Ah to 000h with no stop, the watchdog's reset, then the clocks of 77h and a stop (State and time, 3).
abbrev pub cut_off : List Capture
cut_off =
    opening
    ++ brisk (register_byte 0x02)
    ∷ brisk (addressed 0 0x000 ++ sent 0x5A)
    ∷ (bites ++ brisk (sent 0x77 ++ stop) ∷ [])

-- The address FFFFh, the watchdog's reset, and a read of one byte from the counter (State and time, 3).
abbrev pub chosen_off : List Capture
chosen_off = opening ++ brisk (addressed 0 0xFFFF) ∷ (bites ++ brisk (current_read 0 1) ∷ [])

-- Reset ends talk: the load is dropped, 77h is not acknowledged, and the array stays; a watchdog's reset leaves WEL. The register choice
-- is dropped: the byte read is A5h of 000h (State and time, 3).
pub record S18 : Type 0 where
  pub taken : AcceptedAt (blank_part 4323 0x40) cut_off × AcceptedAt (holding 4323 0x40 (0xA5 ∷ replicate 4095 0xFF)) chosen_off
  pub answer : last_answers 7 (answers_at (blank_part 4323 0x40) cut_off) ≡ 3 ∷ 3 ∷ 3 ∷ 3 ∷ 3 ∷ 3 ∷ 3 ∷ []
  pub array : (part_at (blank_part 4323 0x40) cut_off).array ≡ replicate 4096 0xFF
  pub latch : (part_at (blank_part 4323 0x40) cut_off).state.device.control.wel ≡ true
  pub choice : clocked_bits (last_answers 30 (answers_at (holding 4323 0x40 (0xA5 ∷ replicate 4095 0xFF)) chosen_off))
      ≡ 1 ∷ 0 ∷ 1 ∷ 0 ∷ 0 ∷ 1 ∷ 0 ∷ 1 ∷ 1 ∷ 1 ∷ []
