-- Worked cases of a stop inside a byte (request 2026-02; document 01, Bytes on the wire, stop; Control register, at a stop), said of a part
-- that has just been powered up with select 0 and an array all FFh. Every number is the papers', written out.
use Rattle.std.specs.Prelude.{ℕ, ◌-◌, true, false, List, [], ◌∷◌, ◌++◌, ◌≡◌, replicate}
use Rattle.part.specs.declared.state.State.{State}
use Rattle.waves.specs.Waves.{Capture, brisk, stop, clocks, sent, addressed, page_write}
use Rattle.runs.specs.Bench.{blank_of, part_at, answers_at, AcceptedAt, opening, register_byte, holds, last_answers}

-- 02h, which sets WEL (Control register, RWEL low).
abbrev pub latch_set : List Capture
latch_set = opening ++ brisk (register_byte 0x02) ∷ []

-- Then 11h and 22h to 040h and 041h, so many bits of a third byte, and the stop with its own clock (Bytes on the wire, array data and stop).
abbrev pub page_cut : ℕ → List Capture
page_cut n = latch_set ++ brisk (addressed 0 0x040 ++ sent 0x11 ++ sent 0x22 ++ clocks n 0x7F ++ stop) ∷ []

-- The state of a blank part after captures.
abbrev pub state_after : ℕ → ℕ → List Capture → State
state_after part size cs = (part_at (blank_of part size 0) cs).state

-- So many bits of the third byte cancel both that came before: the array and the register are as 02h left them, no write runs, and only the
-- counter has moved; `calm` is the answer byte with no write running (request 2026-02).
pub record PageCut (part size calm n : ℕ) : Type 0 where
  pub taken : AcceptedAt (blank_of part size 0) (page_cut n)
  pub array : (part_at (blank_of part size 0) (page_cut n)).array ≡ replicate size 0xFF
  pub answer : last_answers 1 (answers_at (blank_of part size 0) (page_cut n)) ≡ calm ∷ []
  pub time : (state_after part size (page_cut n)).timers.write ≡ 0
  pub register : (state_after part size (page_cut n)).device.control ≡ holds 0 true false
  pub counter : (state_after part size (page_cut n)).device.counter.0 ≡ 0x042

-- Then 33h to 040h: the part is idle after the cut, WEL still set (Bytes on the wire, any stop; request 2026-02).
abbrev pub cut_then_write : List Capture
cut_then_write = page_cut 3 ++ brisk (page_write 0 0x040 (0x33 ∷ [])) ∷ []

-- A page write cut after one, three and seven bits; without them the stop's own clock is the only one since the acknowledge, and both bytes
-- are written; a write after a cut one is done. `writing` is the answer byte while a write runs (request 2026-02; Bytes on the wire, stop).
pub record S29 (part size calm writing : ℕ) : Type 0 where
  pub one : PageCut part size calm 1
  pub three : PageCut part size calm 3
  pub seven : PageCut part size calm 7
  pub taken : AcceptedAt (blank_of part size 0) (page_cut 0) × AcceptedAt (blank_of part size 0) cut_then_write
  pub both : (part_at (blank_of part size 0) (page_cut 0)).array ≡ replicate 64 0xFF ++ 0x11 ∷ 0x22 ∷ replicate (size - 66) 0xFF
  pub answer : last_answers 1 (answers_at (blank_of part size 0) (page_cut 0)) ≡ writing ∷ []
  pub time : (state_after part size (page_cut 0)).timers.write ≡ 5000
  pub later : (part_at (blank_of part size 0) cut_then_write).array ≡ replicate 64 0xFF ++ 0x33 ∷ replicate (size - 65) 0xFF

-- 02h to the register, so many bits of another byte, and the stop (Control register, at a stop after one byte).
abbrev pub latch_cut : ℕ → List Capture
latch_cut n = opening ++ brisk (addressed 0 0xFFFF ++ sent 0x02 ++ clocks n 0x7F ++ stop) ∷ []

-- 02h and 06h (Control register, RWEL low).
abbrev pub both_set : List Capture
both_set = latch_set ++ brisk (register_byte 0x06) ∷ []

-- Then 63h, so many bits of another byte, and the stop (Control register, RWEL high).
abbrev pub third_cut : ℕ → List Capture
third_cut n = both_set ++ brisk (addressed 0 0xFFFF ++ sent 0x63 ++ clocks n 0x7F ++ stop) ∷ []

-- 02h and one bit set no WEL, 02h alone does. 63h and one bit as the third step change nothing, RWEL staying, and no write runs; alone it is
-- taken (request 2026-02; Control register).
pub record S30 (part size : ℕ) : Type 0 where
  pub taken : AcceptedAt (blank_of part size 0) (latch_cut 1) × AcceptedAt (blank_of part size 0) (latch_cut 0)
  pub accepted : AcceptedAt (blank_of part size 0) (third_cut 1) × AcceptedAt (blank_of part size 0) (third_cut 0)
  pub first : (state_after part size (latch_cut 1)).device.control ≡ holds 0 false false
  pub alone : (state_after part size (latch_cut 0)).device.control ≡ holds 0 true false
  pub third : (state_after part size (third_cut 1)).device.control ≡ holds 0 true true
  pub no_time : (state_after part size (third_cut 1)).timers.write ≡ 0
  pub takes : (state_after part size (third_cut 0)).device.control ≡ holds 0x61 true false
  pub time : (state_after part size (third_cut 0)).timers.write ≡ 5000
