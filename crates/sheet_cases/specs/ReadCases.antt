-- Worked cases of addresses and reads (document 01, Bytes on the wire), said of a part that has just been powered up with select 0. Every
-- number is the paper's, written out.
use Rattle.std.specs.Prelude.{ℕ, ◌-◌, false, List, [], ◌∷◌, ◌++◌, ◌≡◌, replicate}
use Rattle.page.specs.Page.{at}
use Rattle.sample.specs.Run.{Part}
use Rattle.waves.specs.Waves.{Capture, brisk, page_write, read_from}
use Rattle.runs.specs.Bench.{holding, blank_of, blank_part, part_at, answers_at, AcceptedAt, opening, register_byte, last_answers, sda_bits, clocked_bits}

-- 02h to the register, then 5Ah to an address (Bytes on the wire, write).
abbrev pub written : ℕ → List Capture
written address = opening ++ brisk (register_byte 0x02) ∷ brisk (page_write 0 address (0x5A ∷ [])) ∷ []

-- 02h to the address 0FFFh (Bytes on the wire, write).
abbrev pub latchless : List Capture
latchless = opening ++ brisk (page_write 0 0x0FFF (0x02 ∷ [])) ∷ []

-- An array whose last byte alone is 5Ah (The part on our bench).
abbrev pub last_written : List ℕ
last_written = replicate 4095 0xFF ++ 0x5A ∷ []

-- 0FFFh is the array's last place, and so is 1FFFh by its low 12 bits; 02h sent there sets no latch (Bytes on the wire, write).
pub record S1 (part : ℕ) : Type 0 where
  pub taken : AcceptedAt (blank_part part 0) (written 0x0FFF) × AcceptedAt (blank_part part 0) (written 0x1FFF) × AcceptedAt (blank_part part 0) latchless
  pub last : (part_at (blank_part part 0) (written 0x0FFF)).array ≡ last_written
  pub beyond : (part_at (blank_part part 0) (written 0x1FFF)).array ≡ last_written
  pub latch : (part_at (blank_part part 0) latchless).state.device.control.wel ≡ false

-- A part with 11h at 000h, A5h at 03Fh, 3Ch at 040h and 96h at FFFh, all else FFh (The part on our bench).
abbrev pub four_bytes : ℕ → Part
four_bytes part = holding part 0 ((0x11 ∷ replicate 62 0xFF) ++ (0xA5 ∷ 0x3C ∷ replicate 4030 0xFF) ++ 0x96 ∷ [])

-- Two bytes read from an address on (Bytes on the wire, read).
abbrev pub two_from : ℕ → List Capture
two_from address = opening ++ brisk (read_from 0 address 2) ∷ []

-- Each bit at three samples: the fall that puts it out, then SCL low and high before the next fall.
abbrev pub thrice : List ℕ → List ℕ
thrice [] = []
thrice (b ∷ bs) = b ∷ b ∷ b ∷ thrice bs

-- A5h, then a 1 from its eighth fall to its ninth, where SDA is released; the same of 3Ch (Bytes on the wire, read).
abbrev pub page_end : List ℕ
page_end =
    thrice (1 ∷ 0 ∷ 1 ∷ 0 ∷ 0 ∷ 1 ∷ 0 ∷ 1 ∷ [])
    ++ thrice (1 ∷ [])
    ++ thrice (0 ∷ 0 ∷ 1 ∷ 1 ∷ 1 ∷ 1 ∷ 0 ∷ 0 ∷ [])
    ++ thrice (1 ∷ [])

-- A read from 03Fh goes on at 040h, in the next page. SDA at each sample from the ninth fall of the slave byte on; after the high ninth
-- bit the part is silent: SDA is high at that fall and at the three samples of the stop (Bytes on the wire, read).
pub record S2 (part : ℕ) : Type 0 where
  pub taken : AcceptedAt (four_bytes part) (two_from 0x03F)
  pub line : sda_bits (last_answers 58 (answers_at (four_bytes part) (two_from 0x03F))) ≡ page_end ++ 1 ∷ 1 ∷ 1 ∷ 1 ∷ []
  pub counter : (part_at (four_bytes part) (two_from 0x03F)).state.device.counter ≡ at 0x041

-- A read from FFFh goes on at 000h: 96h, the host's acknowledge, 11h, none, and the stop's clock (Bytes on the wire, read: 4095 to 0).
pub record S3 (part : ℕ) : Type 0 where
  pub taken : AcceptedAt (four_bytes part) (two_from 0xFFF)
  pub line : clocked_bits (last_answers 57 (answers_at (four_bytes part) (two_from 0xFFF)))
      ≡ 1 ∷ 0 ∷ 0 ∷ 1 ∷ 0 ∷ 1 ∷ 1 ∷ 0 ∷ 1 ∷ 0 ∷ 0 ∷ 0 ∷ 1 ∷ 0 ∷ 0 ∷ 0 ∷ 1 ∷ 1 ∷ 1 ∷ []
  pub counter : (part_at (four_bytes part) (two_from 0xFFF)).state.device.counter ≡ at 0x001

-- An array of 16,384 bytes, all FFh but for 5Ah at a place (request 2026-01).
abbrev pub far_written : ℕ → List ℕ
far_written place = replicate place 0xFF ++ 0x5A ∷ replicate (0x3FFF - place) 0xFF

-- Of a larger part 0FFFh and 1FFFh are two places, 3FFFh is the last, and so is 7FFFh by its low 14 bits; 02h sent to 0FFFh sets no latch
-- (Bytes on the wire, write; request 2026-01).
pub record S25 (part : ℕ) : Type 0 where
  pub taken : AcceptedAt (blank_of part 16384 0) (written 0x0FFF) × AcceptedAt (blank_of part 16384 0) (written 0x1FFF)
  pub accepted : AcceptedAt (blank_of part 16384 0) (written 0x3FFF) × AcceptedAt (blank_of part 16384 0) (written 0x7FFF) × AcceptedAt (blank_of part 16384 0) latchless
  pub first : (part_at (blank_of part 16384 0) (written 0x0FFF)).array ≡ far_written 0x0FFF
  pub second : (part_at (blank_of part 16384 0) (written 0x1FFF)).array ≡ far_written 0x1FFF
  pub last : (part_at (blank_of part 16384 0) (written 0x3FFF)).array ≡ far_written 0x3FFF
  pub beyond : (part_at (blank_of part 16384 0) (written 0x7FFF)).array ≡ far_written 0x3FFF
  pub latch : (part_at (blank_of part 16384 0) latchless).state.device.control.wel ≡ false

-- A part with 11h at 0000h, A5h at 0FFFh, 3Ch at 1000h and 96h at 3FFFh, all else FFh (request 2026-01).
abbrev pub four_far : ℕ → Part
four_far part = holding part 0 ((0x11 ∷ replicate 4094 0xFF) ++ (0xA5 ∷ 0x3C ∷ replicate 12286 0xFF) ++ 0x96 ∷ [])

-- Of a larger part a read from 0FFFh goes on at 1000h, and one from 3FFFh at 0000h (Bytes on the wire, read; request 2026-01).
pub record S26 (part : ℕ) : Type 0 where
  pub taken : AcceptedAt (four_far part) (two_from 0x0FFF) × AcceptedAt (four_far part) (two_from 0x3FFF)
  pub on : clocked_bits (last_answers 57 (answers_at (four_far part) (two_from 0x0FFF)))
      ≡ 1 ∷ 0 ∷ 1 ∷ 0 ∷ 0 ∷ 1 ∷ 0 ∷ 1 ∷ 1 ∷ 0 ∷ 0 ∷ 1 ∷ 1 ∷ 1 ∷ 1 ∷ 0 ∷ 0 ∷ 1 ∷ 1 ∷ []
  pub around : clocked_bits (last_answers 57 (answers_at (four_far part) (two_from 0x3FFF)))
      ≡ 1 ∷ 0 ∷ 0 ∷ 1 ∷ 0 ∷ 1 ∷ 1 ∷ 0 ∷ 1 ∷ 0 ∷ 0 ∷ 0 ∷ 1 ∷ 0 ∷ 0 ∷ 0 ∷ 1 ∷ 1 ∷ 1 ∷ []
  pub counter : (part_at (four_far part) (two_from 0x3FFF)).state.device.counter ≡ at 0x0001
