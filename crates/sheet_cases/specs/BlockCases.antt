-- Worked cases of the block lock on the bus (document 01, Control register; Bytes on the wire, array data), said of an X4323 or an X4283
-- that has just been powered up with select 0, a stored byte and an array all FFh. Every number is the paper's, written out.
use Rattle.std.specs.Prelude.{ℕ, ◌-◌, [], ◌∷◌, ◌++◌, ◌≡◌, replicate}
use Rattle.page.specs.Page.{at}
use Rattle.sheet_cases.specs.ReadCases.{written}
use Rattle.runs.specs.Bench.{blank_of, part_at, answers_at, AcceptedAt, last_answers}

-- 5Ah sent to a locked place after 02h: SDA stays high, no write time runs, the array stays and so does the counter (Bytes on the wire,
-- array data).
pub record Refused (part size stored place : ℕ) : Type 0 where
  pub taken : AcceptedAt (blank_of part size stored) (written place)
  pub answer : last_answers 7 (answers_at (blank_of part size stored) (written place)) ≡ 3 ∷ 3 ∷ 3 ∷ 3 ∷ 3 ∷ 3 ∷ 3 ∷ []
  pub array : (part_at (blank_of part size stored) (written place)).array ≡ replicate size 0xFF
  pub counter : (part_at (blank_of part size stored) (written place)).state.device.counter ≡ at place

-- 5Ah sent to any other place: SDA is low from the eighth fall to the ninth, the write time runs from the stop on, and the byte is there.
pub record Stored (part size stored place : ℕ) : Type 0 where
  pub taken : AcceptedAt (blank_of part size stored) (written place)
  pub answer : last_answers 7 (answers_at (blank_of part size stored) (written place)) ≡ 2 ∷ 2 ∷ 2 ∷ 3 ∷ 3 ∷ 3 ∷ 7 ∷ []
  pub array : (part_at (blank_of part size stored) (written place)).array ≡ replicate place 0xFF ++ 0x5A ∷ replicate (size - 1 - place) 0xFF

-- BP1, BP0 and BP2 are bits 4, 3 and 0 of the stored byte: 10h has code 2, 18h code 3, 01h, 09h, 11h and 19h codes 4 to 7. They lock
-- nothing, everything, and the first 1, 2, 4 and 8 pages of 64 bytes (Control register).
pub record S14 : Type 0 where
  pub two : Stored 4323 4096 0x10 0x000
  pub three : Refused 4323 4096 0x18 0x000 × Refused 4323 4096 0x18 0xFFF
  pub four : Refused 4323 4096 0x01 0x03F × Stored 4323 4096 0x01 0x040
  pub five : Refused 4323 4096 0x09 0x07F × Stored 4323 4096 0x09 0x080
  pub six : Refused 4323 4096 0x11 0x0FF × Stored 4323 4096 0x11 0x100
  pub seven : Refused 4323 4096 0x19 0x1FF × Stored 4323 4096 0x19 0x200

-- 08h has code 1. Codes 1 and 2 lock from 3000h and from 2000h on of a larger part, and no quarter or half of a smaller one; code 3 locks the
-- larger part's last place too (Control register; request 2026-01).
pub record S27 : Type 0 where
  pub one : Refused 4283 16384 0x08 0x3000 × Stored 4283 16384 0x08 0x2FFF
  pub two : Refused 4283 16384 0x10 0x2000 × Stored 4283 16384 0x10 0x1FFF
  pub three : Refused 4283 16384 0x18 0x3FFF
  pub smaller : Stored 4323 4096 0x08 0xC00 × Stored 4323 4096 0x10 0x800
