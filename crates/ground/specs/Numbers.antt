-- The numbers of document 01 and of its requests that rules share, each named once; refusal numbers and control bytes stand in their tables,
-- a number of one rule beside it.
use Rattle.std.specs.Prelude.{ℕ}

-- Microseconds that a nonvolatile write takes (Bytes on the wire, stop; Control register, RWEL high).
abbrev pub write_time : ℕ
write_time = 5000

-- Microseconds that reset is held (State and time, power-up and rules 1 and 2).
abbrev pub reset_hold : ℕ
reset_hold = 200000

-- The longest watchdog period, that of WD 00 (State and time, ranges and every start).
abbrev pub long_watch : ℕ
long_watch = 1400000

-- The watchdog period of WD 01 (State and time, every start).
abbrev pub middle_watch : ℕ
middle_watch = 600000

-- The watchdog period of WD 10 (State and time, every start).
abbrev pub short_watch : ℕ
short_watch = 200000

-- Bytes in a page (State and time, the page load).
abbrev pub page_size : ℕ
page_size = 64

-- The part number of the X4323 (Refusal numbers, 1).
abbrev pub x4323 : ℕ
x4323 = 4323

-- The part number of the X4325 (Refusal numbers, 1).
abbrev pub x4325 : ℕ
x4325 = 4325

-- The part number of the X4283 (Refusal numbers, 1; request 2026-01).
abbrev pub x4283 : ℕ
x4283 = 4283

-- The part number of the X4285 (Refusal numbers, 1; request 2026-01).
abbrev pub x4285 : ℕ
x4285 = 4285

-- The array's size of an X4323 and an X4325 (The part on our bench).
abbrev pub small_size : ℕ
small_size = 4096

-- The array's size of an X4283 and an X4285 (request 2026-01).
abbrev pub large_size : ℕ
large_size = 16384

-- Where block code 1 begins to lock, on a part on which it does (Control register; request 2026-01).
abbrev pub from_code_one : ℕ
from_code_one = 0x3000

-- Where block code 2 begins to lock, on a part on which it does (Control register; request 2026-01).
abbrev pub from_code_two : ℕ
from_code_two = 0x2000

-- The largest device select (Refusal numbers, 2; State and time, ranges).
abbrev pub most_select : ℕ
most_select = 3

-- The most committed bits of a byte (State and time, ranges).
abbrev pub most_bits : ℕ
most_bits = 8

-- The longest elapsed time of a sample (Refusal numbers, 9).
abbrev pub most_elapsed : ℕ
most_elapsed = 100000

-- The largest level byte (Refusal numbers, 10).
abbrev pub most_level : ℕ
most_level = 15

-- The most samples of a capture (Refusal numbers, 7).
abbrev pub most_samples : ℕ
most_samples = 65536

-- The five bits 1010 0 that a slave byte begins with (Bytes on the wire, after a start).
abbrev pub slave_code : ℕ
slave_code = 20

-- How many values a byte has.
abbrev pub byte_values : ℕ
byte_values = 256

-- The bus address that chooses the control register (Bytes on the wire, write).
abbrev pub register_address : ℕ
register_address = 65535
