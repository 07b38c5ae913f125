-- Waveforms of what a host does on the bus: rows of level bytes, WP low and VCC good, for a part of any select; and captures, rows of levels
-- with their times (document 01, What goes in and what comes out; State and time, 4; Bytes on the wire). Pairs in the comments are SCL and SDA.
-- The paper's numbers are written out here, so that a case made of these tests those that the sheet names.
use Rattle.std.specs.Prelude.{ℕ, zero, suc, ◌+◌, ◌*◌, ◌/◌, ◌%◌, ◌^◌, Bool, true, false, List, [], ◌∷◌, ◌++◌, length, take, drop, replicate}
use Rattle.ground.specs.Cases.{or_zero, odd}

-- The level byte of SCL and of SDA from outside, WP low and VCC good (What goes in and what comes out).
abbrev pub level_of : Bool → Bool → ℕ
level_of scl sda = 8 + or_zero sda 2 + or_zero scl 1

-- A start, 11 10 00: SDA falls while SCL is high, then SCL falls (State and time, 4).
abbrev pub start : List ℕ
start = level_of true true ∷ level_of true false ∷ level_of false false ∷ []

-- A repeated start, 01 11 10 00: SDA is let high first, while SCL is low (State and time, 4).
abbrev pub again : List ℕ
again = level_of false true ∷ start

-- A stop, 00 10 11: SDA rises while SCL is high (State and time, 4).
abbrev pub stop : List ℕ
stop = level_of false false ∷ level_of true false ∷ level_of true true ∷ []

-- A bit b, 0b 1b 0b: SCL low with the bit on SDA, SCL high, SCL low (State and time, 4).
abbrev pub clock : Bool → List ℕ
clock b = level_of false b ∷ level_of true b ∷ level_of false b ∷ []

-- The lowest n bits of a number, highest first (Bytes on the wire).
abbrev pub clocks : ℕ → ℕ → List ℕ
clocks zero v = []
clocks (suc n) v = clock (odd (v / 2 ^ n)) ++ clocks n v

-- A byte out of the host; SDA is left high in the ninth clock, where the part may acknowledge (Bytes on the wire).
abbrev pub sent : ℕ → List ℕ
sent v = clocks 8 v ++ clock true

-- Bytes out of the host, one after the other (Bytes on the wire, array data).
abbrev pub all_sent : List ℕ → List ℕ
all_sent [] = []
all_sent (v ∷ vs) = sent v ++ all_sent vs

-- A byte out of the part: SDA is left high, in the ninth clock only after the last byte (Bytes on the wire, read).
abbrev pub read : Bool → List ℕ
read last = clocks 8 0xFF ++ clock last

-- So many bytes out of the part: the host acknowledges all but the last (Bytes on the wire, read).
abbrev pub all_read : ℕ → List ℕ
all_read zero = []
all_read (suc zero) = read true
all_read (suc (suc n)) = read false ++ all_read (suc n)

-- The slave byte 1010, 0, S1, S0, R/W (Bytes on the wire, after a start).
abbrev pub slave_byte : ℕ → Bool → ℕ
slave_byte select reads = 0xA0 + select * 2 + or_zero reads 1

-- A start, the slave byte of a write, address high and address low (Bytes on the wire, write).
abbrev pub addressed : ℕ → ℕ → List ℕ
addressed select a = start ++ sent (slave_byte select false) ++ sent (a / 256) ++ sent (a % 256)

-- A page write: bytes from an address on, then a stop (Bytes on the wire, array data and stop).
abbrev pub page_write : ℕ → ℕ → List ℕ → List ℕ
page_write select a vs = addressed select a ++ all_sent vs ++ stop

-- A register write of one byte (Control register, at a stop after one byte).
abbrev pub register_write : ℕ → ℕ → List ℕ
register_write select v = page_write select 0xFFFF (v ∷ [])

-- A read of so many bytes from an address on (Bytes on the wire, read).
abbrev pub read_from : ℕ → ℕ → ℕ → List ℕ
read_from select a n = addressed select a ++ again ++ sent (slave_byte select true) ++ all_read n ++ stop

-- A current read: so many bytes from the counter on (Bytes on the wire, read).
abbrev pub current_read : ℕ → ℕ → List ℕ
current_read select n = start ++ sent (slave_byte select true) ++ all_read n ++ stop

-- Two rows of equal length: elapsed times and level bytes (What goes in and what comes out).
pub record Capture : Type 0 where
  pub times : List ℕ
  pub levels : List ℕ

-- Captures one after the other.
abbrev pub joined : List Capture → Capture
joined [] = record { times = []; levels = [] }
joined (c ∷ cs) = record { times = c.times ++ (joined cs).times; levels = c.levels ++ (joined cs).levels }

-- The first so many samples of a capture.
abbrev pub up_to : ℕ → Capture → Capture
up_to n c = record { times = take n c.times; levels = take n c.levels }

-- What is left of a capture after so many samples.
abbrev pub after : ℕ → Capture → Capture
after n c = record { times = drop n c.times; levels = drop n c.levels }

-- Level bytes at once and then one microsecond apart.
abbrev pub brisk : List ℕ → Capture
brisk [] = record { times = []; levels = [] }
brisk (l ∷ ls) = record { times = 0 ∷ replicate (length ls) 1; levels = l ∷ ls }

-- Both lines high for so many microseconds (State and time, power-up: bus idle).
abbrev pub wait : ℕ → Capture
wait e = record { times = e ∷ []; levels = level_of true true ∷ [] }

-- The first samples after power-up: VCC good, then the whole hold, so that reset ends (State and time, power-up and 1).
abbrev pub awake : List Capture
awake = wait 0 ∷ wait 100000 ∷ wait 100000 ∷ []
