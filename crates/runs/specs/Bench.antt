-- What the bench cases are said of: a part that has just been powered up, with select 0, and what it answers and holds after captures. The
-- paper's numbers are written out here and in the cases and are not those that the sheet names, so that a case tests the sheet (document 01,
-- Bench cases).
use Rattle.std.specs.Prelude.{ℕ, ◌-◌, ◌%◌, Bool, false, List, [], ◌∷◌, length, drop, replicate}
use Rattle.part.specs.declared.state.Control.{Control}
use Rattle.power.specs.Power.{at_power}
use Rattle.sample.specs.Run.{Part}
use Rattle.waves.specs.Waves.{Capture, joined, wait, page_write}
use Rattle.runs.specs.Runs.{after_capture, answers_to, Taken}

-- A part at power-up, with select 0, a stored byte and an array (State and time, power-up).
abbrev pub holding : ℕ → ℕ → List ℕ → Part
holding part stored array = at_power part 0 stored array

-- The same with an array of so many bytes, all FFh (The part on our bench; request 2026-01).
abbrev pub blank_of : ℕ → ℕ → ℕ → Part
blank_of part size stored = holding part stored (replicate size 0xFF)

-- The same of 4,096 bytes (The part on our bench).
abbrev pub blank_part : ℕ → ℕ → Part
blank_part part stored = blank_of part 4096 stored

-- A part after captures, one after the other (State and time, each sample).
abbrev pub part_at : Part → List Capture → Part
part_at p cs = after_capture (joined cs) p

-- Its answers, a byte for each sample (What goes in and what comes out).
abbrev pub answers_at : Part → List Capture → List ℕ
answers_at p cs = answers_to (joined cs) p

-- A replay takes the captures (Refusal numbers, 4 to 10).
abbrev pub AcceptedAt : Part → List Capture → Type 0
AcceptedAt p cs = Taken (joined cs) p

-- The first good-VCC sample and then 200,000 microseconds, so that reset ends (State and time, power-up and 1).
abbrev pub opening : List Capture
opening = wait 0 ∷ wait 100000 ∷ wait 100000 ∷ []

-- A register write of one byte, at the address FFFFh (Bytes on the wire, write; Control register, at a stop after one byte).
abbrev pub register_byte : ℕ → List ℕ
register_byte v = page_write 0 0xFFFF (v ∷ [])

-- The register with a stored byte and the latches WEL and RWEL, not chosen and nothing pending (Control register).
abbrev pub holds : ℕ → Bool → Bool → Control
holds stored wel rwel = record { stored = stored; wel = wel; rwel = rwel; chosen = false; pending = false; value = 0 }

-- The last so many answers of a row.
abbrev pub last_answers : ℕ → List ℕ → List ℕ
last_answers n row = drop (length row - n) row

-- The SDA bit of each answer (What goes in and what comes out, answer bit 0).
abbrev pub sda_bits : List ℕ → List ℕ
sda_bits [] = []
sda_bits (a ∷ row) = a % 2 ∷ sda_bits row

-- The SDA bit of each answer in the middle of three, where SCL is high.
abbrev pub clocked_bits : List ℕ → List ℕ
clocked_bits (a ∷ b ∷ c ∷ row) = b % 2 ∷ clocked_bits row
clocked_bits [] = []
clocked_bits (a ∷ []) = []
clocked_bits (a ∷ b ∷ []) = []
