-- The bench cases of the block lock (document 01, Bench cases, P2 to P4; Control register, the other codes), said of every kind of part
-- where a code locks the same on all, and by part number where it does not.
use Rattle.std.specs.Prelude.{ℕ, ◌<◌, ◌%◌, Bool, true, false, ◌≡◌, set}
use Rattle.lock.specs.Lock.{block_code, locked_of}
use Rattle.page.specs.Page.{at}
use Rattle.ground.specs.Kind.{kind_of}
use Rattle.ground.specs.declared.kinds.Kind.{Kind}
use Rattle.part.specs.declared.state.Phase.TheVariants.{Data}
use Rattle.part.specs.declared.state.Device.{Device}
use Rattle.part.specs.declared.state.Load.{Load}
use Rattle.device.specs.Bytes.{byte_of, kept_of}

-- A part that expects array data at a place, with WEL set (Bytes on the wire, array data).
pub record Expects (place : ℕ) (d : Device) : Type 0 where
  pub phase : d.talk.phase ≡ Data
  pub latch : d.control.wel ≡ true
  pub counter : d.counter ≡ at place

-- The load after a data byte: nothing is kept in a locked place; in any other the byte stands at its place of 64, marked (Bytes on the wire).
abbrev pub load_after : Bool → ℕ → ℕ → Load → Load
load_after true place v l = l
load_after false place v l = record { bytes = set l.bytes (place % 64) v; marks = set l.marks (place % 64) true }

-- A block code locks a place or not: so SDA stays high after a data byte there, or is pulled low, and the byte is not kept, or it is
-- (Bench cases, P2 to P4).
pub record Locks (k : Kind) (code place : ℕ) (locked : Bool) : Type 0 where
  pub extent : (stored : ℕ) → block_code stored ≡ code → locked_of k stored (at place) ≡ locked
  pub answer : (select v : ℕ) (d : Device) → block_code d.control.stored ≡ code → Expects place d
      → (byte_of k select d v).talk.own ≡ locked
  pub load : (v : ℕ) (l : Load) (d : Device) → block_code d.control.stored ≡ code → Expects place d
      → kept_of k d v l ≡ load_after locked place v l

-- Code 4 locks 03Fh, not 040h (Bench cases, P2).
pub record P2 (k : Kind) : Type 0 where
  pub inside : Locks k 4 0x03F true
  pub outside : Locks k 4 0x040 false

-- Code 7 locks 1FFh, not 200h (Bench cases, P3).
pub record P3 (k : Kind) : Type 0 where
  pub inside : Locks k 7 0x1FF true
  pub outside : Locks k 7 0x200 false

-- Code 2 locks nothing of a smaller part (Bench cases, P4).
abbrev pub P4 : ℕ → Type 0
P4 part = (place : ℕ) → Locks (kind_of part) 2 place false

-- Of a larger part code 1 locks from 3000h on and not 2FFFh, code 2 from 2000h on and not 1FFFh, code 3 everything (request 2026-01).
pub record P4Larger (part : ℕ) : Type 0 where
  pub one : Locks (kind_of part) 1 0x3000 true × Locks (kind_of part) 1 0x3FFF true × Locks (kind_of part) 1 0x2FFF false
  pub two : Locks (kind_of part) 2 0x2000 true × Locks (kind_of part) 2 0x3FFF true × Locks (kind_of part) 2 0x1FFF false
  pub three : (place : ℕ) → place < 0x4000 → Locks (kind_of part) 3 place true

-- Which codes a control byte has: bit 0 is BP2, bits 4 and 3 are BP1 and BP0 (Control register, bits 7 to 0).
pub record S10 : Type 0 where
  pub five : block_code 0x09 ≡ 5
  pub six : block_code 0x11 ≡ 6
  pub all : block_code 0xFF ≡ 7
  pub none : block_code 0xE6 ≡ 0

-- Code 5 locks the first two pages, 000h to 07Fh, and not 080h (Control register).
pub record S11 (k : Kind) : Type 0 where
  pub first : Locks k 5 0x000 true
  pub inside : Locks k 5 0x07F true
  pub outside : Locks k 5 0x080 false

-- Code 6 locks the first four pages, 000h to 0FFh, and not 100h (Control register).
pub record S12 (k : Kind) : Type 0 where
  pub first : Locks k 6 0x000 true
  pub inside : Locks k 6 0x0FF true
  pub outside : Locks k 6 0x100 false

-- Code 0 locks nothing of any part (Control register).
pub record S13 (k : Kind) : Type 0 where
  pub zero : (place : ℕ) → Locks k 0 place false

-- Of a smaller part code 1 locks nothing, and code 3 everything (Control register).
pub record S24 (part : ℕ) : Type 0 where
  pub one : (place : ℕ) → Locks (kind_of part) 1 place false
  pub three : (place : ℕ) → place < 0x1000 → Locks (kind_of part) 3 place true
