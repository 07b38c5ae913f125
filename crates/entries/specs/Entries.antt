-- What can be said of a sample, entry by entry, and entries as numbers in a row (document 01, State and time; Bytes on the wire; request
-- 2026-02). Parts that keep to their bits are read back from a number as they were (proofs/Parts), and those of an accepted capture and of a
-- part on our bench do (withheld/proofs/Pages, narrow-told); of a byte that is not heard it does not tell idle from silent.
use Rattle.std.specs.Prelude.{ℕ, ◌+◌, ◌*◌, ◌%◌, ◌≤◌, Bool, true, false, List, [], ◌∷◌, map, ◌≡◌, length, Option, Some, None}
use Rattle.std.proofs.lemmas.List.Edits.{sets}
use Rattle.ground.specs.Cases.{or_zero}
use Rattle.ground.specs.Numbers.{byte_values}
use Rattle.part.specs.declared.state.Phase.{Phase}
use Rattle.part.specs.declared.state.Phase.TheVariants.{Idle, Silent, Slave, High, Low, Data, Register, Send, SendRegister}
use Rattle.withheld.specs.declared.Why.{Why}
use Rattle.withheld.specs.declared.Why.TheVariants.{WelLow, PageLocked, SecondByte}
use Rattle.entries.specs.declared.Entry.{Entry}
use Rattle.entries.specs.declared.Entry.TheVariants.{Start, Stop, Byte, Ninth, CycleBegins, CycleEnds, ResetBegins, ResetEnds}

-- What is said where something began or ended, by whether it was and is (State and time, 1 and 2; Bytes on the wire, stop).
abbrev pub edge_by : Bool → Bool → Entry → Entry → Option Entry
edge_by true true begins ends = None
edge_by true false begins ends = Some ends
edge_by false true begins ends = Some begins
edge_by false false begins ends = None

-- What is said as a list: nothing, or one entry.
abbrev pub told_of : Option Entry → List Entry
told_of None = []
told_of (Some x) = x ∷ []

-- An entry with the place of its sample (Refusal numbers, place: sample).
pub record Placed : Type 0 where
  pub place : ℕ
  pub entry : Entry

-- The entries of one sample at its place.
abbrev pub placed_at : ℕ → List Entry → List Placed
placed_at place xs = map (λ (x : Entry). record { place = place; entry = x }) xs

-- The role of a byte by the phase that it met; idle and silent hear none (Bytes on the wire).
abbrev pub role_of : Phase → ℕ
role_of Slave = 2
role_of High = 3
role_of Low = 4
role_of Data = 5
role_of Register = 6
role_of Send = 7
role_of SendRegister = 8
role_of Idle = 9
role_of Silent = 9

-- What each entry is, as a number.
abbrev pub tag_of : Entry → ℕ
tag_of (Start n) = 0
tag_of (Stop n cut load register) = 1
tag_of (Byte p v w) = role_of p
tag_of (Ninth b own) = 10
tag_of CycleBegins = 11
tag_of CycleEnds = 12
tag_of ResetBegins = 13
tag_of ResetEnds = 14

-- What an entry holds beside that: the bits cut off, the byte, the ninth bit on the line and the part's own level (1 and 2).
abbrev pub entry_value : Entry → ℕ
entry_value (Start n) = n
entry_value (Stop n cut load register) = n
entry_value (Byte p v w) = v
entry_value (Ninth b own) = or_zero b 1 + or_zero own 2
entry_value CycleBegins = 0
entry_value CycleEnds = 0
entry_value ResetBegins = 0
entry_value ResetEnds = 0

-- A reason as a number, a locked page with its block code, which is below 8 (Control register, BP2 BP1 BP0).
abbrev pub reason_note : Option Why → ℕ
reason_note None = 0
reason_note (Some WelLow) = 1
reason_note (Some SecondByte) = 2
reason_note (Some (PageLocked code first last)) = 8 + code % 8

-- The pages that a reason tells, the first lowest; no part has more than 256 (The part on our bench; request 2026-01).
abbrev pub pages_told : Option Why → ℕ
pages_told None = 0
pages_told (Some WelLow) = 0
pages_told (Some SecondByte) = 0
pages_told (Some (PageLocked code first last)) = last % byte_values * byte_values + first % byte_values

-- What else a stop or a byte says: that it cuts a byte off, drops a load, drops a register byte (1, 2 and 4); why no acknowledge comes.
abbrev pub note_of : Entry → ℕ
note_of (Start n) = 0
note_of (Stop n cut load register) = or_zero cut 1 + or_zero load 2 + or_zero register 4
note_of (Byte p v w) = reason_note w
note_of (Ninth b own) = 0
note_of CycleBegins = 0
note_of CycleEnds = 0
note_of ResetBegins = 0
note_of ResetEnds = 0

-- The pages of an entry's reason.
abbrev pub pages_of : Entry → ℕ
pages_of (Start n) = 0
pages_of (Stop n cut load register) = 0
pages_of (Byte p v w) = pages_told w
pages_of (Ninth b own) = 0
pages_of CycleBegins = 0
pages_of CycleEnds = 0
pages_of ResetBegins = 0
pages_of ResetEnds = 0

-- What the tag counts in, above eight bits of value.
abbrev pub tag_unit : ℕ
tag_unit = 0x100

-- What the note counts in, above eight bits of tag.
abbrev pub note_unit : ℕ
note_unit = 0x1_0000

-- What the pages count in, above eight bits of note.
abbrev pub pages_unit : ℕ
pages_unit = 0x100_0000

-- What the place counts in, above sixteen bits of pages.
abbrev pub place_unit : ℕ
place_unit = 0x100_0000_0000

-- How many places a number can tell, far over the samples of an accepted capture (Refusal numbers, 7).
abbrev pub places_told : ℕ
places_told = 0x100_0000

-- Place, pages, note, tag and value as one number of 64 bits.
abbrev pub packed_of : ℕ → ℕ → ℕ → ℕ → ℕ → ℕ
packed_of place pages note tag value = place % places_told * place_unit + pages * pages_unit + note * note_unit + tag * tag_unit + value

-- An entry and its place as one number.
unfoldable pub number_of : Placed → ℕ
number_of x = packed_of x.place (pages_of x.entry) (note_of x.entry) (tag_of x.entry) (entry_value x.entry)

-- A list's numbers laid over a row from a place on, as far as it has room.
abbrev pub laid_from : ℕ → List Placed → List ℕ → List ℕ
laid_from at xs row = sets row at (map number_of xs)

-- Between inner functions: entries of one sample laid over a row from a place on, at most so many, and where they end.
pub record Says (most place : ℕ) (xs : List Entry) (at : ℕ) (row : List ℕ) (r : ℕ) (row' : List ℕ) : Type 0 where
  pub laid : row' ≡ laid_from at (placed_at place xs) row
  pub next : r ≡ at + length xs
  pub few : length xs ≤ most
