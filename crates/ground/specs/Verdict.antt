-- The paper's answers (document 01, What goes in and what comes out; Refusal numbers).
use Rattle.std.specs.Prelude.{ℕ, Result, Ok, Err}
use Rattle.ground.specs.declared.Reason.{Reason}
use Rattle.ground.specs.declared.Reason.TheVariants.{PartUnknown, SelectTooHigh, StoredHasLatch, StateOutOfRange, ArrayLength, RowLengths, TooManySamples, AnswerLength, TimeTooLong, LevelTooHigh, TextTooLong, LineMalformed, ChecksumWrong, RecordType, BeyondArray, GivenTwice, EndMissing, BytesAfterEnd, RoomTooSmall, DumpMalformed, WiresWrong, TimeNotAbove, ValueUnfit}
use Rattle.ground.specs.declared.Refusal.{Refusal}

-- Acceptance with a count, or a refusal number with its place (What goes in and what comes out).
pub data Verdict : Type 0 where
  accepted : ℕ → Verdict
  refused : ℕ → ℕ → Verdict

-- The number of each reason (Refusal numbers, 1 to 23).
abbrev pub number_of : Reason → ℕ
number_of PartUnknown = 1
number_of SelectTooHigh = 2
number_of StoredHasLatch = 3
number_of StateOutOfRange = 4
number_of ArrayLength = 5
number_of RowLengths = 6
number_of TooManySamples = 7
number_of AnswerLength = 8
number_of TimeTooLong = 9
number_of LevelTooHigh = 10
number_of TextTooLong = 11
number_of LineMalformed = 12
number_of ChecksumWrong = 13
number_of RecordType = 14
number_of BeyondArray = 15
number_of GivenTwice = 16
number_of EndMissing = 17
number_of BytesAfterEnd = 18
number_of RoomTooSmall = 19
number_of DumpMalformed = 20
number_of WiresWrong = 21
number_of TimeNotAbove = 22
number_of ValueUnfit = 23

-- What each case of a reply says in the paper's numbers (Refusal numbers).
unfoldable pub meant : Result ℕ Refusal → Verdict
meant (Ok n) = accepted n
meant (Err r) = refused (number_of r.reason) r.place

-- A refusal comes before whatever would be judged behind it (Refusal numbers, checked in numeric order).
abbrev pub unless_refused : Verdict → Verdict → Verdict
unless_refused (accepted n) v = v
unless_refused (refused k p) v = refused k p

-- Refusal 1: the number names no part (Refusal numbers, 1).
abbrev pub no_part : Verdict
no_part = refused 1 0
