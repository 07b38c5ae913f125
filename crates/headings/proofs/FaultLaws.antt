-- Laws of the first of two faults. Assumes nothing.
use Prim.Native.Nat.{ℕ, ◌≤◌}
use mathlib.Core.Bool.{Bool, true, false}
use mathlib.Core.List.{List, ◌∷◌}
use mathlib.Core.Path.{◌≡◌, refl, ap}
use lib.Dec.{eqb}
use Rattle.std.specs.Prelude.{Option, None, Some, IfSome}
use Rattle.ground.specs.declared.Reason.{Reason}
use Rattle.ground.specs.declared.Reason.TheVariants.{PartUnknown, SelectTooHigh, StoredHasLatch, StateOutOfRange, ArrayLength, RowLengths, TooManySamples, AnswerLength, TimeTooLong, LevelTooHigh, TextTooLong, LineMalformed, ChecksumWrong, RecordType, BeyondArray, GivenTwice, EndMissing, BytesAfterEnd, RoomTooSmall, DumpMalformed, WiresWrong, TimeNotAbove, ValueUnfit}
use Rattle.ground.specs.Verdict.{number_of}
use Rattle.dumps.specs.Faults as dumped
use Rattle.dumps.specs.Faults.{comes_first, first_by, first, note_by, note, verdict_by}
use Rattle.headings.specs.declared.faults.Fault.{Fault}
use Rattle.headings.specs.Parts.{number_in, fault_meant, noted, joined_by, first_of, joined_of}

-- No reason has the number 0.
pub some-number : (r : Reason) → eqb (number_of r) 0 ≡ false
some-number PartUnknown = refl
some-number SelectTooHigh = refl
some-number StoredHasLatch = refl
some-number StateOutOfRange = refl
some-number ArrayLength = refl
some-number RowLengths = refl
some-number TooManySamples = refl
some-number AnswerLength = refl
some-number TimeTooLong = refl
some-number LevelTooHigh = refl
some-number TextTooLong = refl
some-number LineMalformed = refl
some-number ChecksumWrong = refl
some-number RecordType = refl
some-number BeyondArray = refl
some-number GivenTwice = refl
some-number EndMissing = refl
some-number BytesAfterEnd = refl
some-number RoomTooSmall = refl
some-number DumpMalformed = refl
some-number WiresWrong = refl
some-number TimeNotAbove = refl
some-number ValueUnfit = refl

-- A fault by its number is noted as it is.
pub note-reason : (reason : Reason) (line : ℕ) (rest : List dumped.Fault)
    → note line (number_of reason) rest ≡ fault_meant (record { reason = reason; line = line }) ∷ rest
unfolding note
note-reason reason line rest = rw (some-number reason)

pub note-none : (line : ℕ) (rest : List dumped.Fault) → note line 0 rest ≡ rest
unfolding note
note-none line rest = refl

-- The first of two, by the test.
first_by_lem : (f g : Fault) (b : Bool) → comes_first (fault_meant f) (fault_meant g) ≡ b
    → first (fault_meant f) (fault_meant g) ≡ fault_meant (joined_by b f g)
unfolding first
first_by_lem f g true e = rw e
first_by_lem f g false e = rw e

pub first-meant : (f g : Fault) → first (fault_meant f) (fault_meant g) ≡ fault_meant (first_of (Some f) g)
first-meant f g = first_by_lem f g _ refl

-- Joined, the verdict is the same, whatever follows.
pub first-verdict : (p : Option Fault) (g : Fault) (rest : List dumped.Fault) (count : ℕ)
    → verdict_by (noted p (fault_meant g ∷ rest)) count ≡ verdict_by (fault_meant (first_of p g) ∷ rest) count
first-verdict None g rest count = refl
first-verdict (Some f) g rest count = ap (λ (q : dumped.Fault). verdict_by (q ∷ rest) count) (first-meant f g)

pub joined-verdict : (p : Option Fault) (n : Option Reason) (line : ℕ) (rest : List dumped.Fault) (count : ℕ)
    → verdict_by (noted p (note line (number_in n) rest)) count ≡ verdict_by (noted (joined_of p n line) rest) count
unfolding note joined_of
joined-verdict p None line rest count = refl
joined-verdict p (Some reason) line rest count =
    let e = some-number reason in
    rw e (first-verdict p (record { reason = reason; line = line }) rest count)

-- It stands no further than the two.
first-by : (b : Bool) (f g : Fault) (most : ℕ) → f.line ≤ most → g.line ≤ most → (joined_by b f g).line ≤ most
first-by true f g most h k = h
first-by false f g most h k = k

pub first_small : (p : Option Fault) (g : Fault) (most : ℕ) → IfSome p (λ f. f.line ≤ most) → g.line ≤ most
    → (first_of p g).line ≤ most
first_small None g most h k = k
first_small (Some f) g most h k = first-by (comes_first (fault_meant f) (fault_meant g)) f g most h k

pub joined_small : (p : Option Fault) (n : Option Reason) (line most : ℕ) → IfSome p (λ f. f.line ≤ most) → line ≤ most
    → IfSome (joined_of p n line) (λ f. f.line ≤ most)
unfolding joined_of
joined_small p None line most h k = h
joined_small p (Some reason) line most h k = first_small p (record { reason = reason; line = line }) most h k

-- Joined they are none only where neither is one.
pub joined-clear : (p : Option Fault) (n : Option Reason) (line : ℕ) → joined_of p n line ≡ None → (p ≡ None) × (n ≡ None)
unfolding joined_of
joined-clear p None line e = (e, refl)
joined-clear p (Some reason) line e = (cc, cc)

pub join-none : (p : Option Fault) (line : ℕ) → joined_of p None line ≡ p
unfolding joined_of
join-none p line = refl
