-- What is claimed of image files (demand 2; document 01, Image files). Each claim is one closed record: all that it speaks of and all that it
-- asks stands in it, and its theorem has exactly that type.
-- For a person from the line: an array that was written as a text and is read again comes back byte for byte, whatever form of record the
-- text is in, as long as that form keeps a few laws; Intel's form keeps them. The same is said of the two operations, of the two that other
-- languages call, and of the program that puts a text into its fixed form.
use Rattle.std.specs.Prelude.{ℕ, ◌+◌, ◌*◌, ◌≤◌, ◌<◌, true, List, [], ◌∷◌, Result, ◌≡◌, length, take}
use Rattle.ground.specs.Numbers.{small_size, large_size}
use Rattle.ground.specs.Kind.{kind_of}
use Rattle.ground.specs.Verdict.{accepted, meant}
use Rattle.ground.specs.declared.Refusal.{Refusal}
use Rattle.forms.specs.Form.{Form, row_size}
use Rattle.forms.specs.Reading.{most_text}
use Rattle.forms.specs.Writing.{closed, image_text, length_of, lines_length, most_length}
use Rattle.intel.specs.Intel.{data_type, end_type, record_line, intel}
use Rattle.image.specs.Promises.{write_verdict, ReadsImage, WritesImage}
use Rattle.texts.specs.Laying.{Starts}
use Rattle.tidying.specs.Shown.{shown_of}
use Rattle.telling.specs.Told.{ReadsThrough, WritesThrough}
use Rattle.round_trip.specs.Words.{all_bytes}
use Rattle.round_trip.specs.Sound.{Sound}
use Rattle.round_trip.specs.RoundTrip.{Takes, RoundTrip}
use Rattle.image_claims.specs.Trip.{part_rows, ReadBack, Tidied}

-- The round trip: in every sound form of record, for arrays of any number of 16-byte rows whose longest text is not so long that 11 refuses it
-- (demand 2; Image files).
pub record RoundTrips : Type 0 where
  pub trip : (form : Form) (n : ℕ) → Sound form → lines_length form n ≤ most_text → RoundTrip form n

-- Intel's form is sound, and so the round trip holds of it for every array of whole rows no larger than the larger part's (Image
-- files; request 2026-01).
pub record IntelTrips : Type 0 where
  pub sound : Sound intel
  pub trip : (n : ℕ) → n * row_size ≤ large_size → RoundTrip intel n

-- The lengths that are said: the length answered, 44 a row, 12 at the end, and so at most 11,276 or 45,068 (Image files; Refusal numbers, 19;
-- request 2026-01).
pub record Lengths : Type 0 where
  pub answered : (array : List ℕ) → length (image_text intel array) ≡ length_of intel array
  pub row : (address : ℕ) (row : List ℕ) → length row ≡ row_size → length (closed (record_line address data_type row)) ≡ 44
  pub end : length (closed (record_line 0 end_type [])) ≡ 12
  pub most : (array : List ℕ) → length (image_text intel array) ≤ most_length intel (length array)
  pub rows : (n : ℕ) → most_length intel (n * row_size) ≡ 44 * n + 12
  pub small : most_length intel small_size ≡ 11276
  pub large : most_length intel large_size ≡ 45068

-- Written and read back, by the promises of the two operations alone, for any part: where a write of bytes is accepted with a length, a read
-- of so much of the buffer leaves the same array, whatever stood there, and answers that length (demand 2; Image files).
pub record WriteThenRead : Type 0 where
  pub back : (part : ℕ) (array out out' old array' : List ℕ) (r r₂ : Result ℕ Refusal) (n : ℕ) → all_bytes array ≡ true
      → WritesImage intel part array out r out' → meant r ≡ accepted n
      → length old ≡ (kind_of part).size → ReadsImage intel part (take n out') old r₂ array'
      → ReadBack array array' r₂ n

-- The same through the door: both calls answer 1, the reply row is 0 and that length, the array is the same (Image files).
pub record DoorTrip : Type 0 where
  pub back : (part : ℕ) (array out numbers out' numbers' old numbers₂ array' numbers₂' : List ℕ) (r r₂ n : ℕ) → all_bytes array ≡ true
      → length numbers ≡ 2 → WritesThrough part array out numbers r out' numbers' → write_verdict intel part array out ≡ accepted n
      → length old ≡ (kind_of part).size → length numbers₂ ≡ 2 → ReadsThrough part (take n out') old numbers₂ r₂ array' numbers₂'
      → (r ≡ 1) × (r₂ ≡ 1) × (array' ≡ array) × (numbers' ≡ 0 ∷ n ∷ []) × (numbers₂' ≡ 0 ∷ n ∷ [])

-- The program's habits, for every part: those are the numbers that name a size (Image files).
pub record Tidies : Type 0 where
  pub habits : (part : ℕ) → 0 < (kind_of part).size → Tidied part

-- The program's work done twice: what it wrote for an accepted text it writes again (Image files, the writer).
pub record TidyTwice : Type 0 where
  pub again : (part : ℕ) (text array out out' out₂ out₂' : List ℕ) (r r₂ : ℕ) → 0 < (kind_of part).size → Takes intel (part_rows part) text array
      → Starts (shown_of part text) out r out' → Starts (shown_of part (take r out')) out₂ r₂ out₂'
      → take r₂ out₂' ≡ take r out'

-- A buffer of 44 bytes for each row of the part and 12 is enough for every array of it: the write is accepted with the text's length, and the
-- text fits (Refusal numbers, 19; Image files).
pub record RoomEnough : Type 0 where
  pub room : (part : ℕ) (array out : List ℕ) → 0 < (kind_of part).size → length array ≡ (kind_of part).size → 44 * part_rows part + 12 ≤ length out
      → (write_verdict intel part array out ≡ accepted (length (image_text intel array))) × (length (image_text intel array) ≤ length out)
