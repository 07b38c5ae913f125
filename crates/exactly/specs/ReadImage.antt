-- Reading an image: for each of its refusal numbers, exactly when an outcome that keeps the contract replies it, and at which place; and
-- that it replies no other (document 01, Refusal numbers, 1, 5, 11 to 18; Image files; request 2026-01). Where 1 and 5 are not due the
-- array's length is the part's size, 4,096 or 16,384; lines are judged by it.
use Rattle.std.specs.Prelude.{ℕ, ◌+◌, ◌≤◌, ◌<◌, List, ◌↔◌, ◌⊎◌, ◌≡◌, length, Result}
use Rattle.ground.specs.declared.Refusal.{Refusal}
use Rattle.ground.specs.Verdict.{accepted, refused, meant}
use Rattle.intel.specs.Intel.{intel}
use Rattle.image.specs.Promises.{ReadsImage}
use Rattle.exactly.specs.Words.{KnownPart, ByPart, SizeOf}
use Rattle.exactly.specs.Records.{WellFormed, SumsRight, TypeTaken, Gives, Beyond}
use Rattle.exactly.specs.Faults.{Twice, AllGive, FirstAt, EndAt}

-- None of 1, 5 and 11 is due (Refusal numbers, 1, 5, 11).
pub record TextFits (part : ℕ) (text array : List ℕ) : Type 0 where
  pub sized : SizeOf part (length array)
  pub short : length text ≤ 65536

-- Reading an image, by number (Refusal numbers, 1, 5, 11 to 18).
pub record ReadImage : Type 0 where
  -- part is not 4323, 4325, 4283 or 4285
  pub one : (part : ℕ) (text array : List ℕ) (p : ℕ) (r : Result ℕ Refusal) (array' : List ℕ) → ReadsImage intel part text array r array'
      → (meant r ≡ refused 1 p) ↔ ((p ≡ 0) × ¬ KnownPart part)
  -- array length is not 4,096, or 16,384 for a larger part
  pub five : (part : ℕ) (text array : List ℕ) (p : ℕ) (r : Result ℕ Refusal) (array' : List ℕ) → ReadsImage intel part text array r array'
      → (meant r ≡ refused 5 p) ↔ ((p ≡ 0) × KnownPart part × ¬ SizeOf part (length array))
  -- text over 65,536 bytes
  pub eleven : (part : ℕ) (text array : List ℕ) (p : ℕ) (r : Result ℕ Refusal) (array' : List ℕ) → ReadsImage intel part text array r array'
      → (meant r ≡ refused 11 p) ↔ ((p ≡ 0) × SizeOf part (length array) × (65536 < length text))
  -- line malformed; place: first byte of line
  pub twelve : (part : ℕ) (text array : List ℕ) (p : ℕ) (r : Result ℕ Refusal) (array' : List ℕ) → ReadsImage intel part text array r array'
      → (meant r ≡ refused 12 p)
      ↔ (TextFits part text array × ((e : ℕ) × FirstAt (length array) text p e (λ l. ¬ WellFormed l)))
  -- checksum wrong; same place
  pub thirteen : (part : ℕ) (text array : List ℕ) (p : ℕ) (r : Result ℕ Refusal) (array' : List ℕ) → ReadsImage intel part text array r array'
      → (meant r ≡ refused 13 p)
      ↔ (TextFits part text array × ((e : ℕ) × FirstAt (length array) text p e (λ l. WellFormed l × ¬ SumsRight l)))
  -- type not 00 or 01, or 01 with count or address not 0; same place
  pub fourteen : (part : ℕ) (text array : List ℕ) (p : ℕ) (r : Result ℕ Refusal) (array' : List ℕ) → ReadsImage intel part text array r array'
      → (meant r ≡ refused 14 p)
      ↔ (TextFits part text array
      × ((e : ℕ) × FirstAt (length array) text p e (λ l. WellFormed l × SumsRight l × ¬ TypeTaken l)))
  -- data beyond 0FFFh, or 3FFFh for a larger part; same place
  pub fifteen : (part : ℕ) (text array : List ℕ) (p : ℕ) (r : Result ℕ Refusal) (array' : List ℕ) → ReadsImage intel part text array r array'
      → (meant r ≡ refused 15 p)
      ↔ (TextFits part text array
      × ((e : ℕ)
      × FirstAt (length array) text p e
      (λ l. WellFormed l × SumsRight l × TypeTaken l × ((a : ℕ) × Gives l a × ByPart part (0x0FFF < a) (0x3FFF < a)))))
  -- an address given twice; same place, later line
  pub sixteen : (part : ℕ) (text array : List ℕ) (p : ℕ) (r : Result ℕ Refusal) (array' : List ℕ) → ReadsImage intel part text array r array'
      → (meant r ≡ refused 16 p)
      ↔ (TextFits part text array
      × ((e : ℕ)
      × FirstAt (length array) text p e
      (λ l. WellFormed l × SumsRight l × TypeTaken l × (¬ Beyond (length array) l) × Twice text p l)))
  -- no end record; place: text length
  pub seventeen : (part : ℕ) (text array : List ℕ) (p : ℕ) (r : Result ℕ Refusal) (array' : List ℕ) → ReadsImage intel part text array r array'
      → (meant r ≡ refused 17 p) ↔ (TextFits part text array × ((p ≡ length text) × AllGive (length array) text (length text)))
  -- bytes after the end line; place: first of them, behind the line feed
  pub eighteen : (part : ℕ) (text array : List ℕ) (p : ℕ) (r : Result ℕ Refusal) (array' : List ℕ) → ReadsImage intel part text array r array'
      → (meant r ≡ refused 18 p)
      ↔ (TextFits part text array × ((q e : ℕ) × EndAt (length array) text q e × (p ≡ e + 1) × (p < length text)))
  -- otherwise it is accepted, by our choice with the text's length
  pub accepted : (part : ℕ) (text array : List ℕ) (n : ℕ) (r : Result ℕ Refusal) (array' : List ℕ) → ReadsImage intel part text array r array'
      → (meant r ≡ accepted n)
      ↔ (TextFits part text array
      × ((q e : ℕ) × EndAt (length array) text q e × (n ≡ length text) × (length text ≤ e + 1)))
  -- and no other number is given
  pub no_other : (part : ℕ) (text array : List ℕ) (k p : ℕ) (r : Result ℕ Refusal) (array' : List ℕ) → ReadsImage intel part text array r array'
      → meant r ≡ refused k p → (k ≡ 1) ⊎ ((k ≡ 5) ⊎ ((11 ≤ k) × (k ≤ 18)))
