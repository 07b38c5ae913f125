-- Laws of how long the fixed form of an array is, in any form of record. Assumes nothing.
use Prim.Native.Nat.{ℕ, zero, suc, ◌+◌, ◌*◌, ◌-◌, ◌/◌, ◌≤◌, ◌<◌}
use mathlib.Core.Bool.{Bool, true, false}
use mathlib.Core.List.{List, ◌++◌}
use mathlib.Core.Path.{◌≡◌, sym, ◌∙◌}
use native.Mathlib.Omega.{arith}
use native.Mathlib.Nat.{mul-suc, mul-le-mul_left}
use lib.ListN.{length, take, drop, length-append, length-drop}
use lib.Seq.{length-take-le}
use Rattle.cells.specs.Cells.{blank_of}
use Rattle.forms.specs.Form.{Form}
use Rattle.forms.specs.Writing.{row_by, rows_text, image_text, written_rows, rows_written, lines_length, length_of, most_length, Measured}

-- The lines of one row more, for a count of rows that is not 0.
pub rows-turn : (form : Form) (left address : ℕ) (bs : List ℕ) → 0 < left
    → rows_text form left address bs
    ≡ row_by form (blank_of (take 16 bs)) address (take 16 bs) ++ rows_text form (left - 1) (address + 16) (drop 16 bs)
rows-turn form zero address bs h = absurd (omega arith)
rows-turn form (suc n) address bs h = let e : suc n - 1 ≡ n = omega arith in rw e

pub written-turn : (left : ℕ) (bs : List ℕ) → 0 < left
    → rows_written left bs ≡ written_rows (blank_of (take 16 bs)) + rows_written (left - 1) (drop 16 bs)
written-turn zero bs h = absurd (omega arith)
written-turn (suc n) bs h = let e : suc n - 1 ≡ n = omega arith in rw e

-- No row is written twice, and no more rows are written than there are.
pub written-most : (b : Bool) → written_rows b ≤ 1
written-most true = omega arith
written-most false = omega arith

rows-most : (n : ℕ) (bs : List ℕ) → rows_written n bs ≤ n
rows-most zero bs = omega arith
rows-most (suc n) bs = omega (arith, written-most (blank_of (take 16 bs)), rows-most n (drop 16 bs))

module _ (form : Form) where
  -- No rows have the end line alone; one row more has one line more, or none.
  pub lines_none : lines_length form 0 ≡ form.end_length
  unfolding lines_length
  lines_none = omega arith

  pub lines_more : (n : ℕ) → lines_length form (suc n) ≡ form.row_length + lines_length form n
  unfolding lines_length
  lines_more n = omega (arith, mul-suc form.row_length n)

  pub lines_left : (left : ℕ) → 0 < left → lines_length form left ≡ form.row_length + lines_length form (left - 1)
  lines_left zero h = absurd (omega arith)
  lines_left (suc n) h = let e : suc n - 1 ≡ n = omega arith in rw e (lines_more n)

  pub lines-most : (m n : ℕ) → m ≤ n → lines_length form m ≤ lines_length form n
  unfolding lines_length
  lines-most m n h = omega (arith, mul-le-mul_left form.row_length h)

module _ (form : Form) (measured : Measured form) where
  -- A row's line is as long as the form says, or there is none.
  pub length-row : (b : Bool) (address : ℕ) (row : List ℕ) → length row ≡ 16
      → (n : ℕ) → length (row_by form b address row) + lines_length form n ≡ lines_length form (written_rows b + n)
  length-row true address row h n = let z : 0 + n ≡ n = omega arith in rw z (omega arith)
  length-row false address row h n =
      let e = measured.row address row h in
      let f : 1 + n ≡ suc n = omega arith in
      rw (e, f) (sym (lines_more form n))

  -- The lines of so many rows are as long as those that are written, and the end line.
  pub length-rows : (n address : ℕ) (bs : List ℕ) → n * 16 ≤ length bs
      → length (rows_text form n address bs) ≡ lines_length form (rows_written n bs)
  length-rows zero address bs h = measured.end ∙ sym (lines_none form)
  length-rows (suc n) address bs h =
      let row = take 16 bs in
      let l : n * 16 ≤ length (drop 16 bs) = simp length-drop (omega arith) in
      length-append (row_by form (blank_of row) address row) (rows_text form n (address + 16) (drop 16 bs))
      ∙ rw (length-rows n (address + 16) (drop 16 bs) l)
      (length-row (blank_of row) address row (length-take-le 16 bs (omega arith)) (rows_written n (drop 16 bs)))

  -- The length that is answered is that of the fixed form.
  pub length-image : (array : List ℕ) → length (image_text form array) ≡ length_of form array
  unfolding image_text
  length-image array = length-rows (length array / 16) 0 array (omega arith)

-- The longest is never exceeded.
pub length_most : (form : Form) (array : List ℕ) → length_of form array ≤ most_length form (length array)
length_most form array = lines-most form _ _ (rows-most (length array / 16) array)
