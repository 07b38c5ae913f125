-- Laws of the rows that the writer lays over a buffer, in any form of record. Assumes nothing.
use Prim.Native.Nat.{ℕ, zero, suc, ◌+◌, ◌*◌, ◌-◌, ◌/◌, ◌≤◌, ◌<◌}
use mathlib.Core.Bool.{Bool, true, false}
use mathlib.Core.List.{List, []}
use mathlib.Core.Path.{◌≡◌, refl, sym, ◌∙◌}
use native.Mathlib.Omega.{arith}
use lib.ListN.{length, get_or, take, drop, length-drop}
use lib.Seq.{sets, length-take-le, drop-drop}
use Rattle.std.specs.Simd.{first_chunks}
use Rattle.ground.proofs.Rows.{sets-append}
use Rattle.cells.specs.Cells.{blank_of}
use Rattle.forms.specs.Form.{Form}
use Rattle.forms.specs.Writing.{closed, row_by, rows_text, image_text, rows_written, lines_length, length_of, most_length, Measured}
use Rattle.forms.proofs.Lengths.{rows-turn, written-turn, lines_none, lines_left, length-row}
use Rattle.writer.specs.Parts.{PutsRow, PutsRows}

-- The row at a place among those that an array is cut into.
pub get_or-first_chunks : (k i : ℕ) (xs : List ℕ) → i < k → get_or (first_chunks 16 k xs) i [] ≡ take 16 (drop (i * 16) xs)
get_or-first_chunks zero i xs h = absurd (omega arith)
get_or-first_chunks (suc k) zero xs h = refl
get_or-first_chunks (suc k) (suc i) xs h =
    let n : 16 + i * 16 ≡ suc i * 16 = omega arith in
    rw (← n, ← drop-drop (i * 16) 16 xs) (get_or-first_chunks k i (drop 16 xs) (omega arith))

-- A row that is left out, and one whose line is laid.
pub row-blank : (form : Form) (address at : ℕ) (row out : List ℕ) {b : Bool} → b ≡ blank_of row → b ≡ true
    → PutsRow form address row out at at out
row-blank form address at row out e t =
    let f = sym e ∙ t in
    record { said = rw f; next = rw f (omega arith); most = omega arith }

pub row_put : (form : Form) → Measured form → (address at : ℕ) (row out : List ℕ) {b : Bool} {out' : List ℕ} {n : ℕ}
    → b ≡ blank_of row → b ≡ false → length row ≡ 16 → n ≡ form.row_length
    → out' ≡ sets out at (closed (form.row address row)) → PutsRow form address row out at (at + n) out'
row_put form m address at row out e t l k p =
    let f = sym e ∙ t in
    let d = m.row address row l in
    record { said = rw f p; next = rw (f, k, d); most = omega arith }

-- So many rows of an array are laid over a buffer: what is left, laid over what stands there, gives the whole fixed form.
pub record IsLaid (form : Form) (array out₀ out : List ℕ) (at i : ℕ) : Type 0 where
  pub count : i ≤ length array / 16
  pub room : at + lines_length form (length array / 16 - i) ≤ length out
  pub same : length out ≡ length out₀
  pub said : sets out at (rows_text form (length array / 16 - i) (i * 16) (drop (i * 16) array)) ≡ sets out₀ 0 (image_text form array)
  pub next : at + lines_length form (rows_written (length array / 16 - i) (drop (i * 16) array)) ≡ length_of form array

module _ (form : Form) (array out₀ : List ℕ) where
  -- At first none is.
  pub laid_none : most_length form (length array) ≤ length out₀ → IsLaid form array out₀ out₀ 0 0
  unfolding image_text
  laid_none h =
      let all : length array / 16 - 0 ≡ length array / 16 = omega arith in
      let first : 0 * 16 ≡ 0 = omega arith in
      record { count = omega arith; room = rw all (omega arith); same = refl; said = rw (all, first); next = rw (all, first) (omega arith) }

  module _ (out : List ℕ) (at i : ℕ) (laid : IsLaid form array out₀ out at i) where
    -- There is room for one row more.
    pub laid-room : i < length array / 16 → at + form.row_length ≤ length out
    laid-room h =
        let left = lines_left form (length array / 16 - i) (omega arith) in
        omega (arith, laid.room)

    -- With that row laid, what is left is laid after it, and what the text's length says of that.
    pub laid_more : Measured form → (row : List ℕ) {out' : List ℕ} {r : ℕ} → i < length array / 16 → row ≡ take 16 (drop (i * 16) array)
        → PutsRow form (i * 16) row out at r out' → length out' ≡ length out → IsLaid form array out₀ out' r (i + 1)
    laid_more measured row {out'} {r} h e p l =
        let left : ℕ = length array / 16 - i in
        let b = blank_of row in
        let n : length row ≡ 16 = rw e (length-take-le 16 (drop (i * 16) array) (simp length-drop (omega arith))) in
        let from : (i + 1) * 16 ≡ i * 16 + 16 = omega arith in
        let less : length array / 16 - (i + 1) ≡ left - 1 = omega arith in
        let some : 0 < left = omega arith in
        let more = rows_written (left - 1) (drop (i * 16 + 16) array) in
        let text : sets out' r (rows_text form (left - 1) (i * 16 + 16) (drop (i * 16 + 16) array))
        ≡ sets out at (rows_text form left (i * 16) (drop (i * 16) array)) =
        rw (p.said, sets-append (row_by form b (i * 16) row) (rows_text form (left - 1) (i * 16 + 16) (drop (i * 16 + 16) array)) out at r p.next)
        (rw (rows-turn form left (i * 16) (drop (i * 16) array) some, ← e, drop-drop 16 (i * 16) array)) in
        let size : r + lines_length form (rows_written (left - 1) (drop (i * 16 + 16) array))
        ≡ at + lines_length form (rows_written left (drop (i * 16) array)) =
        rw (written-turn left (drop (i * 16) array) some, ← e, drop-drop 16 (i * 16) array)
        (omega (arith, p.next, length-row form measured b (i * 16) row n more)) in
        record {
          count = omega arith;
          room = rw less (omega (arith, p.most, lines_left form left some, laid.room));
          same = l ∙ laid.same;
          said = rw (less, from) (text ∙ laid.said);
          next = rw (less, from) (size ∙ laid.next);
        }

    -- With no row left, there is room for the end line.
    pub laid-end : i ≡ length array / 16 → at + form.end_length ≤ length out
    laid-end z =
        let none : length array / 16 - i ≡ 0 = omega arith in
        let room : at + lines_length form 0 ≤ length out = rw none at laid.room in
        omega (arith, lines_none form)

    -- That laid makes the whole fixed form.
    pub laid_all : {out' : List ℕ} {n : ℕ} → i ≡ length array / 16 → n ≡ lines_length form 0 → out' ≡ sets out at (closed form.end)
        → PutsRows form array out₀ (at + n) out'
    laid_all z m e =
        let none : length array / 16 - i ≡ 0 = omega arith in
        record { said = e ∙ (rw none at laid.said); next = rw m (rw none at laid.next) }
