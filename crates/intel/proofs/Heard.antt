-- Laws of one line: whether it is well formed, and what its bytes say to the cells. Assumes nothing.
use Prim.Native.Nat.{ℕ, zero, suc, ◌+◌, ◌*◌, ◌-◌, ◌/◌, ◌≤◌, ◌<◌}
use mathlib.Core.Bool.{Bool, true, false, ◌&&◌, and-false}
use mathlib.Core.List.{List, [], ◌∷◌}
use mathlib.Core.Path.{◌≡◌, refl, ap, sym, ◌∙◌}
use native.Mathlib.Omega.{arith}
use lib.Dec.{eqb}
use lib.ListN.{length, get_or, take, drop, length-drop}
use lib.Seq.{length-take-le, get_or-take, take-nil}
use borrow.Author.Tests.{eq-eqb, ne_eqb, eqb-true}
use Rattle.std.specs.Prelude.{Result, Ok, Err}
use Rattle.digits.specs.Digits.{is_digit}
use Rattle.hexfile.specs.Pairs.{paired, pairs_of, sums_to_zero}
use Rattle.hexfile.specs.Promises.{Decodes, SumsUp}
use Rattle.ground.proofs.Tests.{and_split}
use Rattle.hexfile.proofs.PairLaws.{pair_fits, length-pairs_of}
use Rattle.cells.proofs.CellLaws.{fresh-nil}
use Rattle.ground.proofs.Rows.{tail-whole}
use Rattle.intel.specs.Intel.{bytes_in, count_of, record_address, type_of, data_of, well_formed, typed, intel}
use Rattle.forms.specs.Reading.{given_of, says_of}
use Rattle.forms.specs.Parts.{Places, HearsLine}
use Rattle.intel.specs.Parts.{Forms, record_says, Judges}
use Rattle.forms.specs.declared.Says.{Says}
use Rattle.forms.specs.declared.Says.TheVariants.{Ends}
use Rattle.ground.specs.declared.Reason.{Reason}
use Rattle.ground.specs.declared.Reason.TheVariants.{LineMalformed, ChecksumWrong, RecordType}

-- Bytes of a type that is not taken.
pub judge-untyped : (bs cells : List ℕ) → sums_to_zero bs ≡ true → typed bs ≡ false → Judges bs cells (Err RecordType) cells
unfolding record_says
judge-untyped bs cells s t = record { said = rw (s, t); kept = refl }

-- The end record has neither count nor address, so it gives nothing.
pub judge-end : (bs cells : List ℕ) → sums_to_zero bs ≡ true → type_of bs ≡ 1 → count_of bs ≡ 0 → record_address bs ≡ 0
    → Judges bs cells (Ok Ends) cells
unfolding record_says typed
judge-end bs cells s y n a = record { said = rw (s, y, n, a, fresh-nil cells); kept = refl }

-- The bytes of a data record say what its data do at its address.
pub judge-placed : (bs cells cells' : List ℕ) (r : Result Says Reason) → sums_to_zero bs ≡ true → type_of bs ≡ 0
    → length bs ≡ 5 + count_of bs
    → Places (record_address bs) (take (length bs - 1 - 4) (drop 4 bs)) cells r cells' → Judges bs cells r cells'
unfolding record_says typed
judge-placed bs cells cells' r s y m q =
    let d : length bs - 1 - 4 ≡ count_of bs = omega arith in
    let p : Places (record_address bs) (data_of bs) cells r cells' = rw d at q in
    record { said = rw (s, y) p.said; kept = p.kept }

-- A count is a byte.
count_fits : (cs : List ℕ) → paired cs ≡ true → get_or (pairs_of cs) 0 0 < 256
count_fits [] h = omega arith
count_fits (a ∷ []) h = let z : ◌≡◌ {A = ℕ} 0 1 = cc in absurd (omega arith)
count_fits (a ∷ b ∷ cs) h =
    let d = and_split (is_digit a) (is_digit b) (and_split (is_digit a && is_digit b) (paired cs) h).0 in
    pair_fits a b d.0 d.1

-- A conjunction fails where the second test does, given the first.
both-unless : (p q : Bool) → (p ≡ true → q ≡ false) → (p && q) ≡ false
both-unless true q h = h refl
both-unless false q h = refl

-- A line of another length than its count says is not well formed; so is one that no count could fit.
unformed-by-length : (line : List ℕ)
    → (paired (drop 1 line) ≡ true → length line ≡ 11 + 2 * count_of (bytes_in line) → ⊥) → well_formed line ≡ false
unfolding well_formed
unformed-by-length line h =
    both-unless (eqb (get_or line 0 0) 0x3A) _
    (λ _. both-unless (paired (drop 1 line)) _ (λ p. ne_eqb (length line) (11 + 2 * count_of (bytes_in line)) (h p)))

pub unformed : (line room : List ℕ) → well_formed line ≡ false → Forms line false room
unformed line room h = record { said = sym h; bytes = λ t. absurd (let z : ◌≡◌ {A = ℕ} 0 1 = cc in omega arith) }

length-unformed : (line room : List ℕ) → (11 ≤ length line → length line ≤ 521 → ⊥) → Forms line false room
unfolding bytes_in
length-unformed line room h =
    unformed line room (unformed-by-length line (λ p e. h (omega arith) (omega (arith, count_fits (drop 1 line) p))))

colon-unformed : (line room : List ℕ) → (get_or line 0 0 ≡ 0x3A → ⊥) → Forms line false room
unfolding well_formed
colon-unformed line room h = unformed line room (rw (ne_eqb (get_or line 0 0) 0x3A h))

-- Past the colon a line is well formed if it is pairs, and of the length that the first byte says.
pairs-unformed : (line room : List ℕ) → Decodes (drop 1 line) false room → Forms line false room
unfolding well_formed
pairs-unformed line room d =
    unformed line room (rw (sym d.said) (and-false (eqb (get_or line 0 0) 0x3A)))

-- The bytes of a line of pairs, and their number.
bytes-half : (line : List ℕ) → 11 ≤ length line → paired (drop 1 line) ≡ true → length (bytes_in line) ≡ length line / 2
unfolding bytes_in
bytes-half line h p =
    let n : length (drop 1 line) ≡ length line - 1 = length-drop 1 line in
    let m : 2 * length (pairs_of (drop 1 line)) ≡ length (drop 1 line) = length-pairs_of (drop 1 line) p in
    omega arith

formed : (line room : List ℕ) → 11 ≤ length line → get_or line 0 0 ≡ 0x3A → Decodes (drop 1 line) true room
    → Forms line (eqb (length line) (11 + 2 * get_or room 0 0)) room
unfolding well_formed bytes_in
formed line room h c d =
    let p : paired (drop 1 line) ≡ true = sym d.said in
    let m : length (pairs_of (drop 1 line)) ≡ length line / 2 = bytes-half line h p in
    let b : take (length line / 2) room ≡ pairs_of (drop 1 line) = rw m at (d.bytes refl) in
    let n : get_or room 0 0 ≡ get_or (pairs_of (drop 1 line)) 0 0 =
    sym (get_or-take (length line / 2) room 0 0 (omega arith)) ∙ ap (λ (l : List ℕ). get_or l 0 0) b in
    record { said = rw (eq-eqb (get_or line 0 0) 0x3A c, p, n); bytes = λ _. b }

-- The same of a line that is the first characters of a text.
line-tail : (text : List ℕ) (n : ℕ) → 1 ≤ n → take (n - 1) (drop 1 text) ≡ drop 1 (take n text)
line-tail [] n h = rw (take-nil (n - 1), take-nil n)
line-tail (c ∷ cs) zero h = absurd (omega arith)
line-tail (c ∷ cs) (suc n) h = let e : suc n - 1 ≡ n = omega arith in rw e

module _ (text room : List ℕ) (n : ℕ) (h : n ≤ length text) where
  pub length-line : (11 ≤ n → n ≤ 521 → ⊥) → Forms (take n text) false room
  length-line k =
      let e = length-take-le n text h in
      length-unformed (take n text) room (λ a b. k (omega arith) (omega arith))

  pub colon-line : 11 ≤ n → (get_or text 0 0 ≡ 0x3A → ⊥) → Forms (take n text) false room
  colon-line k e = colon-unformed (take n text) room (rw (get_or-take n text 0 0 (omega arith)) e)

  pub pairs-line : 11 ≤ n → {r : Bool} → Decodes (take (n - 1) (take (length text - 1) (drop 1 text))) r room → r ≡ false
      → Forms (take n text) false room
  pairs-line k d e = pairs-unformed (take n text) room (rw (tail-whole, line-tail text n (omega arith), e) at d)

  pub formed-line : 11 ≤ n → get_or text 0 0 ≡ 0x3A → {r : Bool} → Decodes (take (n - 1) (take (length text - 1) (drop 1 text))) r room
      → r ≡ true → Forms (take n text) (eqb n (11 + 2 * get_or room 0 0)) room
  formed-line k e d t =
      let m : length (take n text) ≡ n = length-take-le n text h in
      let p : get_or (take n text) 0 0 ≡ 0x3A = rw (get_or-take n text 0 0 (omega arith)) e in
      let q : Decodes (drop 1 (take n text)) true room = rw (tail-whole, line-tail text n (omega arith), t) at d in
      rw m at (formed (take n text) room (omega arith) p q)

-- A well-formed line has its count of data and five bytes more: half as many as characters.
formed-count : (line : List ℕ) → well_formed line ≡ true
    → (length (bytes_in line) ≡ length line / 2) × (length (bytes_in line) ≡ 5 + count_of (bytes_in line))
unfolding well_formed
formed-count line h =
    let sized : Bool = eqb (length line) (11 + 2 * count_of (bytes_in line)) in
    let q = and_split (eqb (get_or line 0 0) 0x3A) (paired (drop 1 line) && sized) h in
    let t = and_split (paired (drop 1 line)) sized q.1 in
    let e : length line ≡ 11 + 2 * count_of (bytes_in line) =
    eqb-true (length line) (11 + 2 * count_of (bytes_in line)) t.1 in
    let m : length (bytes_in line) ≡ length line / 2 = bytes-half line (omega arith) t.0 in
    (m, omega arith)

-- So they are at most as many as those of the longest record.
formed-most : (line : List ℕ) → well_formed line ≡ true → length line / 2 ≤ 260
unfolding well_formed bytes_in
formed-most line h =
    let n = formed-count line h in
    let sized : Bool = eqb (length line) (11 + 2 * count_of (bytes_in line)) in
    let q = and_split (eqb (get_or line 0 0) 0x3A) (paired (drop 1 line) && sized) h in
    let k = count_fits (drop 1 line) (and_split (paired (drop 1 line)) sized q.1).0 in
    omega arith

-- The room that has the bytes of a line, the first characters of a text: it has room for eight more; and after the sum of the
-- bytes it has them still.
module _ (text room : List ℕ) (n : ℕ) (h : n ≤ length text) (f : Forms (take n text) true room) where
  line-length : length (take n text) ≡ n
  line-length = length-take-le n text h

  pub room_fits : n / 2 ≤ 260
  room_fits = rw line-length at (formed-most (take n text) (sym f.said))

  line-bytes : take (n / 2) room ≡ bytes_in (take n text)
  line-bytes = rw line-length at (f.bytes refl)

  pub room-count : (room' : List ℕ) (r : Bool) → SumsUp room (n / 2) r room'
      → length (take (n / 2) room') ≡ 5 + get_or (take (n / 2) room') 0 0
  room-count room' r u = rw (u.bytes, line-bytes) (formed-count (take n text) (sym f.said)).1

  pub room-sum : (room' : List ℕ) {r : Bool} → SumsUp room (n / 2) r room' → r ≡ true → sums_to_zero (take (n / 2) room') ≡ true
  room-sum room' u t = rw u.bytes (sym u.said ∙ t)

  -- A line of a wrong sum, and one that says what its bytes do.
  pub hear-unsound : (room' cells : List ℕ) {r : Bool} → SumsUp room (n / 2) r room' → r ≡ false
      → HearsLine intel true (take n text) cells (Err ChecksumWrong) cells
  unfolding says_of
  hear-unsound room' cells u t =
      let s : sums_to_zero (bytes_in (take n text)) ≡ false = rw line-bytes at (sym u.said ∙ t) in
      record { said = rw (sym f.said, s); kept = refl }

  pub hear-formed : (room' cells cells' : List ℕ) (r : Result Says Reason) {b : Bool} → SumsUp room (n / 2) b room'
      → Judges (take (n / 2) room') cells r cells' → HearsLine intel true (take n text) cells r cells'
  unfolding says_of given_of record_says
  hear-formed room' cells cells' r u j =
      let k : Judges (bytes_in (take n text)) cells r cells' = rw (u.bytes, line-bytes) at j in
      record { said = rw (sym f.said) k.said; kept = k.kept }

-- A line that is not well formed.
pub hear-unformed : (line room cells : List ℕ) → Forms line false room → HearsLine intel true line cells (Err LineMalformed) cells
unfolding says_of
hear-unformed line room cells f = record { said = rw (sym f.said); kept = refl }
