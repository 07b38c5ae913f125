-- Each verdict that the reading of an image comes to has a number from 1 to 23, so that some reply says it. No axiom is used.
use Prim.Native.Nat.{ℕ, ◌+◌, ◌≤◌}
use mathlib.Core.Bool.{Bool, true, false}
use mathlib.Core.List.{List, [], ◌∷◌}
use mathlib.Core.Path.{◌≡◌, refl, sym}
use native.Mathlib.Omega.{arith}
use lib.Dec.{eqb, leb}
use lib.ListN.{length, replicate}
use Rattle.ground.specs.Kind.{kind_of, known}
use Rattle.ground.specs.Verdict.{Verdict, accepted, refused}
use Rattle.ground.proofs.Verdicts.{apart, Numbered}
use Rattle.lines.specs.Lines.{lines_of, trimmed}
use Rattle.cells.specs.Cells.{not_given}
use Rattle.forms.specs.Form.{Form}
use Rattle.forms.specs.Reading.{Heard, gives, ends, faulty, says_by, says_of, given_of, Reading, taken, bad, line_by, lines_read, text_by, reading_of}
use Rattle.reader.specs.Answers.{verdict_of}
use Rattle.image.specs.Promises.{image_by, image_of, sized}

-- A number from 1 to 23.
abbrev pub Number : ℕ → Type 0
Number k = (1 ≤ k) × (k ≤ 23)

pub acceptance : (n : ℕ) → Numbered (accepted n)
acceptance n k p e = absurd (apart k p n (sym e))

pub refusal : (k p : ℕ) → 1 ≤ k → k ≤ 23 → Numbered (refused k p)
refusal k p h m j q e = let f : k ≡ j = cc in (omega arith, omega arith)

-- An image that is read: what a line says, and what the lines come to.
abbrev Bad : Reading → Type 0
Bad r = (k p : ℕ) → r ≡ bad k p → Number k

bad-at : (k p : ℕ) → 1 ≤ k → k ≤ 23 → Bad (bad k p)
bad-at k p h m j q e = let f : k ≡ j = cc in (omega arith, omega arith)

taken-not : (array : List ℕ) → Bad (taken array)
taken-not array k p e = absurd (apart k p 0 (sym (by (taken array) (bad k p) e)))
  where
    mark : Reading → Verdict
    mark (taken a) = accepted 0
    mark (bad k p) = refused k p

    by : (r q : Reading) → r ≡ q → mark r ≡ mark q
    by r q e = λ i. mark (e i)

abbrev Says-number : Heard → Type 0
Says-number h = (k : ℕ) → h ≡ faulty k → Number k

faulty-at : (k : ℕ) → 1 ≤ k → k ≤ 23 → Says-number (faulty k)
faulty-at k h m j e = let f : k ≡ j = cc in (omega arith, omega arith)

-- A line that is not faulty is told apart from one that is.
mark : Heard → Verdict
mark gives = accepted 0
mark ends = accepted 0
mark (faulty k) = refused k 0

not-faulty : (h : Heard) → ((k : ℕ) → h ≡ faulty k → accepted 0 ≡ refused k 0) → Says-number h
not-faulty h f k e = absurd (apart k 0 0 (sym (f k e)))

said : (a b c d e f : Bool) → Says-number (says_by a b c d e f)
unfolding mark
said false b c d e f = faulty-at 12 (omega arith) (omega arith)
said true false c d e f = faulty-at 13 (omega arith) (omega arith)
said true true false d e f = faulty-at 14 (omega arith) (omega arith)
said true true true false e f = faulty-at 15 (omega arith) (omega arith)
said true true true true false f = faulty-at 16 (omega arith) (omega arith)
said true true true true true true = not-faulty ends (λ k e. λ i. mark (e i))
said true true true true true false = not-faulty gives (λ k e. λ i. mark (e i))

line : (h : Heard) (place next : ℕ) (cells : List ℕ) (ls : List (List ℕ)) (r : Reading) → Says-number h → Bad r
    → Bad (line_by h place next cells ls r)
line (faulty k) place next cells ls r s b = let t = s k refl in bad-at k place t.0 t.1
line ends place next cells [] r s b = taken-not _
line ends place next cells (l ∷ ls) r s b = bad-at 18 next (omega arith) (omega arith)
line gives place next cells ls r s b = b

read-lines : (form : Form) (total place : ℕ) (cells : List ℕ) (ls : List (List ℕ)) → Bad (lines_read form total place cells ls)
unfolding says_of
read-lines form total place cells [] = bad-at 17 total (omega arith) (omega arith)
read-lines form total place cells (l ∷ ls) =
    line (says_of form (eqb place 0) cells (trimmed l)) place (place + length l + 1) cells ls _
    (said _ _ _ _ _ _)
    (read-lines form total (place + length l + 1) (given_of form cells (trimmed l)) ls)

texts : (b : Bool) (r : Reading) → Bad r → Bad (text_by b r)
texts false r h = bad-at 11 0 (omega arith) (omega arith)
texts true r h = h

images : (a b : Bool) (r : Reading) → Bad r → Bad (image_by a b r)
images false b r h = bad-at 1 0 (omega arith) (omega arith)
images true false r h = bad-at 5 0 (omega arith) (omega arith)
images true true r h = h

image-bad : (form : Form) (part : ℕ) (text array : List ℕ) → Bad (image_of form part text array)
unfolding image_of reading_of
image-bad form part text array =
    images (known part) (sized part (length array)) _
    (texts (leb (length text) 65536) _
    (read-lines form (length text) 0 (replicate (kind_of part).size not_given) (lines_of text)))

verdict-numbered : (r : Reading) (n : ℕ) → Bad r → Numbered (verdict_of r n)
verdict-numbered (taken array) n h = acceptance n
verdict-numbered (bad k p) n h = let t = h k p refl in refusal k p t.0 t.1

pub image-numbered : (form : Form) (part : ℕ) (text array : List ℕ) (n : ℕ) → Numbered (verdict_of (image_of form part text array) n)
image-numbered form part text array n = verdict-numbered (image_of form part text array) n (image-bad form part text array)
