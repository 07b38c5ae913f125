-- Laws of the reader's replies: what each says of the array. Assumes nothing.
use Prim.Native.Nat.{ℕ}
use mathlib.Core.List.{List}
use mathlib.Core.Path.{◌≡◌, refl, sym, ◌∙◌}
use native.Mathlib.Omega.{arith}
use lib.ListN.{length}
use Rattle.std.specs.Prelude.{Result, Ok, Err}
use Rattle.ground.specs.Verdict.{accepted, refused}
use Rattle.ground.specs.declared.Refusal.{Refusal}
use Rattle.ground.proofs.Verdicts.{is-accepted, is-refused}
use Rattle.lines.specs.Lines.{lines_of}
use Rattle.cells.specs.Cells.{settled_of}
use Rattle.forms.specs.Form.{Form}
use Rattle.forms.specs.Reading.{Reading, taken, bad, lines_read}
use Rattle.reader.specs.Answers.{verdict_of, array_after}
use Rattle.reader.specs.Parts.{ReadsLines, ReadsInto}

-- A reading that is refused leaves any array alone; one that is accepted gives the same array whatever it was.
after-refused : (w : Reading) (array : List ℕ) (n k p : ℕ) → verdict_of w n ≡ refused k p → array ≡ array_after w array
after-refused (taken given) array n k p e = let z : ◌≡◌ {A = ℕ} 0 1 = cc in absurd (omega arith)
after-refused (bad l q) array n k p e = refl

after-accepted : (w : Reading) (xs ys : List ℕ) (n m : ℕ) → verdict_of w n ≡ accepted m → array_after w xs ≡ array_after w ys
after-accepted (taken given) xs ys n m e = refl
after-accepted (bad k p) xs ys n m e = let z : ◌≡◌ {A = ℕ} 0 1 = cc in absurd (omega arith)

-- Lines that are refused leave the array, and those that are accepted settle into it.
pub into-refused : (form : Form) (text cells cells' array : List ℕ) (r : Result ℕ Refusal) (k : Refusal) → ReadsLines form text cells r cells' → r ≡ Err k
    → ReadsInto form text cells array r array
into-refused form text cells cells' array r k h e =
    let w : Reading = lines_read form (length text) 0 cells (lines_of text) in
    record { reply = h.reply; kept = after-refused w array (length text) _ _ (is-refused r _ k h.reply e) }

pub into-accepted : (form : Form) (text cells cells' array array' : List ℕ) (r : Result ℕ Refusal) (n : ℕ) → ReadsLines form text cells r cells' → r ≡ Ok n
    → array' ≡ settled_of cells' → ReadsInto form text cells array r array'
into-accepted form text cells cells' array array' r n h e f =
    let w : Reading = lines_read form (length text) 0 cells (lines_of text) in
    let same : array_after w (settled_of cells') ≡ array_after w array =
    after-accepted w (settled_of cells') array (length text) n (is-accepted r _ n h.reply e) in
    record { reply = h.reply; kept = f ∙ sym h.kept ∙ same }
