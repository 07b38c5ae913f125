-- Laws of a record laid over a buffer. Assumes nothing.
use Prim.Native.Nat.{ℕ, ◌+◌, ◌*◌, ◌-◌, ◌%◌}
use mathlib.Core.List.{List, [], ◌∷◌, ◌++◌, append_assoc}
use mathlib.Core.Path.{◌≡◌, ◌∙◌}
use native.Mathlib.Omega.{arith}
use lib.ListN.{length}
use lib.Seq.{sets}
use Rattle.ground.proofs.Rows.{sets-append}
use Rattle.hexfile.specs.Pairs.{text_of, sum_of, check_of}
use Rattle.hexfile.proofs.PairLaws.{length-text_of, text-append, sum-append}
use Rattle.forms.specs.Writing.{closed}
use Rattle.intel.specs.Intel.{fields_of, record_line}
use Rattle.intel_rows.specs.Parts.{head_of, tail_of}

-- A record's head, data and tail laid one after the other are its line.
line-laid : (address type : ℕ) (bs out : List ℕ) (at : ℕ) {next sum : ℕ} → next ≡ at + 9 + 2 * length bs
    → sum ≡ (sum_of (head_of (length bs) address type) + sum_of bs) % 256
    → sets (sets (sets out at (58 ∷ text_of (head_of (length bs) address type))) (at + 9) (text_of bs)) next (tail_of sum)
    ≡ sets out at (closed (record_line address type bs))
unfolding record_line
line-laid address type bs out at {next} {sum} n e =
    let head = head_of (length bs) address type in
    let k = check_of (fields_of address type bs) in
    let d : (256 - sum) % 256 ≡ k = rw (e, sum-append head bs) in
    sets-append (text_of bs) (tail_of sum) (sets out at (58 ∷ text_of head)) (at + 9) next (omega (arith, length-text_of bs))
    ∙ sets-append (58 ∷ text_of head) (text_of bs ++ tail_of sum) out at (at + 9) (omega arith)
    ∙ rw (d, text-append bs (k ∷ []), append_assoc (text_of bs) (text_of (k ∷ [])) (10 ∷ []))

-- The same where the count of the data is known.
pub record-laid : (address type : ℕ) (bs out : List ℕ) (at : ℕ) {count next sum : ℕ}
    → length bs ≡ count → next ≡ at + 9 + 2 * count → sum ≡ (sum_of (head_of count address type) + sum_of bs) % 256
    → sets (sets (sets out at (58 ∷ text_of (head_of count address type))) (at + 9) (text_of bs)) next (tail_of sum)
    ≡ sets out at (closed (record_line address type bs))
record-laid address type bs out at l n e = rw (← l) (line-laid address type bs out at (rw (← l) at n) (rw (← l) at e))
