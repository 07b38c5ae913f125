-- Laws of what stands at the start of a buffer: the text of a sample. Assumes nothing.
use Prim.Native.Nat.{ℕ, ◌+◌, ◌≤◌}
use mathlib.Core.List.{List, [], ◌∷◌, ◌++◌, append_assoc}
use mathlib.Core.Path.{◌≡◌, ap, sym, ◌∙◌}
use native.Mathlib.Omega.{arith}
use lib.ListN.{length, set, length-append}
use lib.Seq.{sets}
use Rattle.codes.specs.Codes.{hash}
use Rattle.ground.proofs.Rows.{sets-append}
use Rattle.texts.specs.Numbers.{decimal_of}
use Rattle.texts.specs.Laying.{Starts, Lays}
use Rattle.texts.proofs.Starting.{starts-laid}
use Rattle.drawing.specs.Wires.{first_code}
use Rattle.drawing.specs.Drawing.{values_of, sample_text}
use Rattle.drawing.specs.declared.Drawn.{Drawn}

-- Hash, time, line feed and values, laid one after the other.
pub sample-starts : (d n : Drawn) (out ts vs : List ℕ) (end r : ℕ) → Lays (decimal_of n.time) (set out 0 hash) 1 end ts → end ≤ 1 + 20
    → Lays (values_of d.begun first_code d.levels n.levels) (set ts end 10) (end + 1) r vs → r ≤ end + 1 + 24 → 46 ≤ length out
    → Starts (sample_text d n) out r vs
unfolding sample_text
sample-starts d n out ts vs end r a h b g m =
    let time : List ℕ = decimal_of n.time in
    let values : List ℕ = values_of d.begun first_code d.levels n.levels in
    let line : List ℕ = (hash ∷ time) ++ (10 ∷ []) in
    let one : ts ≡ sets out 0 (hash ∷ time) = a.laid ∙ sets-append (hash ∷ []) time out 0 1 (omega arith) in
    let two : set ts end 10 ≡ sets out 0 line =
    ap (λ (l : List ℕ). set l end 10) one ∙ sets-append (hash ∷ time) (10 ∷ []) out 0 end (omega (arith, a.next)) in
    let l : length line ≡ end + 1 = rw (length-append (hash ∷ time) (10 ∷ [])) (omega (arith, a.next)) in
    let three : vs ≡ sets out 0 (line ++ values) =
    b.laid ∙ ap (λ (l : List ℕ). sets l (end + 1) values) two ∙ sets-append line values out 0 (end + 1) (omega arith) in
    let whole : line ++ values ≡ hash ∷ time ++ (10 ∷ values) = simp append_assoc in
    let count : length (line ++ values) ≡ r = rw (length-append line values) (omega (arith, b.next)) in
    starts-laid _ out vs r (three ∙ ap (λ (l : List ℕ). sets out 0 l) whole) (sym count ∙ ap length whole) (omega arith)
