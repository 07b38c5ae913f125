-- Laws of what stands at the start of a buffer: any text, and a refusal's line. Assumes nothing.
use Prim.Native.Nat.{ℕ, ◌+◌, ◌≤◌}
use mathlib.Core.List.{List, [], ◌∷◌, ◌++◌, append_assoc}
use mathlib.Core.Path.{◌≡◌, ap, sym, ◌∙◌}
use native.Mathlib.Omega.{arith}
use native.Mathlib.Nat.{zero-add}
use lib.ListN.{length, take, drop, set, length-append}
use lib.Seq.{sets, sets-eq, length-sets, length-take-le, take_at}
use Rattle.ground.proofs.Rows.{sets-append}
use Rattle.texts.specs.Numbers.{decimal_of}
use Rattle.texts.specs.Refusal.{refusal_line}
use Rattle.texts.specs.Laying.{Starts, Lays}

-- A text laid at the start of a buffer that has room for it.
pub starts-laid : (text out out' : List ℕ) (r : ℕ) → out' ≡ sets out 0 text → r ≡ length text → r ≤ length out → Starts text out r out'
starts-laid text out out' r e f h =
    let n : length out' ≡ length out = ap length e ∙ length-sets out 0 text in
    let k : 0 + length text ≤ length out = omega arith in
    record {
      shown = e ∙ sets-eq text out 0 k ∙ rw (zero-add, f);
      count = f;
      fits = (omega arith, sym (length-take-le r out' (omega arith)));
    }

-- What starts a buffer is what is taken of it.
pub starts-text : (text out : List ℕ) (r : ℕ) (out' : List ℕ) → Starts text out r out' → take r out' ≡ text
starts-text text out r out' x = rw x.shown (take_at text (drop r out) r (sym x.count))

-- Number, blank, place and line feed, laid one after the other.
pub refusal-starts : (k p s f : ℕ) (out ks ps : List ℕ) → Lays (decimal_of k) out 0 s ks → s ≤ 20
    → Lays (decimal_of p) (set ks s 0x20) (s + 1) f ps → f ≤ s + 1 + 20 → 42 ≤ length out
    → Starts (refusal_line k p) out (f + 1) (set ps f 10)
unfolding refusal_line
refusal-starts k p s f out ks ps a h b g m =
    let d : List ℕ = decimal_of k in
    let e : List ℕ = decimal_of p in
    let n : length (d ++ (0x20 ∷ [])) ≡ s + 1 = rw length-append (omega (arith, a.next)) in
    let one : set ks s 0x20 ≡ sets out 0 (d ++ (0x20 ∷ [])) =
    ap (λ (l : List ℕ). set l s 0x20) a.laid ∙ sets-append d (0x20 ∷ []) out 0 s a.next in
    let two : ps ≡ sets out 0 ((d ++ (0x20 ∷ [])) ++ e) =
    b.laid ∙ ap (λ (l : List ℕ). sets l (s + 1) e) one ∙ sets-append (d ++ (0x20 ∷ [])) e out 0 (s + 1) (omega arith) in
    let l : length ((d ++ (0x20 ∷ [])) ++ e) ≡ f = rw (length-append (d ++ (0x20 ∷ [])) e) (omega (arith, b.next)) in
    let three : set ps f 10 ≡ sets out 0 (((d ++ (0x20 ∷ [])) ++ e) ++ (10 ∷ [])) =
    ap (λ (x : List ℕ). set x f 10) two ∙ sets-append ((d ++ (0x20 ∷ [])) ++ e) (10 ∷ []) out 0 f (omega arith) in
    let whole : ((d ++ (0x20 ∷ [])) ++ e) ++ (10 ∷ []) ≡ d ++ (0x20 ∷ e ++ (10 ∷ [])) = simp append_assoc in
    let last : length (((d ++ (0x20 ∷ [])) ++ e) ++ (10 ∷ [])) ≡ f + 1 =
    rw (length-append ((d ++ (0x20 ∷ [])) ++ e) (10 ∷ [])) (omega arith) in
    starts-laid _ out _ (f + 1) (three ∙ ap (λ (x : List ℕ). sets out 0 x) whole) (sym last ∙ ap length whole) (omega arith)
