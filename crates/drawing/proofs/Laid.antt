-- Laws of the values' lines, laid over a buffer. Assumes nothing.
use Prim.Native.Nat.{ℕ, suc, ◌+◌, ◌*◌, ◌≤◌, ◌<◌}
use mathlib.Core.Bool.{Bool, false, ◌&&◌, beq}
use mathlib.Core.List.{List, [], ◌∷◌, ◌++◌, append_assoc, append-nil}
use mathlib.Core.Path.{◌≡◌, refl, ap, sym, ◌∙◌}
use native.Mathlib.Omega.{arith}
use native.Mathlib.Numerals.{add-one}
use lib.ListN.{length, set, get_or, drop, length-append, drop_of_length-le}
use lib.Seq.{sets, drop-cons, length-sets}
use Rattle.ground.proofs.Rows.{sets-append}
use Rattle.texts.specs.Laying.{Lays}
use Rattle.drawing.specs.Wires.{first_code}
use Rattle.drawing.specs.Drawing.{figure_of, value_by, values_of}

-- Figure, code and line feed stored one after the other are the line of a value that does not stay.
pub value-laid : (letter at f : ℕ) (level : Bool) (out : List ℕ) → f ≡ figure_of level
    → Lays (value_by false letter level) out at (at + 3) (set (set (set out at f) (at + 1) letter) (at + 2) 10)
value-laid letter at f level out e =
    let p : at + 1 ≡ suc at = omega arith in
    let q : at + 2 ≡ suc (suc at) = omega arith in
    record { laid = rw (p, q, e); next = refl }

-- Between two wires: what is laid so far, with the lines of the wires that are left, is all their lines.
pub record Halfway (begun : Bool) (bs ns : List Bool) (out₀ : List ℕ) (from : ℕ) (out : List ℕ) (at i : ℕ) : Type 0 where
  pub done : List ℕ
  pub laid : Lays done out₀ from at out
  pub whole : done ++ values_of begun (first_code + i) (drop i bs) (drop i ns) ≡ values_of begun first_code bs ns
  pub few : at ≤ from + 3 * i
  pub below : i ≤ 8
  pub befores : length bs ≡ 8
  pub afters : length ns ≡ 8

module _ {begun : Bool} {bs ns : List Bool} {out₀ : List ℕ} {from : ℕ} {out : List ℕ} {at i : ℕ} where
  -- One wire more.
  pub turn : {out' : List ℕ} {r : ℕ} → Halfway begun bs ns out₀ from out at i → i < 8
      → Lays (value_by (begun && beq (get_or bs i false) (get_or ns i false)) (first_code + i) (get_or ns i false)) out at r out' → r ≤ at + 3
      → Halfway begun bs ns out₀ from out' r (i + 1)
  turn h k l m =
      let line = value_by (begun && beq (get_or bs i false) (get_or ns i false)) (first_code + i) (get_or ns i false) in
      let b : drop i bs ≡ get_or bs i false ∷ drop (suc i) bs = drop-cons bs i false (omega (arith, h.befores)) in
      let n : drop i ns ≡ get_or ns i false ∷ drop (suc i) ns = drop-cons ns i false (omega (arith, h.afters)) in
      let step : line ++ values_of begun (first_code + i + 1) (drop (suc i) bs) (drop (suc i) ns) ≡ values_of begun (first_code + i) (drop i bs) (drop i ns) =
      rw (b, n) in
      let next : first_code + (i + 1) ≡ first_code + i + 1 = omega arith in
      record {
        done = h.done ++ line;
        laid = record {
          laid = l.laid ∙ ap (λ (x : List ℕ). sets x at line) h.laid.laid ∙ sets-append h.done line out₀ from at h.laid.next;
          next = rw (length-append h.done line) (omega (arith, l.next, h.laid.next));
        };
        whole = rw (next, add-one i, append_assoc) (ap (λ (x : List ℕ). h.done ++ x) step ∙ h.whole);
        few = omega (arith, h.few);
        below = omega arith;
        befores = h.befores;
        afters = h.afters;
      }

  -- After the last wire.
  pub ended : Halfway begun bs ns out₀ from out at i → 8 ≤ i → Lays (values_of begun first_code bs ns) out₀ from at out
  ended h k =
      let m : length bs ≤ i = omega (arith, h.befores) in
      let b : drop i bs ≡ [] = drop_of_length-le bs m in
      let all : h.done ≡ values_of begun first_code bs ns = sym (append-nil h.done) ∙ (rw b at h.whole) in
      rw all at h.laid

  -- The buffer keeps its length.
  pub same-room : Halfway begun bs ns out₀ from out at i → length out ≡ length out₀
  same-room h = ap length h.laid.laid ∙ length-sets out₀ from h.done
