-- Laws of reading plain values of a moment, and what is left behind them. Assumes nothing.
use Prim.Native.Nat.{ℕ, zero, suc, ◌/◌, ◌%◌, ◌≤◌, min}
use mathlib.Core.Bool.{Bool, true, false}
use mathlib.Core.List.{List, [], ◌∷◌}
use mathlib.Core.Path.{◌≡◌, refl, ap, sym, ◌∙◌}
use native.Mathlib.Nat.{zero-min, suc-min-suc, min-zero}
use native.Mathlib.Omega.{arith}
use lib.Dec.{eqb}
use lib.ListN.{length, drop}
use borrow.Author.Tests.{eqb-true, eqb-false, ne_eqb}
use Rattle.std.specs.Prelude.{Some, None}
use Rattle.tokens.specs.Tokens.{words_of}
use Rattle.sections.specs.declared.Place.TheVariants as place
use Rattle.sections.specs.Sections.{times, puts}
use Rattle.wires.specs.Wires.{laid}
use Rattle.wires.specs.Values.{level_of}
use Rattle.dumps.specs.Defined.{body_at}
use Rattle.dumps.specs.Samples.{moments_from}
use Rattle.changes.specs.declared.Mode.TheVariants.{Between}
use Rattle.changes.specs.declared.Change.TheVariants.{Time, Value}
use Rattle.changes.proofs.Meanings.{means-time, means-value}
use Rattle.glances.specs.Parts.{Sees}
use Rattle.pieces.specs.declared.Moved.{Moved}
use Rattle.pieces.specs.declared.quick.Taken.{Taken}
use Rattle.pieces.specs.Parts as parts
use Rattle.pieces.specs.Parts.{Takes, as_far_as}
use Rattle.pieces.proofs.Reading.{Moving, moving-value, moves-time}

-- The level of a value of 0 or 1.
level_by_lem : (c : ℕ) (b : Bool) → eqb c 0x31 ≡ b → c / 2 ≡ 0x18 → c % 2 ≡ level_of c
unfolding level_of
level_by_lem c true e h = let k = eqb-true c 0x31 e in rw e (omega arith)
level_by_lem c false e h =
    let n : c ≡ 0x31 → ⊥ = eqb-false c 0x31 e in
    rw (e, ne_eqb c 0x7A (λ e. absurd (omega arith)), ne_eqb c 0x5A (λ e. absurd (omega arith))) (omega arith)

pub level-plain : (c : ℕ) → c / 2 ≡ 0x18 → c % 2 ≡ level_of c
level-plain c h = level_by_lem c (eqb c 0x31) refl h

-- One plain token more; lines do not count here.
module _ (dump : List ℕ) (start level at levels : ℕ) (m : Moving dump start level at 0 Between levels) where
  pub stopped : (r : Taken) → r ≡ record { at = at; level = levels; closed = None } → Takes dump start level r
  stopped r e = rw e (record { inside = m.inside; moments = m.moments; low = m.low })

  module _ (to on : ℕ) where
    pub plain_value : (c marks : ℕ) {v l : ℕ} → Sees dump at 0 to on (puts c marks) → v ≡ level_of c → l ≡ laid v marks levels → l ≤ 15
        → Moving dump start level to 0 Between l
    plain_value c marks s v k n =
        let r =
        moving-value dump start level at 0 Between levels m s.from to on s.word (Some (Value c marks)) (means-value _ c marks refl ∙ sym s.said) c marks refl v k n in
        record { inside = r.inside; small = omega arith; moments = r.moments; low = r.low }

    pub plain-time : (t : ℕ) → Sees dump at 0 to on (times t)
        → Takes dump start level (record { at = to; level = levels; closed = Some t })
    plain-time t s =
        let r =
        moves-time dump start level at 0 Between levels m s.from to on s.word (Some (Time t)) (means-time _ t refl ∙ sym s.said) t refl in
        record { inside = s.word.inside; moments = r.moments; low = r.low }

-- A place past the end is the end.
drop_min : (n : ℕ) (xs : List ℕ) → drop (min n (length xs)) xs ≡ drop n xs
drop_min zero xs = rw (zero-min (length xs))
drop_min (suc n) [] = rw (min-zero (suc n))
drop_min (suc n) (x ∷ xs) = rw (suc-min-suc n (length xs)) (drop_min n xs)

-- The values of a moment: the plain ones, and those behind them.
module _ (dump : List ℕ) (start at level : ℕ) (e : at ≡ min start (length dump)) where
  same-moments : (time : ℕ) → moments_from (body_at dump place.Between true) (words_of (drop start dump)) time level
      ≡ moments_from (body_at dump place.Between true) (words_of (drop at dump)) time level
  same-moments time = rw (e, drop_min start dump)

  module _ (r : Taken) (k : Takes dump at level r) where
    pub taken-closed : (t : ℕ) → r.closed ≡ Some t
        → parts.Moves dump start level (record { level = r.level; next = Some (record { at = r.at; time = t }) })
    taken-closed t c =
        record { moments = λ time. same-moments time ∙ k.moments time ∙ ap (as_far_as dump time r.at r.level) c; low = k.low }

    pub taken-left : (v : Moved) → r.closed ≡ None → parts.Moves dump r.at r.level v → parts.Moves dump start level v
    taken-left v c m =
        record {
          moments = λ time. same-moments time ∙ k.moments time ∙ ap (as_far_as dump time r.at r.level) c ∙ m.moments time;
          low = λ h. m.low (k.low h);
        }
