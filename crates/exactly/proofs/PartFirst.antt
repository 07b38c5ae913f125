-- Refusals 1 and 5, that stand before all else in an operation on a part's image, exactly when. Assumes nothing.
use Prim.Native.Nat.{ℕ, ◌<◌}
use mathlib.Core.Logic.{◌↔◌}
use mathlib.Core.Path.{◌≡◌, sym, ◌∙◌}
use native.Mathlib.Omega.{arith}
use Rattle.ground.specs.Kind.{known}
use Rattle.ground.specs.Verdict.{Verdict, accepted, refused}
use Rattle.image.specs.Promises.{sized}
use Rattle.exactly.specs.Words.{KnownPart, SizeOf}
use Rattle.exactly.proofs.Decides.{holds, fails}
use Rattle.exactly.proofs.Words.{size-known, decides-part, decides-size}
use Rattle.exactly.proofs.Steps.{step, Above, above_step, stop, stopped, past, passed, through}

-- A verdict that tests the part, then the length n of its array, and then comes to the rest.
module _ (part n : ℕ) (all rest : Verdict) (e : all ≡ step (known part) 1 (step (sized part n) 5 rest)) where
  -- What holds where the rest decides.
  pub past-size : (k p : ℕ) → 5 < k → all ≡ refused k p → SizeOf part n × (rest ≡ refused k p)
  past-size k p h f =
      let t = past (known part) 1 k p (step (sized part n) 5 rest) (omega arith) (sym e ∙ f) in
      let u = past (sized part n) 5 k p rest h t.1 in
      ((decides-size part n ((decides-part part).yes t.0)).yes u.0, u.1)

  pub through-size : (m : ℕ) → all ≡ accepted m → SizeOf part n × (rest ≡ accepted m)
  through-size m f =
      let t = through (known part) 1 m (step (sized part n) 5 rest) (sym e ∙ f) in
      let u = through (sized part n) 5 m rest t.1 in
      ((decides-size part n ((decides-part part).yes t.0)).yes u.0, u.1)

  -- Where the tests pass the rest decides.
  to-size : KnownPart part → all ≡ step (sized part n) 5 rest
  to-size k = e ∙ passed (known part) 1 (step (sized part n) 5 rest) (holds (decides-part part) k)

  pub to-rest : SizeOf part n → all ≡ rest
  to-rest s =
      let k = size-known part n s in
      to-size k ∙ passed (sized part n) 5 rest (holds (decides-size part n k) s)

  -- 1 and 5, where the rest has only higher numbers.
  module _ (a : Above 5 rest) where
    pub one : (p : ℕ) → (all ≡ refused 1 p) ↔ ((p ≡ 0) × ¬ KnownPart part)
    one p = (
      λ f.
          let above : Above 1 (step (sized part n) 5 rest) =
          above_step (sized part n) 1 5 rest (omega arith) (λ j q g. let h = a j q g in omega arith) in
          let t = stop (known part) 1 p (step (sized part n) 5 rest) above (sym e ∙ f) in
          (t.1, (decides-part part).no t.0),
      λ h. e ∙ stopped (known part) 1 p (step (sized part n) 5 rest) (fails (decides-part part) h.1) h.0,
    )

    pub five : (p : ℕ) → (all ≡ refused 5 p) ↔ ((p ≡ 0) × KnownPart part × ¬ SizeOf part n)
    five p = (
      λ f.
          let t = past (known part) 1 5 p (step (sized part n) 5 rest) (omega arith) (sym e ∙ f) in
          let k = (decides-part part).yes t.0 in
          let u = stop (sized part n) 5 p rest a t.1 in
          (u.1, k, (decides-size part n k).no u.0),
      λ h. to-size h.1 ∙ stopped (sized part n) 5 p rest (fails (decides-size part n h.1) h.2) h.0,
    )
