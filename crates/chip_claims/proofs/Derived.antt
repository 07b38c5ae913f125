-- What follows from the claims on the part: each is used whole, for any state and any rows. Each law rests on the claims that it names.
use Prim.Native.Nat.{ℕ}
use mathlib.Core.Bool.{Bool, true, false}
use mathlib.Core.List.{List}
use mathlib.Core.Path.{◌≡◌, refl, ap, sym, subst, ◌∙◌}
use lib.Dec.{leb}
use Rattle.ground.specs.Numbers.{most_select}
use Rattle.ground.specs.Kind.{known}
use Rattle.ground.specs.Verdict.{Verdict, accepted, refused}
use Rattle.ground.proofs.Verdicts.{apart}
use Rattle.refusals.specs.Refusals.{storable, power_by, power_of, judged_of}
use Rattle.refusals.proofs.Laws.{rows-equal}
use Rattle.power.specs.Power.{powered_up, at_power}
use Rattle.sample.specs.Run.{Part, run_of, part_after}
use Rattle.ranges.specs.Fit.{Fit}
use Rattle.reachable.specs.Reachable.{Reachable, Keeps}
use Rattle.demand2.specs.Demand2.{Demand2}
use Rattle.demand2.proofs.Judged.{judged-fit}
use Rattle.demand3.specs.Differ.{TwoParts}
use Rattle.demand3_runs.proofs.Computed.{real-holds}
use Rattle.chip_claims.specs.Demand3.{over, Demand3, ReplayDemand3, PowerDemand3, ComputedForm}
use Rattle.chip_claims.specs.States.{ReachableStates, HandedOut, StaysFit, FitAgain}

-- Demand 3 of two outcomes of the operation.
pub replay-from : Demand2 → Demand3 → ReplayDemand3
unfolding judged_of
replay-from d2 d3 =
    record {
      verdict = λ a s xs ys es ls row but. rw but.lengths;
      compared = λ a s xs ys es ls row row₂ n m r q xs' ys' said said₂ w but x y.
          let t : TwoParts a es ls (over s xs) (over s ys) = d3.alike a s xs ys es ls w but in
          let u = (d2.whole s es ls xs row n r xs' said x).runs in
          let v = (d2.whole s es ls ys row₂ m q ys' said₂ y).runs in
          record {
            first = rw (u.said, v.said) t.first;
            reached = λ k f. rw (u.said, v.said) (t.reached k f);
            unreached = λ f.
                let g = t.unreached f in
                (u.said ∙ g.answers ∙ sym v.said, rw (u.state, v.state) g.states, rw (u.kept, v.kept) g.arrays);
            one = λ f e. d3.one r.state q.state (rw (u.state, v.state) (t.unreached f).states) e;
            covered = λ k f.
                let g = t.covered k f in (
                  u.said ∙ g.answers ∙ sym v.said,
                  u.state ∙ ap (λ (z : Part). z.state) g.after ∙ sym v.state,
                  u.kept ∙ ap (λ (z : Part). z.array) g.after ∙ sym v.kept,
                );
          };
    }

-- Demand 3 of reachable parts: their load is whole.
pub power-from : Demand3 → ReachableStates → PowerDemand3
power-from d3 states =
    record {
      alike = λ a p ys es ls r but.
          let kept : Keeps p.state = states.keeps p r in
          let k = kept.whole in
          d3.alike a p.state p.array ys es ls (record { bytes = k.bytes; marks = k.marks }) but;
    }

-- Demand 3 in the form that computes.
pub form-from : Demand3 → ComputedForm
form-from d3 =
    record { holds = λ a s xs ys es ls w but. real-holds a es ls (over s xs) (over s ys) (d3.alike a s xs ys es ls w but) }

-- An accepted power-up is accepted with 0.
power_zero : (a b c : Bool) (n : ℕ) → power_by a b c ≡ accepted n → power_by a b c ≡ accepted 0
power_zero true true true n e = refl
power_zero true true false n e = absurd (apart 3 0 n e)
power_zero true false c n e = absurd (apart 2 0 n e)
power_zero false b c n e = absurd (apart 1 0 n e)

-- So says its verdict.
power-none : (part select stored n : ℕ) → power_of part select stored ≡ accepted n → power_of part select stored ≡ accepted 0
unfolding power_of
power-none part select stored n e = power_zero (known part) (leb select most_select) (storable stored) n e

-- A reachable part after a replay, by its verdict.
replayed : ReachableStates → (p : Part) (es ls row : List ℕ) (v : Verdict) → judged_of p.state es ls p.array row ≡ v
    → Reachable p → Reachable (part_after v es ls p)
replayed states p es ls row (accepted n) e r = states.rows p es ls r (rows-equal p.state es ls p.array row n e).0
replayed states p es ls row (refused k q) e r = r

-- What the operations hand out.
pub handed-from : ReachableStates → HandedOut
handed-from states =
    record {
      power = λ part select stored n array r x e h.
          let v = power-none part select stored n (sym x.reply ∙ e) in
          let s : r.state ≡ powered_up part select stored = x.state ∙ rw v in
          let q : over r.state array ≡ at_power part select stored array = λ i. record { state = s i; array = array } in
          let g : Reachable (over r.state array) =
          subst (λ (z : Part). Reachable z) (sym q) (states.power part select stored array v h)
          in
          (states.keeps (over r.state array) g, g);
      replay = λ p es ls row r array' row' g x.
          let v = judged_of p.state es ls p.array row in
          let q : over r.state array' ≡ part_after v es ls p = λ i. record { state = x.state i; array = x.kept i } in
          let h : Reachable (over r.state array') =
          subst (λ (z : Part). Reachable z) (sym q) (replayed states p es ls row v refl g)
          in
          (states.keeps (over r.state array') h, states.holds (over r.state array') h, h);
    }

-- An accepted replay leaves a part that is fit again.
pub fit-from : Demand2 → StaysFit → FitAgain
fit-from d2 stays =
    record {
      fit = λ s es ls array row n r array' row' x.
          let u = (d2.whole s es ls array row n r array' row' x).runs in
          let q : over r.state array' ≡ run_of es ls (over s array) = λ i. record { state = u.state i; array = u.kept i } in
          subst (λ (z : Part). Fit z) (sym q) (stays.fit (over s array) es ls (judged-fit s es ls array row n x.judged));
    }
