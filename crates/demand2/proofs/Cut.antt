-- An accepted capture cut at a sample: whatever the replays of its pieces come to, state and array carried on, is what the replay of the
-- whole came to. It rests on demand 2, each part of which is used.
use Prim.Native.Nat.{ℕ, ◌+◌, ◌≤◌}
use mathlib.Core.List.{List, ◌++◌}
use mathlib.Core.Path.{◌≡◌, ap, sym, ◌∙◌}
use native.Mathlib.Omega.{arith}
use lib.ListN.{length, take, drop, length-take, length-drop, take-append-drop}
use borrow.Author.Tests.{leb-true}
use Rattle.ground.specs.Numbers.{most_samples}
use Rattle.part.specs.declared.state.State.{State}
use Rattle.ground.specs.Verdict.{accepted}
use Rattle.refusals.specs.Refusals.{judged_of}
use Rattle.std.specs.Prelude.{Ok}
use Rattle.power.specs.declared.Replayed.{Replayed}
use Rattle.sample.specs.Run.{Part, run_of}
use Rattle.twin.specs.Promises.{Replays}
use Rattle.demand2.specs.Demand2.{Accepts, ByRules, Joined, Demand2}
use Rattle.refusals.proofs.Laws.{judged-passed}

module _ (d : Demand2) (s : State) (es ls array row row₁ row₂ : List ℕ) (k m : ℕ) (r r₁ r₂ : Replayed)
    (array' array₁ array₂ said said₁ said₂ : List ℕ) where
  -- The pieces joined.
  pub cut-joined : Accepts s es ls array row (k + m) r array' said → length row₁ ≡ k → length row₂ ≡ m
      → Replays s (take k es) (take k ls) array row₁ r₁ array₁ said₁
      → Replays r₁.state (drop k es) (drop k ls) array₁ row₂ r₂ array₂ said₂
      → Joined k m r r₁ r₂ array' array₂ said said₁ said₂
  cut-joined x a b y z =
      let p : Part = record { state = s; array = array } in
      let c = d.count s es ls array row (k + m) x.judged in
      let te : take k es ++ drop k es ≡ es = take-append-drop k es in
      let tl : take k ls ++ drop k ls ≡ ls = take-append-drop k ls in
      let le : length (take k es) ≡ k = length-take k es ∙ omega (arith, c.elapsed) in
      let ll : length (take k ls) ≡ k = length-take k ls ∙ omega (arith, c.levels) in
      let dl : length (drop k ls) ≡ m = length-drop k ls ∙ omega (arith, c.levels) in
      let few = leb-true (length ls) most_samples (judged-passed s es ls array row (k + m) x.judged).few-enough in
      let most : k + m ≤ most_samples = omega (arith, c.levels, few) in
      let w : judged_of s (take k es ++ drop k es) (take k ls ++ drop k ls) array row ≡ accepted (k + m) = rw (te, tl) x.judged in
      let q = d.pieces (take k es) (take k ls) (drop k es) (drop k ls) in
      let t : (judged_of s (take k es) (take k ls) array row₁ ≡ accepted (length (take k ls)))
      × (judged_of (run_of (take k es) (take k ls) p).state (drop k es) (drop k ls) (run_of (take k es) (take k ls) p).array row₂
      ≡ accepted (length (drop k ls)))
      = q.split p row row₁ row₂ (k + m) (le ∙ sym ll) w (a ∙ sym ll) (b ∙ sym dl) in
      let x₁ : Accepts s (take k es) (take k ls) array row₁ k r₁ array₁ said₁ =
      record { judged = t.0 ∙ ap accepted ll; replays = y }
      in
      let u : ByRules s (take k es) (take k ls) array row₁ k r₁ array₁ said₁ = d.whole s (take k es) (take k ls) array row₁ k r₁ array₁ said₁ x₁ in
      let x₂ : Accepts r₁.state (drop k es) (drop k ls) array₁ row₂ m r₂ array₂ said₂ =
      record { judged = rw (u.runs.state, u.runs.kept) (t.1 ∙ ap accepted dl); replays = z }
      in
      let v = d.whole r₁.state (drop k es) (drop k ls) array₁ row₂ m r₂ array₂ said₂ x₂ in
      let both = q.replay s array row row₁ row₂ k m r₁ r₂ array₁ array₂ said₁ said₂ x₁ x₂ c.answers most in
      let g : Accepts s es ls array row (k + m) (record { reply = Ok (k + m); state = r₂.state }) array₂ (said₁ ++ said₂) =
      rw (te, tl) at both
      in
      let h = d.whole s es ls array row (k + m) (record { reply = Ok (k + m); state = r₂.state }) array₂ (said₁ ++ said₂) g in
      let i = d.whole s es ls array row (k + m) r array' said x in
      record {
        first = u.reply;
        second = v.reply;
        state = i.runs.state ∙ sym h.runs.state;
        kept = i.runs.kept ∙ sym h.runs.kept;
        answers = i.runs.said ∙ sym h.runs.said;
      }
