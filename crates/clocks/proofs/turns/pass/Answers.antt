-- `clocks::turns::pass` meets its contract: whatever stood before it stands after each sample.
use Prim.Native.Nat.{ℕ, ◌<◌, ◌≤◌}
use mathlib.Core.List.{List}
use mathlib.Core.Path.{◌≡◌, ◌∙◌}
use native.Mathlib.Omega.{arith}
use lib.ListN.{get_or}
use Rattle.clocks.specs.Clocks.{turn_of}
use Rattle.clocks.specs.declared.turns.Clocks.{Clocks}
use Rattle.clocks.specs.declared.turns.Turn.{Turn}
use Rattle.clocks.proofs.Clocking.{comes-plain}
use Rattle.clocks.proofs.Standing.{told-long}
use Rattle.clocks.proofs.Arms.{plain_turn}
use Rattle.clocks.proofs.turns.pass.Goals as goal

-- Where the first sample is plain the loop does not stop before it.
passed : {from i : ℕ} {c c' : Clocks} → from ≤ i → (i ≡ from → c' ≡ c) → (es ls : List ℕ) {t : Turn} → t ≡ turn_of c' (get_or es i 0) (get_or ls i 0)
    → turn_of c (get_or es from 0) (get_or ls from 0) ≡ Turn.Plain → (t ≡ Turn.Plain → ⊥) → from < i
passed {from} {i} {c} {c'} o f es ls {t} q p n =
    let z : i ≡ from → ⊥ = λ e. n (q ∙ rw (e, f e) p) in
    omega arith

pub turned-now-requires : goal.turned-now-requires
turned-now-requires c = comes-plain _ _ _ c.turn_of-turn.ensures c.in-Plain.is

pub loop-i-preserved : goal.loop-i-preserved
loop-i-preserved c =
    let at = c.loop-i in
    let inv = at.invariant.3 in
    let told = c.tell-at.ensures in (
      at.invariant.0,
      at.invariant.1,
      told.next,
      record {
        first = λ e. absurd (omega arith);
        long = told-long told ∙ inv.long;
        stands = λ s array row₀ first t d m n g. rw (← told.next) (plain_turn (inv.stands s array row₀ first t d m n g) c.loop-i-test.true _ _ _ _ (comes-plain _ _ _ c.turn_of-turn.ensures c.in-Plain.is) c.turned-now.ensures n told);
      },
    )

pub returns-after-loop-i : goal.returns-after-loop-i
returns-after-loop-i c =
    let inv = c.loop-i.invariant.3 in
    record { onward = omega arith; moves = λ p h. omega arith; long = inv.long; stands = rw c.loop-i.invariant.2 inv.stands }

pub returns-in_default : goal.returns-in_default
returns-in_default c =
    let inv = c.loop-i.invariant.3 in
    let e = c.loop-i.invariant.2 in
    record {
      onward = omega arith;
      moves = λ p h. rw e (passed (omega arith) inv.first c.args.elapsed.now c.args.levels.now c.turn_of-turn.ensures p c.in_default.not-Plain);
      long = inv.long;
      stands = rw e inv.stands;
    }
