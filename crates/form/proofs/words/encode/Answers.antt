-- `form::words::encode` meets its contract: what is laid so far, and what is left to lay over the rest, is the whole.
use Prim.Native.Nat.{◌+◌, ◌-◌, ◌*◌, ◌≤◌}
use mathlib.Core.Path.{◌≡◌, refl, ap, ◌∙◌}
use native.Mathlib.Omega.{arith}
use lib.ListN.{length, drop, length-drop}
use Rattle.form.proofs.Laws.{laid-within, encode-turn, encode-short, encode-whole}
use Rattle.form.proofs.words.encode.Goals as goal

pub loop-i-init : goal.loop-i-init
loop-i-init c = record { within = omega arith; whole = refl }

pub overflow_sub-out : goal.overflow_sub-out
overflow_sub-out c = c.loop-i.invariant.within

pub returns-then-out-at-lt-WORD : goal.returns-then-out-at-lt-WORD
returns-then-out-at-lt-WORD c =
    let at = c.loop-i in
    encode-short (drop at.i c.args.words.now) at.out _ (4 * at.i) (simp length-drop (omega arith)) at.invariant.whole

pub loop-i-preserved : goal.loop-i-preserved
loop-i-preserved c =
    let at = c.loop-i in
    let words = c.args.words.now in
    let stored = c.copy_from_slice.new.self in
    let h : 4 * at.i + 4 ≤ length at.out = omega arith in
    let k : 4 * at.i + 4 - 4 * at.i ≡ 4 = omega arith in
    let four : 4 * (at.i + 1) ≡ 4 * at.i + 4 = omega arith in
    let b = c.copy_from_slice.ensures.after ∙ c.to_le_bytes.ensures in
    record {
      within = rw four (laid-within at.out stored (4 * at.i) _ h k (ap length b));
      whole = rw four (encode-turn words at.out stored (4 * at.i) at.i _ _ h k c.loop-i-test.true refl b ∙ at.invariant.whole);
    }

pub returns : goal.returns
returns c =
    let at = c.loop-i in
    encode-whole c.args.words.now at.out _ (4 * at.i) at.i (omega arith) at.invariant.whole
