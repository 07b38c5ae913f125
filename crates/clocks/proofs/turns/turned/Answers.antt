-- `clocks::turns::turned` meets its contract.
use native.Mathlib.Omega.{arith}
use mathlib.Core.Path.{refl, sym, ◌∙◌}
use Rattle.clocks.proofs.Seeing.{high-seen, rise-seen, low-seen, fall-none, fall-few, fall-bit}
use Rattle.clocks.proofs.Clocking.{turned-quiet, turned_bit, heard-talk, sent-talk}
use Rattle.clocks.proofs.turns.turned.Goals as goal

pub returns-then-now : goal.returns-then-now
returns-then-now c =
    let p = c.scl-clock.ensures in
    let q = c.line-data.ensures in
    turned-quiet _ _ p q refl (high-seen _ _ _ _ _ c.if-now.true c.if-clock.true (rw (p, q) c.requires.shown)) (λ x. refl)

pub returns-then-clock : goal.returns-then-clock
returns-then-clock c = turned-quiet _ _ c.scl-clock.ensures c.line-data.ensures refl (rise-seen _ _ _ _ _ c.if-now.false c.if-clock.true) (λ x. refl)

pub overflow_add-next : goal.overflow_add-next
overflow_add-next c =
    let low = sym c.scl-clock.ensures ∙ c.if-clock.false in
    omega (arith, fall-few _ _ _ _ _ _ _ _ c.if-now-2.true low c.if-now-3.true c.requires.shown)

pub returns-then-sends : goal.returns-then-sends
returns-then-sends c =
    let p = c.scl-clock.ensures in
    let few = fall-few _ _ _ _ _ _ _ _ c.if-now-2.true (sym p ∙ c.if-clock.false) c.if-now-3.true c.requires.shown in
    turned_bit _ _ p c.line-data.ensures refl (rw c.push.ensures (fall-bit _ _ _ _ _ _ _ _ c.if-now-2.true c.if-clock.false c.if-now-3.true few)) (λ x h. sent-talk x c.args.now _ _ _ h c.if-sends.true c.shifted.ensures c.top.ensures)

pub returns-then-now-3 : goal.returns-then-now-3
returns-then-now-3 c =
    let p = c.scl-clock.ensures in
    let few = fall-few _ _ _ _ _ _ _ _ c.if-now-2.true (sym p ∙ c.if-clock.false) c.if-now-3.true c.requires.shown in
    turned_bit _ _ p c.line-data.ensures refl (rw c.push.ensures (fall-bit _ _ _ _ _ _ _ _ c.if-now-2.true c.if-clock.false c.if-now-3.true few)) (λ x h. heard-talk x c.args.now _ h c.if-sends.false)

pub returns-then-now-2 : goal.returns-then-now-2
returns-then-now-2 c =
    turned-quiet _ _ c.scl-clock.ensures c.line-data.ensures refl (fall-none _ _ _ _ _ _ _ _ c.if-now-2.true c.if-clock.false c.if-now-3.false) (λ x. refl)

pub returns : goal.returns
returns c = turned-quiet _ _ c.scl-clock.ensures c.line-data.ensures refl (low-seen _ _ _ _ _ c.if-now-2.false c.if-clock.false) (λ x. refl)
