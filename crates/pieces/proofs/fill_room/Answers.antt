-- `pieces::fill_room` meets its contract. The loop's invariant: the samples filled in stand in the rows, and the mark has the rest left.
-- Assumes nothing.
use Prim.Native.Nat.{◌<◌, ◌≤◌}
use mathlib.Core.Path.{◌≡◌}
use native.Mathlib.Omega.{arith}
use lib.ListN.{length}
use Rattle.std.proofs.lemmas.List.{set-get_or}
use Rattle.pieces.proofs.Filling.{filling-none, filling-far, filling-near, filled-full, filled-over}
use Rattle.pieces.proofs.fill_room.Goals as goal
use Rattle.pieces.proofs.fill_room.Goals.{then-here-gt-MOST_ELAPSED, else-here-gt-MOST_ELAPSED}

pub loop-i-init : goal.loop-i-init
loop-i-init c = filling-none _ _ _ _ c.requires.elapsed_len

pub returns-in_default : goal.returns-in_default
returns-in_default c = rw set-get_or (filled-over _ _ _ _ _ _ _ _ c.loop-i.invariant c.in_default.is)

pub loop-i-preserved : goal.loop-i-preserved
loop-i-preserved c =
    let h : c.loop-i.i < length c.loop-i.levels = omega (arith, c.loop-i.invariant.long, c.loop-i-test.true) in
    elim c.if-here-gt-MOST_ELAPSED.branch [
      | then-here-gt-MOST_ELAPSED w ↦
          rw (w.mark-is, w.elapsed-is, w.levels-is)
          (filling-far _ _ _ _ _ _ _ _ c.loop-i.invariant _ c.in-Some.is _ (omega arith) h (omega arith))
      | else-here-gt-MOST_ELAPSED w ↦
          rw (w.mark-is, w.elapsed-is, w.levels-is)
          (filling-near _ _ _ _ _ _ _ _ c.loop-i.invariant _ c.in-Some.is _ (omega arith) h _ _ (omega arith) w.take_values-moved.ensures w.behind-mark.ensures)
    ]

pub returns : goal.returns
returns c =
    let h : length c.loop-i.levels ≤ c.loop-i.i = omega (arith, c.loop-i.invariant.long, c.loop-i-test.false) in
    let e : length c.loop-i.levels ≡ c.loop-i.i = omega (arith, c.loop-i.invariant.long, c.loop-i.invariant.room) in
    rw e (filled-full _ _ _ _ _ _ _ _ c.loop-i.invariant h)
