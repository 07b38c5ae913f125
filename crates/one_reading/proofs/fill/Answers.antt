-- `one_reading::fill` meets its contract. The loop's invariant: the samples filled in stand in the rows, and the track behind them is sound.
-- Assumes nothing.
use mathlib.Core.Path.{◌≡◌}
use Rattle.std.proofs.Common.{rules}
use Rattle.one_reading.proofs.Pieces.{behind_it, reading-repeat, reading-passed, reading-closed, reads-full, reads_over}
use Rattle.one_reading.proofs.fill.Goals as goal

pub returns-in_default : goal.returns-in_default
returns-in_default c = reads_over _ _ _ _ _ _ _ _ c.loop-i.invariant c.in_default.is

pub loop-i-preserved-then-here-gt-MOST_ELAPSED : goal.loop-i-preserved-then-here-gt-MOST_ELAPSED
loop-i-preserved-then-here-gt-MOST_ELAPSED c =
    reading-repeat _ _ _ _ _ _ _ _ c.loop-i.invariant _ c.in-Some.is c.loop-i-test.true c.if-here-gt-MOST_ELAPSED.true

pub returns-then-count-levels : goal.returns-then-count-levels
returns-then-count-levels c =
    reads-full _ _ _ _ _ _ _ _ (reading-passed _ _ _ _ _ _ _ _ c.loop-i.invariant _ c.in-Some.is _ _ _ c.pass-passed.ensures) c.if-count-levels.true

pub loop-i-preserved : goal.loop-i-preserved
loop-i-preserved c =
    let e : c.map-track.result ≡ behind_it c.args.dump.now c.args.from c.args.elapsed.now c.args.levels.now c.in_ok-closed.closed c.behind-behind.result = search rules in
    reading-closed _ _ _ _ _ _ _ _
    (reading-passed _ _ _ _ _ _ _ _ c.loop-i.invariant _ c.in-Some.is _ _ _ c.pass-passed.ensures) _ _ _
    c.if-count-levels.false c.pass-passed.ensures.near c.in_ok-closed.ensures c.behind-behind.ensures e
