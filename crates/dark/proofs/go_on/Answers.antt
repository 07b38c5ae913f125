-- `dark::go_on` meets its contract: before each sample a dark part stands where the samples so far have brought it.
use Prim.Native.Nat.{ℕ}
use mathlib.Core.Bool.{true}
use mathlib.Core.Path.{refl, sym, ap, ◌∙◌}
use Rattle.clocks.specs.Rooms.{base_of}
use Rattle.clocks.proofs.Going.{goes_none}
use Rattle.clocks.proofs.Standing.{told-long}
use Rattle.dark.proofs.Darkness.{dark-goes}
use Rattle.dark.proofs.go_on.Goals as goal

pub loop-i-init : goal.loop-i-init
loop-i-init c =
    let pre = c.requires in
    (pre.elapsed_len, pre.row_len, record { goes = λ s array h k. goes_none _ _ _ _ _ pre.at_in_bounds; long = refl })

pub loop-i-preserved : goal.loop-i-preserved
loop-i-preserved c =
    let at = c.loop-i in
    let inv = at.invariant.2 in
    let told = c.tell.ensures in
    let v = sym c.vcc.ensures ∙ c.if-vcc.false in (
      at.invariant.0,
      at.invariant.1,
      record {
        goes = λ s array h k. rw (c.sda.ensures, c.scl.ensures, c.saturating_sub-write.ensures, ← told.next) (dark-goes s h (inv.goes s array h k) at.invariant.0 at.invariant.1 c.loop-i-test.true v k (c.base_of.ensures.worth ∙ ap (λ (n : ℕ). base_of c.args.high true n) c.saturating_sub-write.ensures) told);
        long = told-long told ∙ inv.long;
      },
    )
