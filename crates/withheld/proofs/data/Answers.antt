-- `withheld::data` meets its contract: a locked page's extent is not empty, so it has a last page.
use mathlib.Core.Path.{◌≡◌, sym, ap, ◌∙◌}
use native.Mathlib.Omega.{arith}
use Rattle.lock.specs.Lock.{block_code, extent_of}
use Rattle.lock.specs.declared.Extent.{Extent}
use Rattle.withheld.proofs.Pages.{locked-within}
use Rattle.withheld.proofs.data.Goals as goal

pub overflow_sub-last : goal.overflow_sub-last
overflow_sub-last c =
    let a = c.args in
    let w = locked-within a.kind a.control.stored a.counter (sym c.locked.ensures ∙ c.if-not-locked.false) in
    let e : c.extent_of-extent.result ≡ extent_of a.kind (block_code a.control.stored) = rw c.block_code-code.ensures at c.extent_of-extent.ensures in
    omega (arith, w.high, ap (λ (x : Extent). x.to) e)
