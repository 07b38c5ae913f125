-- `page::lay` meets its contract: what is laid so far, and what is left to lay over the rest, is the whole.
use Prim.Native.Nat.{suc, ◌<◌, ◌≤◌}
use mathlib.Core.Bool.{true}
use mathlib.Core.Path.{◌≡◌, sym, ◌∙◌}
use mathlib.Core.Logic.{◌⊎◌, inl, inr}
use native.Mathlib.Omega.{arith}
use native.Mathlib.Numerals.{add-one}
use lib.ListN.{length}
use Rattle.std.specs.Iterator.Adapters.{enumerate_source, enumerate_count, zip_first, zip_second}
use Rattle.std.specs.Slice.Iter.{iter_rest}
use Rattle.page.proofs.Laws.{lay-turn, lay-kept, lay-short, lay-whole}
use Rattle.page.proofs.lay.Goals as goal
use Rattle.page.proofs.lay.Goals.{else-mark-via-then-mark+else-index-page, else-mark-via-else-mark}

pub loop-index-preserved-then-index-page : goal.loop-index-preserved-then-index-page
loop-index-preserved-then-index-page c =
    let s = c.in-Some.ensures.steps in
    let h : enumerate_count c.loop-index.index-iterator < length c.loop-index.page = rw s.1 at c.if-index-page.true in
    rw (s.2, s.1, add-one)
    (lay-turn true c.in-Some.byte.now _ _ _ _ h ∙ (rw (s.0.0, s.0.1, c.if-mark.true) at c.loop-index.invariant))

pub loop-index-preserved : goal.loop-index-preserved
loop-index-preserved c =
    let s = c.in-Some.ensures.steps in
    elim c.else-mark.branch [
      | else-mark-via-then-mark+else-index-page w ↦
          let it = c.loop-index.index-iterator in
          let h : length c.loop-index.page ≤ enumerate_count it = omega (arith, s.1, w.if-index-page.false) in
          let k : length c.loop-index.page ≤ suc (enumerate_count it) = omega (arith, h) in
          rw (s.2, add-one) (lay-short _ _ _ _ k ∙ sym (lay-short _ _ _ _ h) ∙ c.loop-index.invariant)
      | else-mark-via-else-mark w ↦
          rw (s.2, add-one)
          (lay-kept c.in-Some.byte.now _ _ _ _ ∙ (rw (s.0.0, s.0.1, w.if-mark.false) at c.loop-index.invariant))
    ]

pub returns : goal.returns
returns c =
    let it = c.loop-index.index-iterator in
    let marks = iter_rest (zip_first (enumerate_source it)) in
    let bytes = iter_rest (zip_second (enumerate_source it)) in
    let e : (length marks ≡ 0) ⊎ (length bytes ≡ 0) =
    elim c.in-None.ensures.steps.0 [ inl x ↦ inl x.1.0 | inr x ↦ inr x.1.0 ] in
    sym (lay-whole marks bytes c.loop-index.page (enumerate_count it) e) ∙ c.loop-index.invariant
