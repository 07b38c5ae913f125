-- `page::store` meets its contract.
use mathlib.Core.Path.{sym}
use Rattle.page.specs.Page.{store_of, lay_of}
use Rattle.ground.proofs.Rows.{part-back}
use Rattle.page.proofs.Laws.{store-beyond}
use Rattle.page.proofs.store.Goals as goal

pub returns-then-first-array : goal.returns-then-first-array
unfolding store_of
returns-then-first-array c =
    let a = c.args in
    rw (← c.from-first.ensures) (part-back (lay_of a.load.marks a.load.bytes) c.from-first.result a.array.now _ c.lay.ensures)

pub returns-else-first-array : goal.returns-else-first-array
unfolding store_of
returns-else-first-array c =
    let a = c.args in
    rw (← c.from-first.ensures) (sym (store-beyond a.load.marks a.load.bytes a.array.now c.from-first.result c.if-first-array.false))
