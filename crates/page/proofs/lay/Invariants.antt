-- `page::lay` meets its contract: what is laid so far, and what is left to lay over the rest, is the whole.
use mathlib.Core.Path.{◌≡◌}
use mathlib.Core.List.{◌++◌}
use lib.ListN.{drop, take}
use Rattle.std.specs.Iterator.Adapters.{enumerate_source, enumerate_count, zip_first, zip_second}
use Rattle.std.specs.Slice.Iter.{iter_rest}
use Rattle.page.specs.Page.{lay_of}
use Rattle.page.proofs.lay.Given as goal

abbrev pub invariant-loop-index : goal.invariant-loop-index
invariant-loop-index l =
    let it = l.index-iterator in
    take (enumerate_count it) l.page ++ lay_of (iter_rest (zip_first (enumerate_source it))) (iter_rest (zip_second (enumerate_source it))) (drop (enumerate_count it) l.page)
    ≡ lay_of l.fn.load.marks l.fn.load.bytes l.initial.page
