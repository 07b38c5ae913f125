-- `writer::put_rows` meets its contract: what is left, laid over what stands there, gives the whole form.
use Prim.Native.Nat.{◌/◌, ◌<◌}
use native.Mathlib.Omega.{arith}
use lib.ListN.{length}
use Rattle.writer.proofs.Laid.{get_or-first_chunks, laid_none, laid-room, laid_more, laid-end}
use Rattle.writer.proofs.put_rows.Goals as goal

pub loop-index-init : goal.loop-index-init
loop-index-init g c = laid_none _ _ _ c.requires.array_in_bounds

pub put_row-at-requires-clause-format_in_bounds : goal.put_row-at-requires-clause-format_in_bounds
put_row-at-requires-clause-format_in_bounds g c =
    laid-room _ _ _ _ _ _ c.loop-index.invariant (omega (arith, c.as_chunks.ensures.front_len))

pub loop-index-preserved : goal.loop-index-preserved
loop-index-preserved g c =
    let b = c.loop-index in
    let cut = c.as_chunks.ensures in
    let more : b.index < length c.args.array.now / 16 = omega (arith, cut.front_len) in
    laid_more _ _ _ _ _ _ b.invariant g.met.F.RecordForm.measured _ more
    (rw cut.front (get_or-first_chunks _ b.index c.args.array.now more))
    c.put_row-at.ensures c.put_row-at.auto.out

pub put_end-requires : goal.put_end-requires
put_end-requires g c =
    laid-end _ _ _ _ _ _ c.loop-index.invariant (omega (arith, c.as_chunks.ensures.front_len, c.loop-index.invariant.count))
