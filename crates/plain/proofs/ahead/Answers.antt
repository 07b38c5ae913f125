-- `plain::ahead` meets its contract.
use mathlib.Core.Path.{◌≡◌, sym, ◌∙◌}
use native.Mathlib.Omega.{arith}
use native.Mathlib.Numerals.{add-one}
use lib.ListN.{get_or, length-set}
use Rattle.part.specs.Bench.{part_of}
use Rattle.sample.specs.Run.{part_step}
use Rattle.clocks.proofs.Going.{goes_none, goes_on, goes_then}
use Rattle.dark.proofs.Darkness.{low_step, first-dark}
use Rattle.plain.proofs.ahead.Goals as goal

pub returns-then-levels-from : goal.returns-then-levels-from
returns-then-levels-from c = goes_none _ _ _ _ _ c.requires.from_in_bounds

pub pass-requires-2 : goal.pass-requires-2
pass-requires-2 c =
    let pre = c.requires in
    let v = sym c.vcc.ensures ∙ c.if-vcc.false in
    record { elapsed_len = pre.elapsed_len; row_len = simp length-set pre.row_len; from_in_bounds = omega (arith, c.if-levels-from.false); dark = rw (c.in_reset-first.ensures, c.opens.ensures) (first-dark _ _ _ v) }

pub returns : goal.returns
returns c =
    let pre = c.requires in
    let a = c.args in
    let v = sym c.vcc.ensures ∙ c.if-vcc.false in
    let step : part_of c.in_reset-first.result a.array.now ≡ part_step (get_or a.elapsed.now a.from 0) (get_or a.levels.now a.from 0) (part_of a.s a.array.now) = rw (c.in_reset-first.ensures, c.opens.ensures) (low_step _ _ _ _ v) in
    let first = goes_on a.elapsed.now a.levels.now a.row.now a.row.now a.from a.from _ _ (goes_none _ _ _ _ (part_of a.s a.array.now) pre.from_in_bounds) _ _ pre.elapsed_len pre.row_len c.if-levels-from.false step c.answer.ensures in
    goes_then _ _ _ _ _ _ _ _ (rw add-one first) _ _ _ c.pass-2.ensures
