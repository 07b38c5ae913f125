-- `intel::hear` meets its contract.
use native.Mathlib.Omega.{arith}
use mathlib.Core.Path.{sym}
use lib.Seq.{length-take-le}
use Rattle.intel.proofs.Heard.{room_fits, room-count, room-sum, hear-unformed, hear-unsound, hear-formed}
use Rattle.intel.proofs.hear.Goals as goal

pub sums_to_zero-requires : goal.sums_to_zero-requires
sums_to_zero-requires c =
    let fits = room_fits _ _ _ c.requires.n_in_bounds (rw c.if-not-form.false at c.form.ensures) in
    omega arith

pub slice_bounds-judge-end : goal.slice_bounds-judge-end
slice_bounds-judge-end c =
    let fits = room_fits _ _ _ c.requires.n_in_bounds (rw c.if-not-form.false at c.form.ensures) in
    omega arith

pub slice_bounds-judge-end-2 : goal.slice_bounds-judge-end-2
slice_bounds-judge-end-2 c =
    let fits = room_fits _ _ _ c.requires.n_in_bounds (rw c.if-not-form.false at c.form.ensures) in
    sym (length-take-le _ c.sums_to_zero.new.room (omega arith))

pub judge-requires : goal.judge-requires
judge-requires c =
    let formed = rw c.if-not-form.false at c.form.ensures in
    let sums = c.sums_to_zero.ensures in record {
      bytes_len = room-count _ _ _ c.requires.n_in_bounds formed _ _ sums;
      bytes_value = room-sum _ _ _ c.requires.n_in_bounds formed _ sums c.if-not-sums_to_zero.false;
    }

pub returns-then-not-form : goal.returns-then-not-form
returns-then-not-form c = hear-unformed _ _ _ (rw c.if-not-form.true at c.form.ensures)

pub returns-then-not-sums_to_zero : goal.returns-then-not-sums_to_zero
returns-then-not-sums_to_zero c =
    let formed = rw c.if-not-form.false at c.form.ensures in
    hear-unsound _ _ _ c.requires.n_in_bounds formed _ _ c.sums_to_zero.ensures c.if-not-sums_to_zero.true

pub returns : goal.returns
returns c =
    let formed = rw c.if-not-form.false at c.form.ensures in
    hear-formed _ _ _ c.requires.n_in_bounds formed _ _ _ _ c.sums_to_zero.ensures c.judge.ensures
