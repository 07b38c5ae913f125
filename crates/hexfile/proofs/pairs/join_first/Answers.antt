-- `hexfile::pairs::join_first` meets its contract: values behind those that count change nothing before them.
use Prim.Native.Nat.{◌≤◌}
use mathlib.Core.Path.{sym}
use native.Mathlib.Omega.{arith}
use lib.ListN.{length}
use lib.Seq.{length-take-le}
use Rattle.hexfile.proofs.WindowLaws.{first-few, first-window}
use Rattle.hexfile.proofs.pairs.join_first.Goals as goal

pub slice_bounds-join-end : goal.slice_bounds-join-end
slice_bounds-join-end c = sym (length-take-le _ _ c.requires.count_in_bounds)

pub slice_bounds-join-end-then-text-lt-WINDOW-2 : goal.slice_bounds-join-end-then-text-lt-WINDOW-2
slice_bounds-join-end-then-text-lt-WINDOW-2 c = sym (length-take-le _ _ (omega arith))

pub join-requires : goal.join-requires
join-requires c =
    let args = c.args in
    let pre = c.requires in
    let h : args.count ≤ length args.room.now = omega arith in
    rw (length-take-le _ args.text.now pre.count_in_bounds, length-take-le args.count args.room.now h)

pub returns-then-text-lt-WINDOW : goal.returns-then-text-lt-WINDOW
returns-then-text-lt-WINDOW c = first-few _ _ _ c.requires.count_in_bounds c.join.ensures

pub slice_bounds-join-end-else-text-lt-WINDOW : goal.slice_bounds-join-end-else-text-lt-WINDOW
slice_bounds-join-end-else-text-lt-WINDOW c = sym (length-take-le 16 c.args.text.now c.if-text-lt-WINDOW.false)

pub slice_bounds-join-end-else-text-lt-WINDOW-3 : goal.slice_bounds-join-end-else-text-lt-WINDOW-3
slice_bounds-join-end-else-text-lt-WINDOW-3 c = sym (length-take-le 8 c.args.room.now c.requires.in_bounds)

pub join-requires-else-text-lt-WINDOW : goal.join-requires-else-text-lt-WINDOW
join-requires-else-text-lt-WINDOW c =
    let args = c.args in
    let pre = c.requires in
    rw (length-take-le 16 args.text.now (omega arith), length-take-le 8 args.room.now pre.in_bounds)

pub returns-else-text-lt-WINDOW : goal.returns-else-text-lt-WINDOW
returns-else-text-lt-WINDOW c = first-window c.args.text.now c.args.room.now _ c.if-text-lt-WINDOW.false c.requires.count_bound c.join-else-text-lt-WINDOW.ensures
