-- `hexfile::pairs::ends_in_digits` meets its contract: the parts that are tested cover the last characters.
use lib.Seq.{length-take-le}
use mathlib.Core.Path.{sym}
use Rattle.ground.proofs.Rows.{tail-whole}
use Rattle.hexfile.proofs.WindowLaws.{ends_some, ends-few}
use Rattle.hexfile.proofs.pairs.ends_in_digits.Goals as goal

pub returns-then-text-ge-WINDOW : goal.returns-then-text-ge-WINDOW
returns-then-text-ge-WINDOW c = rw tail-whole at c.all_digits.ensures

pub slice_bounds-all_digits-end-then-text-ge-BYTES : goal.slice_bounds-all_digits-end-then-text-ge-BYTES
slice_bounds-all_digits-end-then-text-ge-BYTES c = sym (length-take-le 8 c.args.text.now c.if-text-ge-BYTES.true)

pub returns-then-text-ge-BYTES : goal.returns-then-text-ge-BYTES
returns-then-text-ge-BYTES c =
    ends_some c.args.text.now c.if-text-ge-WINDOW.false c.all_digits-then-text-ge-BYTES.ensures c.all_digits-then-text-ge-BYTES-2.ensures

pub returns : goal.returns
returns c = ends-few c.args.text.now c.if-text-ge-WINDOW.false c.all_digits-2.ensures
