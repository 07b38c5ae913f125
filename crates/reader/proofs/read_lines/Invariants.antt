-- `reader::read_lines` meets its contract.
use Prim.Native.Nat.{◌-◌}
use mathlib.Core.Path.{◌≡◌}
use lib.ListN.{length, drop}
use Rattle.lines.specs.Lines.{lines_of}
use Rattle.forms.specs.Reading.{lines_read}
use Rattle.reader.proofs.read_lines.Given as goal

abbrev pub invariant-loop-line : goal.invariant-loop-line
invariant-loop-line g l = let form = g.F.RecordForm.form_of in
    (length l.room ≡ length l.initial.room)
    × (length l.cells ≡ length l.initial.cells)
    × (lines_read form (length l.text) 0 l.initial.cells (lines_of l.text) ≡ lines_read form (length l.text) l.at l.cells (lines_of (drop l.at l.text)))

abbrev pub decreases-loop-line : goal.decreases-loop-line
decreases-loop-line g l = length l.text - l.at
