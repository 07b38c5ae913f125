-- `formats::IntelRecordForm::lines_length` meets its contract.
use mathlib.Core.Path.{refl}
use Rattle.forms.specs.Writing.{lines_length}
use Rattle.formats.proofs.IntelRecordForm.lines_length.Goals as goal

pub returns : goal.returns
unfolding lines_length
returns c = refl
