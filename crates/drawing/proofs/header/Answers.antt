-- `drawing::header` meets its contract: both sides compute to the same bytes.
use mathlib.Core.Path.{refl}
use Rattle.drawing.specs.Header.{header_text}
use Rattle.drawing.proofs.header.Goals as goal

pub returns : goal.returns
unfolding header_text
returns c = refl
