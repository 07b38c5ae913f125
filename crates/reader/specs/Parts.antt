-- What the functions of the reader promise, in any form of record.
use Rattle.std.specs.Prelude.{List, Result, ◌≡◌, ℕ, length}
use Rattle.ground.specs.Verdict.{meant}
use Rattle.ground.specs.declared.Refusal.{Refusal}
use Rattle.lines.specs.Lines.{lines_of}
use Rattle.cells.specs.Cells.{settled_of}
use Rattle.forms.specs.Form.{Form}
use Rattle.forms.specs.Reading.{lines_read}
use Rattle.reader.specs.Answers.{verdict_of, array_after}

-- The lines of a text over cells: the reply, and if it is acceptance, the cells that settle to the array.
pub record ReadsLines (form : Form) (text cells : List ℕ) (r : Result ℕ Refusal) (cells' : List ℕ) : Type 0 where
  pub reply : meant r ≡ verdict_of (lines_read form (length text) 0 cells (lines_of text)) (length text)
  pub kept : array_after (lines_read form (length text) 0 cells (lines_of text)) (settled_of cells') ≡ settled_of cells'

-- The lines of a text over cells: the reply, and the array that is kept where it is a refusal.
pub record ReadsInto (form : Form) (text cells array : List ℕ) (r : Result ℕ Refusal) (array' : List ℕ) : Type 0 where
  pub reply : meant r ≡ verdict_of (lines_read form (length text) 0 cells (lines_of text)) (length text)
  pub kept : array' ≡ array_after (lines_read form (length text) 0 cells (lines_of text)) array
