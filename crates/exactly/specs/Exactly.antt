-- For each refusal number of the paper's table, exactly when it is the reply of an operation (document 01, Refusal numbers, given exactly
-- when). Limits, numbers and places are written out as the paper has them. Of the list of transfers, of captures through the door and of
-- the program the same follows by Causes and Demand1.
-- For a person from the line: the table of refusals once more. A number comes exactly where its line of the table says, and at that place.
use Rattle.exactly.specs.PowerUp.{PowerUp}
use Rattle.exactly.specs.Replay.{Replay}
use Rattle.exactly.specs.ReadImage.{ReadImage}
use Rattle.exactly.specs.WriteImage.{WriteImage}

-- The whole table, operation by operation (Refusal numbers).
pub record Exactly : Type 0 where
  pub power-up : PowerUp
  pub replay : Replay
  pub read-image : ReadImage
  pub write-image : WriteImage
