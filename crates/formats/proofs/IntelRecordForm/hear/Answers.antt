-- `formats::IntelRecordForm::hear` meets its contract: what a line says does not depend on whether it is the first.
use Prim.Native.Nat.{ℕ}
use mathlib.Core.Bool.{Bool, true}
use mathlib.Core.List.{List}
use mathlib.Core.Path.{◌≡◌}
use native.Mathlib.Omega.{arith}
use lib.ListN.{take}
use Rattle.std.specs.Prelude.{Result}
use Rattle.ground.specs.declared.Reason.{Reason}
use Rattle.forms.specs.Reading.{says_of}
use Rattle.forms.specs.Parts.{HearsLine}
use Rattle.forms.specs.declared.Says.{Says}
use Rattle.intel.specs.Intel.{intel}
use Rattle.formats.proofs.IntelRecordForm.hear.Goals as goal

-- What is heard of `handed` characters is what the line of `n` says, first or not, where the two numbers are equal.
handed-on : (first : Bool) (text cells cells' : List ℕ) (n handed : ℕ) (r : Result Says Reason) → handed ≡ n
    → HearsLine intel true (take handed text) cells r cells' → HearsLine intel first (take n text) cells r cells'
unfolding says_of
handed-on first text cells cells' n handed r e h =
    let k : HearsLine intel true (take n text) cells r cells' = rw e at h in
    record { said = k.said; kept = k.kept }

pub returns : goal.returns
returns c = handed-on _ _ _ _ _ _ _ (omega arith) c.hear.ensures
