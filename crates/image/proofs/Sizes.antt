-- Laws of the sizes that parts have. Assumes nothing.
use Prim.Native.Nat.{ℕ, ◌*◌, ◌/◌, ◌%◌, ◌≤◌}
use mathlib.Core.Path.{◌≡◌}
use native.Mathlib.Omega.{arith}
use Rattle.ground.specs.Numbers.{page_size, large_size}
use Rattle.ground.specs.Kind.{kind_of}
use Rattle.ground.proofs.Known.{kind-paged}
use Rattle.forms.specs.Form.{row_size}

-- No part has a larger array than the larger kind.
pub kind-most : (part : ℕ) → (kind_of part).size ≤ large_size
kind-most part = (kind-paged part).most

-- Whole pages are whole rows.
paged-rows : (n : ℕ) → n % page_size ≡ 0 → n / row_size * row_size ≡ n
paged-rows n h = omega arith

-- The array of every part is whole rows.
pub kind-rows : (part : ℕ) → (kind_of part).size / row_size * row_size ≡ (kind_of part).size
kind-rows part = paged-rows (kind_of part).size (kind-paged part).whole
