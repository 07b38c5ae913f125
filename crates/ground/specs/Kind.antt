-- What kind of part a part number names: the one place where its size, its RESET pin and its upper blocks come from.
use Rattle.std.specs.Prelude.{ℕ, Bool, true, false, eqb, ltb}
use Rattle.ground.specs.Numbers.{x4323, x4325, x4283, x4285, small_size, large_size}
use Rattle.ground.specs.declared.kinds.Kind.{Kind}

-- A smaller part by its RESET pin when active: codes 1 and 2 lock nothing of it (The part on our bench; Control register).
abbrev pub smaller : Bool → Kind
smaller high = record { size = small_size; high = high; upper = false }

-- A larger part by its RESET pin when active: codes 1 and 2 lock upper blocks of it (request 2026-01).
abbrev pub larger : Bool → Kind
larger high = record { size = large_size; high = high; upper = true }

-- X4323 and X4325, X4283 and X4285: RESET is low when active on the first of each two, high on the second; any other number is no part
-- (What goes in and what comes out; request 2026-01).
abbrev pub kind_by : Bool → Bool → Bool → Bool → Kind
kind_by true b c d = smaller false
kind_by false true c d = smaller true
kind_by false false true d = larger false
kind_by false false false true = larger true
kind_by false false false false = record { size = 0; high = false; upper = false }

-- The kind that a part number names (The part on our bench; Refusal numbers, 1; request 2026-01).
unfoldable pub kind_of : ℕ → Kind
kind_of part = kind_by (eqb part x4323) (eqb part x4325) (eqb part x4283) (eqb part x4285)

-- Whether a part number names a part: no part is the one kind without a size (Refusal numbers, 1).
abbrev pub known : ℕ → Bool
known part = ltb 0 (kind_of part).size
