-- What the kinds of part have in common. Assumes nothing.
use Prim.Native.Nat.{ℕ, ◌%◌, ◌<◌, ◌≤◌}
use mathlib.Core.Bool.{Bool, true, false}
use mathlib.Core.Path.{◌≡◌, refl}
use native.Mathlib.Omega.{arith}
use lib.Dec.{eqb}
use borrow.Author.Tests.{ltb-true}
use Rattle.ground.specs.Numbers.{x4323, x4325, x4283, x4285, large_size, page_size}
use Rattle.ground.specs.Kind.{kind_by, kind_of, known}
use Rattle.ground.specs.declared.kinds.Kind.{Kind}

-- A kind whose array is whole pages, and no more than the larger parts have; no part is such a kind too.
pub record Paged (k : Kind) : Type 0 where
  pub whole : k.size % page_size ≡ 0
  pub most : k.size ≤ large_size

-- Every number names such a kind.
pub kind-paged : (part : ℕ) → Paged (kind_of part)
unfolding kind_of
kind-paged part = go (eqb part x4323) (eqb part x4325) (eqb part x4283) (eqb part x4285)
  where
    go : (a b c d : Bool) → Paged (kind_by a b c d)
    go true b c d = record { whole = refl; most = omega arith }
    go false true c d = record { whole = refl; most = omega arith }
    go false false true d = record { whole = refl; most = omega arith }
    go false false false true = record { whole = refl; most = omega arith }
    go false false false false = record { whole = refl; most = omega arith }

-- A kind whose array is some number of whole pages that a bus address reaches.
pub record Sound (k : Kind) : Type 0 where
  pub whole : k.size % page_size ≡ 0
  pub some : 0 < k.size
  pub narrow : k.size ≤ 65535

-- Every known part is of such a kind.
pub kind-sound : (part : ℕ) → known part ≡ true → Sound (kind_of part)
kind-sound part e =
    let p = kind-paged part in
    record { whole = p.whole; some = ltb-true 0 (kind_of part).size e; narrow = omega (arith, p.most) }
