-- Laws of the locked extents. Assumes nothing.
use Prim.Native.Nat.{ℕ}
use Rattle.ground.specs.declared.kinds.Kind.{Kind}
use Rattle.lock.specs.Lock.{extent_of, block_code, in_extent, locked_of}
use Rattle.page.specs.Page.{page_of}
use Rattle.part.specs.declared.state.Place.{Place}
use mathlib.Core.Path.{◌≡◌, ap}

-- A lock is the same all over a page.
pub lock-of-page : (k : Kind) (stored : ℕ) (p q : Place) → page_of p ≡ page_of q → locked_of k stored p ≡ locked_of k stored q
unfolding locked_of
lock-of-page k stored p q e = ap (in_extent (extent_of k (block_code stored))) e
