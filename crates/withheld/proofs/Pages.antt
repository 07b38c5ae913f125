-- Laws of the pages that a reason tells. Assumes nothing.
use Prim.Native.Nat.{ℕ, zero, suc, ◌+◌, ◌-◌, ◌/◌, ◌<◌, ◌≤◌}
use mathlib.Core.Bool.{Bool, true, false}
use mathlib.Core.Path.{◌≡◌, refl, ap, sym}
use lib.Dec.{leb, ltb}
use native.Mathlib.Omega.{arith}
use borrow.Author.Tests.{leb-true, ltb-true}
use Rattle.ground.proofs.Tests.{and_split}
use Rattle.ground.proofs.Known.{Paged}
use Rattle.ground.specs.Numbers.{page_size, byte_values, from_code_one, from_code_two}
use Rattle.ground.specs.declared.kinds.Kind.{Kind}
use Rattle.part.specs.declared.state.Device.{Device}
use Rattle.part.specs.declared.state.Phase.{Phase}
use Rattle.part.specs.declared.state.Phase.TheVariants.{Idle, Silent, Slave, High, Low, Data, Register, Send, SendRegister}
use Rattle.part.specs.declared.state.Place.{Place}
use Rattle.page.specs.Page.{page_of}
use Rattle.lock.specs.Lock.{block_code, extent_of, locked_of, upper_by}
use Rattle.lock.specs.declared.Extent.{Extent}
use Rattle.withheld.specs.Withheld.{data_reason_by, data_reason, register_reason_by, reason_in, reason_of}
use Rattle.std.specs.Prelude.{Some}
use Rattle.withheld.specs.declared.Why.TheVariants.{PageLocked}

-- A page of an extent, between its first and its last.
pub record Inside (x : Extent) (page : ℕ) : Type 0 where
  pub low : x.from ≤ page
  pub high : page < x.to

-- The page of a locked place is one that the stored code locks.
pub locked-within : (k : Kind) (stored : ℕ) (p : Place) → locked_of k stored p ≡ true → Inside (extent_of k (block_code stored)) (page_of p)
unfolding locked_of
locked-within k stored p e =
    let t = and_split (leb (extent_of k (block_code stored)).from (page_of p)) (ltb (page_of p) (extent_of k (block_code stored)).to) e in
    record { low = leb-true _ _ t.0; high = ltb-true _ _ t.1 }

-- The pages from a first to a last.
abbrev pub pages_to : ℕ → ℕ → Extent
pages_to first last = record { from = first; to = last + 1 }

-- A lock that is told: the stored code, just the pages that it locks, and the counter's page among them.
pub record TellsLock (k : Kind) (d : Device) (code first last : ℕ) : Type 0 where
  pub stored : code ≡ block_code d.control.stored
  pub extent : extent_of k code ≡ pages_to first last
  pub low : first ≤ page_of d.counter
  pub high : page_of d.counter ≤ last

-- An extent with a page in it ends one past its last page.
last-page : (x : Extent) (page : ℕ) → Inside x page → x ≡ pages_to x.from (x.to - 1)
last-page x page w = go x.from x.to page w.high
  where
    go : (from to page : ℕ) → page < to → ◌≡◌ {A = Extent} (record { from = from; to = to }) (pages_to from (to - 1))
    go from to page h =
        let e : to ≡ to - 1 + 1 = omega arith in
        rw (sym e)

module _ (k : Kind) (d : Device) (code first last : ℕ) where
  data-tells : (wel locked : Bool) → locked_of k d.control.stored d.counter ≡ locked
      → data_reason_by wel locked (block_code d.control.stored) (extent_of k (block_code d.control.stored)) ≡ Some (PageLocked code first last) → TellsLock k d code first last
  data-tells false locked h e = cc
  data-tells true false h e = cc
  data-tells true true h e =
      let x = extent_of k (block_code d.control.stored) in
      let w = locked-within k d.control.stored d.counter h in
      let c : code ≡ block_code d.control.stored = cc in
      let a : x.from ≡ first = cc in
      let b : x.to - 1 ≡ last = cc in
      record { stored = c; extent = rw (c, ← a, ← b) (last-page x (page_of d.counter) w); low = omega (arith, w.low, a); high = omega (arith, w.high, b) }

  register-tells : (pending : Bool) → register_reason_by pending ≡ Some (PageLocked code first last) → TellsLock k d code first last
  register-tells true e = cc
  register-tells false e = cc

  phase-tells : (p : Phase) → reason_in p k d ≡ Some (PageLocked code first last) → TellsLock k d code first last
  unfolding data_reason
  phase-tells Idle e = cc
  phase-tells Silent e = cc
  phase-tells Slave e = cc
  phase-tells High e = cc
  phase-tells Low e = cc
  phase-tells Data e = data-tells d.control.wel (locked_of k d.control.stored d.counter) refl e
  phase-tells Register e = register-tells d.control.pending e
  phase-tells Send e = cc
  phase-tells SendRegister e = cc

  -- A locked page is told with the stored code and just the pages that it locks, the counter's among them, for every kind of part.
  pub lock-tells : reason_of k d ≡ Some (PageLocked code first last) → TellsLock k d code first last
  unfolding reason_of
  lock-tells e = phase-tells d.talk.phase e

-- No code locks a page beyond the array, or beyond the first eight.
upper-ends : (b : Bool) (first size : ℕ) → (upper_by b first size).to ≤ size / page_size
upper-ends true first size = omega arith
upper-ends false first size = omega arith

extent-ends : (k : Kind) (code : ℕ) → k.size / page_size ≤ byte_values → (extent_of k code).to ≤ byte_values
unfolding extent_of
extent-ends k zero h = omega arith
extent-ends k (suc zero) h = omega (arith, upper-ends k.upper from_code_one k.size)
extent-ends k (suc (suc zero)) h = omega (arith, upper-ends k.upper from_code_two k.size)
extent-ends k (suc (suc (suc zero))) h = omega arith
extent-ends k (suc (suc (suc (suc zero)))) h = omega arith
extent-ends k (suc (suc (suc (suc (suc zero))))) h = omega arith
extent-ends k (suc (suc (suc (suc (suc (suc zero)))))) h = omega arith
extent-ends k (suc (suc (suc (suc (suc (suc (suc zero))))))) h = omega arith
extent-ends k (suc (suc (suc (suc (suc (suc (suc (suc n)))))))) h = omega arith

-- A code has three bits, and on every part pages have eight: a row of numbers has room for them.
pub record Narrow (code first last : ℕ) : Type 0 where
  pub few : code < 8
  pub begins : first < byte_values
  pub ends : last < byte_values

pub narrow-told : (k : Kind) (d : Device) (code first last : ℕ) → Paged k → reason_of k d ≡ Some (PageLocked code first last) → Narrow code first last
narrow-told k d code first last paged e =
    let t = lock-tells k d code first last e in
    let h : k.size / page_size ≤ byte_values = omega (arith, paged.most) in
    let x = extent-ends k code h in
    let l : (extent_of k code).to ≡ last + 1 = ap (λ (x : Extent). x.to) t.extent in
    record { few = omega (arith, t.stored); begins = omega (arith, x, l, t.low, t.high); ends = omega (arith, x, l) }
