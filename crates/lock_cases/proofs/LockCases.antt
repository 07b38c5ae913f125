-- The bench cases of the block lock: which places a code locks, and that a data byte there is left without acknowledge and is not kept. For
-- every kind of part where a code locks the same pages of each; else by the kind's size and upper blocks, once for parts that share them. No
-- axiom is used.
use Prim.Native.Nat.{ℕ, ◌<◌, ◌*◌}
use mathlib.Core.Bool.{Bool, true, false, not}
use mathlib.Core.Path.{◌≡◌, refl}
use native.Mathlib.Omega.{arith}
use borrow.Author.Tests.{le-leb, lt-ltb, le-ltb}
use Rattle.ground.specs.Kind.{kind_of}
use Rattle.lock.specs.Lock.{block_code, first_pages, extent_of, in_extent, locked_of}
use Rattle.lock.specs.declared.Extent.{Extent}
use Rattle.page.specs.Page.{at, page_of}
use Rattle.ground.specs.declared.kinds.Kind.{Kind}
use Rattle.part.specs.declared.state.Device.{Device}
use Rattle.part.specs.declared.state.Load.{Load}
use Rattle.device.specs.Bytes.{taken_of, data_by, byte_of, kept_by, kept_of}
use Rattle.lock_cases.specs.LockCases.{load_after, Locks, P2, P3, P4, P4Larger, S10, S11, S12, S13, S24}

-- What is answered to a data byte that is taken or not.
own-by : (b : Bool) (d : Device) → (data_by (not b) d).talk.own ≡ b
own-by true d = refl
own-by false d = refl

-- What is kept of it.
load-by : (b : Bool) (place v : ℕ) (l : Load) (d : Device) → d.counter ≡ at place → kept_by (not b) d v l ≡ load_after b place v l
load-by true place v l d c = refl
load-by false place v l d c = rw c

-- A code that locks a place or not decides the answer there, and what is kept.
locks : (k : Kind) (code place : ℕ) (b : Bool)
    → ((stored : ℕ) → block_code stored ≡ code → locked_of k stored (at place) ≡ b) → Locks k code place b
unfolding byte_of kept_of taken_of
locks k code place b h = record {
  extent = h;
  answer = λ select v d c x.
      let l : locked_of k d.control.stored (at place) ≡ b = h d.control.stored c in
      rw (x.phase, x.latch, x.counter, l) (own-by b _);
  load = λ v y d c x.
      let l : locked_of k d.control.stored (at place) ≡ b = h d.control.stored c in
      rw (x.phase, x.latch, x.counter, l) (load-by b place v y _ refl);
}

-- P2: code 4 locks 03Fh, not 040h.
pub p2 : (k : Kind) → P2 k
unfolding locked_of extent_of
p2 k = record { inside = locks k 4 0x03F true (λ stored c. rw c); outside = locks k 4 0x040 false (λ stored c. rw c) }

-- P3: code 7 locks 1FFh, not 200h.
pub p3 : (k : Kind) → P3 k
unfolding locked_of extent_of
p3 k = record { inside = locks k 7 0x1FF true (λ stored c. rw c); outside = locks k 7 0x200 false (λ stored c. rw c) }

-- An extent that a code locks decides for a place by its page.
by-extent : (k : Kind) (code place : ℕ) (x : Extent) (b : Bool) → extent_of k code ≡ x → in_extent x (page_of (at place)) ≡ b → Locks k code place b
unfolding locked_of
by-extent k code place x b e h = locks k code place b (λ stored c. rw (c, e) h)

-- No place lies in no pages.
in-none : (place : ℕ) → in_extent (first_pages 0) (page_of (at place)) ≡ false
in-none place = rw (le-leb 0 (page_of (at place)) (omega arith), le-ltb (page_of (at place)) 0 (omega arith))

-- Every place of an array of so many pages lies in the first so many.
in_all : (n place : ℕ) → place < n * 64 → in_extent (first_pages n) (page_of (at place)) ≡ true
in_all n place h = rw (le-leb 0 (page_of (at place)) (omega arith), lt-ltb (page_of (at place)) n (omega (arith, h)))

-- A kind of 4,096 bytes without upper blocks: codes 1 and 2 lock nothing, 3 everything.
smaller : (part : ℕ) → (kind_of part).size ≡ 0x1000 → (kind_of part).upper ≡ false → P4 part × S24 part
unfolding extent_of
smaller part s u = (
  λ place. by-extent (kind_of part) 2 place (first_pages 0) false (rw u) (in-none place),
  record {
    one = λ place. by-extent (kind_of part) 1 place (first_pages 0) false (rw u) (in-none place);
    three = λ place h. by-extent (kind_of part) 3 place (first_pages 64) true (rw s) (in_all 64 place h);
  },
)

-- A kind of 16,384 bytes with them: code 1 locks from 3000h on, 2 from 2000h on, 3 everything.
module _ (part : ℕ) (s : (kind_of part).size ≡ 0x4000) (u : (kind_of part).upper ≡ true) where
  first : (place : ℕ) (b : Bool) → in_extent (record { from = 192; to = 256 }) (page_of (at place)) ≡ b → Locks (kind_of part) 1 place b
  unfolding extent_of
  first place b h = by-extent (kind_of part) 1 place (record { from = 192; to = 256 }) b (rw (u, s)) h

  second : (place : ℕ) (b : Bool) → in_extent (record { from = 128; to = 256 }) (page_of (at place)) ≡ b → Locks (kind_of part) 2 place b
  unfolding extent_of
  second place b h = by-extent (kind_of part) 2 place (record { from = 128; to = 256 }) b (rw (u, s)) h

  larger : P4Larger part
  unfolding extent_of
  larger =
      record {
        one = (first 0x3000 true refl, first 0x3FFF true refl, first 0x2FFF false refl);
        two = (second 0x2000 true refl, second 0x3FFF true refl, second 0x1FFF false refl);
        three = λ place h. by-extent (kind_of part) 3 place (first_pages 256) true (rw s) (in_all 256 place h);
      }

-- P4: code 2 locks nothing of the smaller parts.
pub p4 : P4 4323 × P4 4325
unfolding kind_of
p4 = ((smaller 4323 refl refl).0, (smaller 4325 refl refl).0)

-- Beside P4: what codes 1 to 3 lock of the larger parts.
pub p4-larger : P4Larger 4283 × P4Larger 4285
unfolding kind_of
p4-larger = (larger 4283 refl refl, larger 4285 refl refl)

-- S10: the bits of a code.
pub s10 : S10
s10 = record { five = refl; six = refl; all = refl; none = refl }

-- S11: code 5 locks 000h to 07Fh, not 080h.
pub s11 : (k : Kind) → S11 k
unfolding locked_of extent_of
s11 k =
    record {
      first = locks k 5 0x000 true (λ stored c. rw c);
      inside = locks k 5 0x07F true (λ stored c. rw c);
      outside = locks k 5 0x080 false (λ stored c. rw c);
    }

-- S12: code 6 locks 000h to 0FFh, not 100h.
pub s12 : (k : Kind) → S12 k
unfolding locked_of extent_of
s12 k =
    record {
      first = locks k 6 0x000 true (λ stored c. rw c);
      inside = locks k 6 0x0FF true (λ stored c. rw c);
      outside = locks k 6 0x100 false (λ stored c. rw c);
    }

-- S13: code 0 locks nothing.
pub s13 : (k : Kind) → S13 k
unfolding extent_of
s13 k = record { zero = λ place. by-extent k 0 place (first_pages 0) false refl (in-none place) }

-- S24: of the smaller parts code 1 locks nothing, 3 everything.
pub s24 : S24 4323 × S24 4325
unfolding kind_of
s24 = ((smaller 4323 refl refl).1, (smaller 4325 refl refl).1)
