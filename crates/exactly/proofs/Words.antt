-- The tests of parts, stored bytes and states decide the paper's conditions. Assumes nothing.
use Prim.Native.Nat.{ℕ, ◌/◌, ◌%◌, ◌≤◌, ◌<◌}
use mathlib.Core.Bool.{Bool, true, false, true≢false}
use mathlib.Core.Logic.{inl, inr}
use mathlib.Core.Path.{◌≡◌, refl, sym, subst, ◌∙◌}
use native.Mathlib.Omega.{arith}
use lib.Dec.{eqb, leb, ltb}
use borrow.Author.Tests.{eqb-true, eqb-false, eq-eqb, leb-true, ltb-true, le-leb, lt-ltb}
use Rattle.ground.specs.Kind.{kind_by, kind_of, known}
use Rattle.ground.proofs.Tests.{and_split}
use Rattle.part.specs.declared.state.State.{State}
use Rattle.refusals.specs.Refusals.{storable, timers_in_range, in_range}
use Rattle.exactly.specs.Words.{SmallPart, LargePart, KnownPart, ByPart, SizeOf, LatchBit, WithinRanges}
use Rattle.exactly.proofs.Decides.{Decides, holds, decides-by}

-- No number names a smaller part and a larger one.
pub one-kind : (part : ℕ) → SmallPart part → LargePart part → ⊥
one-kind part (inl e) (inl f) = omega arith
one-kind part (inl e) (inr f) = omega arith
one-kind part (inr e) (inl f) = omega arith
one-kind part (inr e) (inr f) = omega arith

-- The size of each part.
pub small_size_lem : (part : ℕ) → SmallPart part → (kind_of part).size ≡ 4096
unfolding kind_of
small_size_lem part (inl e) = rw e
small_size_lem part (inr e) = rw e

pub large-size : (part : ℕ) → LargePart part → (kind_of part).size ≡ 16384
unfolding kind_of
large-size part (inl e) = rw e
large-size part (inr e) = rw e

pub known-size : (part : ℕ) → KnownPart part → SizeOf part (kind_of part).size
known-size part (inl s) = inl (s, small_size_lem part s)
known-size part (inr l) = inr (l, large-size part l)

pub size-known : (part n : ℕ) → SizeOf part n → KnownPart part
size-known part n (inl x) = inl x.0
size-known part n (inr x) = inr x.0

pub size_is : (part n : ℕ) → SizeOf part n → n ≡ (kind_of part).size
size_is part n (inl x) = x.1 ∙ sym (small_size_lem part x.0)
size_is part n (inr x) = x.1 ∙ sym (large-size part x.0)

known-part : (part : ℕ) → known part ≡ true → KnownPart part
unfolding kind_of
known-part part h = go (eqb part 4323) refl (eqb part 4325) refl (eqb part 4283) refl (eqb part 4285) refl h
  where
    go : (a : Bool) → eqb part 4323 ≡ a → (b : Bool) → eqb part 4325 ≡ b → (c : Bool) → eqb part 4283 ≡ c → (d : Bool) → eqb part 4285 ≡ d
        → ltb 0 (kind_by a b c d).size ≡ true → KnownPart part
    go true e b f c g d i h = inl (inl (eqb-true part 4323 e))
    go false e true f c g d i h = inl (inr (eqb-true part 4325 f))
    go false e false f true g d i h = inr (inl (eqb-true part 4283 g))
    go false e false f false g true i h = inr (inr (eqb-true part 4285 i))
    go false e false f false g false i h = absurd (true≢false (sym h))

part-known : (part : ℕ) → KnownPart part → known part ≡ true
part-known part (inl s) = rw (small_size_lem part s)
part-known part (inr l) = rw (large-size part l)

pub decides-part : (part : ℕ) → Decides (known part) (KnownPart part) (¬ KnownPart part)
decides-part part = decides-by (known-part part) (part-known part)

-- An array's length is the part's size.
pub decides-size : (part n : ℕ) → KnownPart part → Decides (eqb n (kind_of part).size) (SizeOf part n) (¬ SizeOf part n)
decides-size part n k =
    decides-by
    (λ e. let h = eqb-true n (kind_of part).size e in subst (SizeOf part) (sym h) (known-size part k))
    (λ s. eq-eqb n (kind_of part).size (size_is part n s))

-- A limit of a part's size: below it, or not below it, by the part.
below-size : (part n : ℕ) → KnownPart part → n < (kind_of part).size → ByPart part (n ≤ 4095) (n ≤ 16383)
below-size part n (inl s) h = inl (s, omega (arith, small_size_lem part s))
below-size part n (inr l) h = inr (l, omega (arith, large-size part l))

size_above : (part n : ℕ) → ByPart part (n ≤ 4095) (n ≤ 16383) → n < (kind_of part).size
size_above part n (inl x) = let h = x.1 in omega (arith, small_size_lem part x.0)
size_above part n (inr x) = let h = x.1 in omega (arith, large-size part x.0)

-- Neither bit of a stored byte is set, or one is.
no-latch : (v : ℕ) → v / 2 % 4 ≡ 0 → ¬ LatchBit v
no-latch v e (inl h) = omega arith
no-latch v e (inr h) = omega arith

halves : (a : ℕ) → ¬ (a % 4 ≡ 0) → ¬ (a % 2 ≡ 1) → a / 2 % 2 ≡ 1
halves a h k = omega arith

some-latch : (v : ℕ) → ¬ (v / 2 % 4 ≡ 0) → LatchBit v
some-latch v n = go (eqb (v / 2 % 2) 1) refl
  where
    go : (b : Bool) → eqb (v / 2 % 2) 1 ≡ b → LatchBit v
    go true e = inl (eqb-true (v / 2 % 2) 1 e)
    go false e =
        let h : ¬ (v / 2 % 2 ≡ 1) = eqb-false (v / 2 % 2) 1 e in
        let q : v / 4 ≡ v / 2 / 2 = omega arith in
        inr (rw q (halves (v / 2) n h))

pub decides-stored : (v : ℕ) → Decides (storable v) (¬ LatchBit v) (LatchBit v)
decides-stored v =
    record {
      yes = λ e. no-latch v (eqb-true (v / 2 % 4) 0 e);
      no = λ e. some-latch v (eqb-false (v / 2 % 4) 0 e);
      apart = λ n h. n h;
    }

-- A state within its ranges passes every test, and only such a state does.
range-within : (s : State) → in_range s ≡ true → WithinRanges s
unfolding in_range
range-within s e =
    let t = s.timers in
    let a = and_split (ltb s.device.counter.0 (kind_of s.chip.part).size) _ e in
    let b = and_split (leb s.wire.frame.bits 8) _ a.1 in
    let c = and_split (timers_in_range t) _ b.1 in
    let d = and_split (known s.chip.part) _ c.1 in
    let f = and_split (leb s.chip.select 3) (storable s.device.control.stored) d.1 in
    let g = and_split (leb t.write 5000) _ c.0 in
    let i = and_split (leb t.hold 200000) (leb t.watchdog.left 1400000) g.1 in
    let k = known-part s.chip.part d.0 in
    let n : s.device.counter.0 < (kind_of s.chip.part).size = ltb-true _ _ a.0 in
    record {
      counter = below-size s.chip.part s.device.counter.0 k n;
      bits = leb-true _ _ b.0;
      write = leb-true _ _ g.0;
      hold = leb-true _ _ i.0;
      watchdog = leb-true _ _ i.1;
      part = k;
      select = leb-true _ _ f.0;
      stored = (decides-stored s.device.control.stored).yes f.1;
    }

within-range : (s : State) → WithinRanges s → in_range s ≡ true
unfolding in_range
within-range s w =
    let t = s.timers in
    rw (
      lt-ltb s.device.counter.0 (kind_of s.chip.part).size (size_above s.chip.part s.device.counter.0 w.counter),
      le-leb s.wire.frame.bits 8 w.bits,
      le-leb t.write 5000 w.write,
      le-leb t.hold 200000 w.hold,
      le-leb t.watchdog.left 1400000 w.watchdog,
      part-known s.chip.part w.part,
      le-leb s.chip.select 3 w.select,
      holds (decides-stored s.device.control.stored) w.stored,
    )

pub decides-state : (s : State) → Decides (in_range s) (WithinRanges s) (¬ WithinRanges s)
decides-state s = decides-by (range-within s) (within-range s)
