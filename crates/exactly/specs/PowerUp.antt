-- Power-up: for each of its refusal numbers, exactly when an outcome that keeps the contract replies it, and at which place; and that it
-- replies no other (document 01, Refusal numbers, 1 to 3).
use Rattle.std.specs.Prelude.{ℕ, ◌≤◌, ◌<◌, ◌↔◌, ◌≡◌, Option, Some, None}
use Rattle.ground.specs.Size.{SizesPart}
use Rattle.ground.specs.Verdict.{accepted, refused, meant}
use Rattle.power.specs.Promises.{PowersUp}
use Rattle.power.specs.declared.Replayed.{Replayed}
use Rattle.exactly.specs.Words.{KnownPart, SizeOf, LatchBit}

-- Power-up, by number (Refusal numbers, 1 to 3).
pub record PowerUp : Type 0 where
  -- part is not 4323, 4325, 4283 or 4285
  pub one : (part select stored p : ℕ) (r : Replayed) → PowersUp part select stored r
      → (meant r.reply ≡ refused 1 p) ↔ ((p ≡ 0) × ¬ KnownPart part)
  -- device select over 3
  pub two : (part select stored p : ℕ) (r : Replayed) → PowersUp part select stored r
      → (meant r.reply ≡ refused 2 p) ↔ ((p ≡ 0) × KnownPart part × (3 < select))
  -- stored control byte has bit 1 or 2 set
  pub three : (part select stored p : ℕ) (r : Replayed) → PowersUp part select stored r
      → (meant r.reply ≡ refused 3 p) ↔ ((p ≡ 0) × KnownPart part × (select ≤ 3) × LatchBit stored)
  -- otherwise it is accepted
  pub accepted : (part select stored n : ℕ) (r : Replayed) → PowersUp part select stored r
      → (meant r.reply ≡ accepted n) ↔ ((n ≡ 0) × KnownPart part × (select ≤ 3) × ¬ LatchBit stored)
  -- and no other number is given
  pub no_other : (part select stored k p : ℕ) (r : Replayed) → PowersUp part select stored r
      → meant r.reply ≡ refused k p → (1 ≤ k) × (k ≤ 3)
  -- the size of a part: refusal 1 by the same condition, else 4,096 or 16,384
  pub size-one : (part : ℕ) (r : Option ℕ) → SizesPart part r → (r ≡ None) ↔ (¬ KnownPart part)
  pub size-else : (part n : ℕ) (r : Option ℕ) → SizesPart part r → (r ≡ Some n) ↔ SizeOf part n
