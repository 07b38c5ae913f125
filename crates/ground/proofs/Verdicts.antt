-- What a reply means, by its case. Assumes nothing.
use Prim.Native.Nat.{ℕ, zero, suc, ◌≤◌}
use mathlib.Core.List.{List, [], ◌∷◌}
use mathlib.Core.Path.{◌≡◌, refl, ap, sym, ◌∙◌}
use native.Mathlib.Omega.{arith}
use Rattle.std.specs.Prelude.{Result, Ok, Err}
use Rattle.ground.specs.Verdict.{Verdict, accepted, refused, number_of, meant}
use Rattle.ground.specs.declared.Reason.{Reason}
use Rattle.ground.specs.declared.Reason.TheVariants.{PartUnknown, SelectTooHigh, StoredHasLatch, StateOutOfRange, ArrayLength, RowLengths, TooManySamples, AnswerLength, TimeTooLong, LevelTooHigh, TextTooLong, LineMalformed, ChecksumWrong, RecordType, BeyondArray, GivenTwice, EndMissing, BytesAfterEnd, RoomTooSmall, DumpMalformed, WiresWrong, TimeNotAbove, ValueUnfit}
use Rattle.ground.specs.declared.Refusal.{Refusal}

pub is-accepted : (r : Result ℕ Refusal) (v : Verdict) (n : ℕ) → meant r ≡ v → r ≡ Ok n → v ≡ accepted n
unfolding meant
is-accepted r v n e f = sym e ∙ ap meant f

pub is-refused : (r : Result ℕ Refusal) (v : Verdict) (k : Refusal) → meant r ≡ v → r ≡ Err k → v ≡ refused (number_of k.reason) k.place
unfolding meant
is-refused r v k e f = sym e ∙ ap meant f

-- A refusal is no acceptance.
pub apart : (k p n : ℕ) → refused k p ≡ accepted n → ⊥
apart k p n e = let z : ◌≡◌ {A = ℕ} 0 1 = cc in omega arith

-- The reason that stands at a place of a list; beyond it any.
reason_at : List Reason → ℕ → Reason
reason_at [] n = ValueUnfit
reason_at (r ∷ rs) zero = r
reason_at (r ∷ rs) (suc n) = reason_at rs n

-- The reason of a number; of no reason's number it means nothing.
pub reason_of : ℕ → Reason
reason_of n = reason_at (ValueUnfit ∷ PartUnknown ∷ SelectTooHigh ∷ StoredHasLatch ∷ StateOutOfRange ∷ ArrayLength ∷ RowLengths ∷ TooManySamples ∷ AnswerLength ∷ TimeTooLong ∷ LevelTooHigh ∷ TextTooLong ∷ LineMalformed ∷ ChecksumWrong ∷ RecordType ∷ BeyondArray ∷ GivenTwice ∷ EndMissing ∷ BytesAfterEnd ∷ RoomTooSmall ∷ DumpMalformed ∷ WiresWrong ∷ TimeNotAbove ∷ ValueUnfit ∷ []) n

reason-back : (r : Reason) → reason_of (number_of r) ≡ r
unfolding reason_of reason_at
reason-back PartUnknown = refl
reason-back SelectTooHigh = refl
reason-back StoredHasLatch = refl
reason-back StateOutOfRange = refl
reason-back ArrayLength = refl
reason-back RowLengths = refl
reason-back TooManySamples = refl
reason-back AnswerLength = refl
reason-back TimeTooLong = refl
reason-back LevelTooHigh = refl
reason-back TextTooLong = refl
reason-back LineMalformed = refl
reason-back ChecksumWrong = refl
reason-back RecordType = refl
reason-back BeyondArray = refl
reason-back GivenTwice = refl
reason-back EndMissing = refl
reason-back BytesAfterEnd = refl
reason-back RoomTooSmall = refl
reason-back DumpMalformed = refl
reason-back WiresWrong = refl
reason-back TimeNotAbove = refl
reason-back ValueUnfit = refl

-- Two reasons with one number are the same.
pub number-one : (r q : Reason) → number_of r ≡ number_of q → r ≡ q
number-one r q e = sym (reason-back r) ∙ (ap reason_of e ∙ reason-back q)

refusal-one : (r q : Refusal) → refused (number_of r.reason) r.place ≡ refused (number_of q.reason) q.place → r ≡ q
refusal-one r q e =
    let f : number_of r.reason ≡ number_of q.reason = cc in
    let g : r.place ≡ q.place = cc in
    λ i. record { reason = number-one r.reason q.reason f i; place = g i }

-- Two replies that mean the same are the same.
pub meant-one : (r q : Result ℕ Refusal) → meant r ≡ meant q → r ≡ q
unfolding meant
meant-one (Ok n) (Ok m) e = cc
meant-one (Ok n) (Err k) e = absurd (apart (number_of k.reason) k.place n (sym e))
meant-one (Err k) (Ok n) e = absurd (apart (number_of k.reason) k.place n e)
meant-one (Err k) (Err j) e = ap Err (refusal-one k j e)

-- Each number from 1 to 23 is that of its reason.
pub number-back : (k : ℕ) → 1 ≤ k → k ≤ 23 → number_of (reason_of k) ≡ k
unfolding reason_of reason_at
number-back zero h m = absurd (omega arith)
number-back (suc zero) h m = refl
number-back (suc (suc zero)) h m = refl
number-back (suc (suc (suc zero))) h m = refl
number-back (suc (suc (suc (suc zero)))) h m = refl
number-back (suc (suc (suc (suc (suc zero))))) h m = refl
number-back (suc (suc (suc (suc (suc (suc zero)))))) h m = refl
number-back (suc (suc (suc (suc (suc (suc (suc zero))))))) h m = refl
number-back (suc (suc (suc (suc (suc (suc (suc (suc zero)))))))) h m = refl
number-back (suc (suc (suc (suc (suc (suc (suc (suc (suc zero))))))))) h m = refl
number-back (suc (suc (suc (suc (suc (suc (suc (suc (suc (suc zero)))))))))) h m = refl
number-back (suc (suc (suc (suc (suc (suc (suc (suc (suc (suc (suc zero))))))))))) h m = refl
number-back (suc (suc (suc (suc (suc (suc (suc (suc (suc (suc (suc (suc zero)))))))))))) h m = refl
number-back (suc (suc (suc (suc (suc (suc (suc (suc (suc (suc (suc (suc (suc zero))))))))))))) h m = refl
number-back (suc (suc (suc (suc (suc (suc (suc (suc (suc (suc (suc (suc (suc (suc zero)))))))))))))) h m = refl
number-back (suc (suc (suc (suc (suc (suc (suc (suc (suc (suc (suc (suc (suc (suc (suc zero))))))))))))))) h m = refl
number-back (suc (suc (suc (suc (suc (suc (suc (suc (suc (suc (suc (suc (suc (suc (suc (suc zero)))))))))))))))) h m = refl
number-back (suc (suc (suc (suc (suc (suc (suc (suc (suc (suc (suc (suc (suc (suc (suc (suc (suc zero))))))))))))))))) h m = refl
number-back (suc (suc (suc (suc (suc (suc (suc (suc (suc (suc (suc (suc (suc (suc (suc (suc (suc (suc zero)))))))))))))))))) h m = refl
number-back (suc (suc (suc (suc (suc (suc (suc (suc (suc (suc (suc (suc (suc (suc (suc (suc (suc (suc (suc zero))))))))))))))))))) h m = refl
number-back (suc (suc (suc (suc (suc (suc (suc (suc (suc (suc (suc (suc (suc (suc (suc (suc (suc (suc (suc (suc zero)))))))))))))))))))) h m = refl
number-back (suc (suc (suc (suc (suc (suc (suc (suc (suc (suc (suc (suc (suc (suc (suc (suc (suc (suc (suc (suc (suc zero))))))))))))))))))))) h m = refl
number-back (suc (suc (suc (suc (suc (suc (suc (suc (suc (suc (suc (suc (suc (suc (suc (suc (suc (suc (suc (suc (suc (suc zero)))))))))))))))))))))) h m = refl
number-back (suc (suc (suc (suc (suc (suc (suc (suc (suc (suc (suc (suc (suc (suc (suc (suc (suc (suc (suc (suc (suc (suc (suc zero))))))))))))))))))))))) h m = refl
number-back (suc (suc (suc (suc (suc (suc (suc (suc (suc (suc (suc (suc (suc (suc (suc (suc (suc (suc (suc (suc (suc (suc (suc (suc n)))))))))))))))))))))))) h m = absurd (omega arith)

-- A verdict that a reply can say: acceptance, or a number from 1 to 23.
abbrev pub Numbered : Verdict → Type 0
Numbered v = (k p : ℕ) → v ≡ refused k p → (1 ≤ k) × (k ≤ 23)

-- The reply that says a verdict.
abbrev pub reply_of : Verdict → Result ℕ Refusal
reply_of (accepted n) = Ok n
reply_of (refused k p) = Err (record { reason = reason_of k; place = p })

pub reply-means : (v : Verdict) → Numbered v → meant (reply_of v) ≡ v
unfolding meant
reply-means (accepted n) h = refl
reply-means (refused k p) h = let b = h k p refl in rw (number-back k b.0 b.1)
