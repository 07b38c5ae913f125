-- The earliest faulty sample: 9 and 10, exactly when. Assumes nothing.
use Prim.Native.Nat.{ℕ, zero, suc, ◌+◌, ◌≤◌, ◌<◌}
use mathlib.Core.Bool.{Bool, true, false}
use mathlib.Core.List.{List, [], ◌∷◌}
use mathlib.Core.Path.{◌≡◌, refl, ap, ◌∙◌}
use native.Mathlib.Omega.{arith}
use lib.Dec.{leb}
use lib.ListN.{length, get_or}
use borrow.Author.Tests.{leb-true, leb-false, le-leb, lt-leb}
use Rattle.ground.specs.Verdict.{Verdict, accepted, refused}
use Rattle.limits.specs.Samples.{sample_by, samples_of}
use Rattle.exactly.specs.Replay.{GoodBefore}

-- What samples say, places counted from one.
pub data Told (es ls : List ℕ) (i n : ℕ) (v : Verdict) : Type 0 where
  good : v ≡ accepted n → GoodBefore es ls (length ls) → Told es ls i n v
  long : (m : ℕ) → v ≡ refused 9 (i + m) → m < length ls → GoodBefore es ls m → 100000 < get_or es m 0 → Told es ls i n v
  high : (m : ℕ) → v ≡ refused 10 (i + m) → m < length ls → GoodBefore es ls m → get_or es m 0 ≤ 100000 → 15 < get_or ls m 0
      → Told es ls i n v

-- One good sample more before the others.
good_more : (e l : ℕ) (es ls : List ℕ) (m : ℕ) → e ≤ 100000 → l ≤ 15 → GoodBefore es ls m → GoodBefore (e ∷ es) (l ∷ ls) (suc m)
good_more e l es ls m h k g zero z = (h, k)
good_more e l es ls m h k g (suc j) z = g j (omega arith)

told_more : (e l : ℕ) (es ls : List ℕ) (i n : ℕ) (v : Verdict) → e ≤ 100000 → l ≤ 15 → Told es ls (i + 1) n v → Told (e ∷ es) (l ∷ ls) i n v
told_more e l es ls i n v h k (good f g) = good f (good_more e l es ls (length ls) h k g)
told_more e l es ls i n v h k (long m f z g x) =
    let p : i + 1 + m ≡ i + suc m = omega arith in
    long (suc m) (f ∙ ap (refused 9) p) (omega arith) (good_more e l es ls m h k g) x
told_more e l es ls i n v h k (high m f z g x y) =
    let p : i + 1 + m ≡ i + suc m = omega arith in
    high (suc m) (f ∙ ap (refused 10) p) (omega arith) (good_more e l es ls m h k g) x y

none_before : (es ls : List ℕ) → GoodBefore es ls 0
none_before es ls j z = absurd (omega arith)

pub told : (es ls : List ℕ) (i n : ℕ) → length es ≡ length ls → Told es ls i n (samples_of i es ls (accepted n))
told [] [] i n h = good refl (none_before [] [])
told [] (l ∷ ls) i n h = absurd (omega arith)
told (e ∷ es) [] i n h = absurd (omega arith)
told (e ∷ es) (l ∷ ls) i n h = go (leb e 100000) refl (leb l 15) refl (told es ls (i + 1) n (omega arith))
  where
    go : (a : Bool) → leb e 100000 ≡ a → (b : Bool) → leb l 15 ≡ b → Told es ls (i + 1) n (samples_of (i + 1) es ls (accepted n))
        → Told (e ∷ es) (l ∷ ls) i n (sample_by a b i (samples_of (i + 1) es ls (accepted n)))
    go false p b q t =
        let z : i ≡ i + 0 = omega arith in
        long 0 (ap (refused 9) z) (omega arith) (none_before (e ∷ es) (l ∷ ls)) (leb-false e 100000 p)
    go true p false q t =
        let z : i ≡ i + 0 = omega arith in
        high 0 (ap (refused 10) z) (omega arith) (none_before (e ∷ es) (l ∷ ls)) (leb-true e 100000 p) (leb-false l 15 q)
    go true p true q t = told_more e l es ls i n _ (leb-true e 100000 p) (leb-true l 15 q) t

-- The other way: samples with such a fault, and those with none.
good-less : (e l : ℕ) (es ls : List ℕ) (m : ℕ) → GoodBefore (e ∷ es) (l ∷ ls) (suc m) → GoodBefore es ls m
good-less e l es ls m g j z = g (suc j) (omega arith)

pub nine-back : (es ls : List ℕ) (i n m : ℕ) → length es ≡ length ls → m < length ls → GoodBefore es ls m → 100000 < get_or es m 0
    → samples_of i es ls (accepted n) ≡ refused 9 (i + m)
nine-back [] ls i n m h z g x = absurd (omega arith)
nine-back (e ∷ es) [] i n m h z g x = absurd (omega arith)
nine-back (e ∷ es) (l ∷ ls) i n zero h z g x = let p : i + 0 ≡ i = omega arith in rw (lt-leb e 100000 x, p)
nine-back (e ∷ es) (l ∷ ls) i n (suc m) h z g x =
    let t = g 0 (omega arith) in
    let p : i + suc m ≡ i + 1 + m = omega arith in
    rw (le-leb e 100000 t.0, le-leb l 15 t.1, p) (nine-back es ls (i + 1) n m (omega arith) (omega arith) (good-less e l es ls m g) x)

pub ten-back : (es ls : List ℕ) (i n m : ℕ) → length es ≡ length ls → m < length ls → GoodBefore es ls m → get_or es m 0 ≤ 100000
    → 15 < get_or ls m 0 → samples_of i es ls (accepted n) ≡ refused 10 (i + m)
ten-back [] ls i n m h z g x y = absurd (omega arith)
ten-back (e ∷ es) [] i n m h z g x y = absurd (omega arith)
ten-back (e ∷ es) (l ∷ ls) i n zero h z g x y = let p : i + 0 ≡ i = omega arith in rw (le-leb e 100000 x, lt-leb l 15 y, p)
ten-back (e ∷ es) (l ∷ ls) i n (suc m) h z g x y =
    let t = g 0 (omega arith) in
    let p : i + suc m ≡ i + 1 + m = omega arith in
    rw (le-leb e 100000 t.0, le-leb l 15 t.1, p) (ten-back es ls (i + 1) n m (omega arith) (omega arith) (good-less e l es ls m g) x y)

pub good-back : (es ls : List ℕ) (i n : ℕ) → length es ≡ length ls → GoodBefore es ls (length ls)
    → samples_of i es ls (accepted n) ≡ accepted n
good-back [] ls i n h g = refl
good-back (e ∷ es) [] i n h g = refl
good-back (e ∷ es) (l ∷ ls) i n h g =
    let t = g 0 (omega arith) in
    rw (le-leb e 100000 t.0, le-leb l 15 t.1) (good-back es ls (i + 1) n (omega arith) (good-less e l es ls (length ls) g))
