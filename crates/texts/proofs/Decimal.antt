-- Laws of numbers in decimal: the library's text of a number is the text that the refusal's line has. Assumes nothing.
use Rattle.std.proofs.Common.{◌≡◌, ℕ, zero, suc, ◌+◌, ◌/◌, ◌%◌, ◌^◌, ◌≤◌, ◌<◌, List, [], ◌∷◌, ◌++◌, length, append_assoc, refl, sym, arith}
use lib.Seq.{sets, sets-eq, drop-drop}
use borrow.Rule.Slice.PartMut.{put_mid}
use borrow.Author.Tests.{lt-ltb, le-ltb}
use Rattle.std.specs.Fmt.{decimal}
use Rattle.std.proofs.lemmas.Fmt.{AppendsLastDigit, decimal_from_appends, length-decimal-le_succ}
use Rattle.digits.specs.Digits.{glyph_of}
use Rattle.texts.specs.Numbers.{decimal_in, decimal_of}

-- A decimal digit as the library writes it.
glyph-digit : (n : ℕ) → glyph_of (n % 10) ≡ 48 + n % 10
unfolding glyph_of
glyph-digit n = rw (lt-ltb (n % 10) 10 (omega arith)) (omega arith)

-- At most so many digits of a number.
digits_of : ℕ → ℕ → List ℕ
digits_of zero n = []
digits_of (suc k) n = decimal_in k n

few : (k n : ℕ) → n < 10 → digits_of (suc k) n ≡ (48 + n) ∷ []
unfolding digits_of
few zero n h = let e : n % 10 ≡ n = omega arith in rw (glyph-digit n, e) refl
few (suc k) n h = let e : n % 10 ≡ n = omega arith in rw (lt-ltb n 10 h, glyph-digit n, e) refl

many : (k n : ℕ) → 10 ≤ n → digits_of (suc k) n ≡ digits_of k (n / 10) ++ ((48 + n % 10) ∷ [])
unfolding digits_of
many zero n h = rw (glyph-digit n) refl
many (suc k) n h = rw (le-ltb n 10 h, glyph-digit n) refl

appends : AppendsLastDigit digits_of
appends = record { one = few; more = many }

pub decimal-decimal_of : (n : ℕ) → n < 2 ^ 64 → decimal n ≡ decimal_of n
unfolding decimal_of digits_of
decimal-decimal_of n h = sym (decimal_from_appends digits_of appends (suc n) n h (omega (arith, length-decimal-le_succ n h)))

-- A text copied over the part of a buffer that it just fills is that text laid there.
pub put-sets : (text out : List ℕ) (at k : ℕ) → k ≡ length text → at + length text ≤ length out → put_mid at k out text ≡ sets out at text
put-sets text out at k e h = rw (e, drop-drop (length text) at out, sets-eq text out at h, append_assoc) refl
