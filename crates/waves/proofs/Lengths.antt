-- How many samples the waveforms have: three a bit, 27 a byte. Assumes nothing.
use Prim.Native.Nat.{ℕ, zero, suc, ◌+◌, ◌*◌}
use mathlib.Core.List.{List, [], ◌∷◌}
use mathlib.Core.Path.{◌≡◌, refl}
use native.Mathlib.Omega.{arith}
use lib.ListN.{length, length-append, length-replicate}
use Rattle.waves.specs.Waves.{stop, clocks, all_sent, all_read, page_write, register_write, read_from, current_read, brisk}

-- A capture made of levels has as many times as levels.
pub brisk-rows : (ls : List ℕ) → (length (brisk ls).times ≡ length ls) × ((brisk ls).levels ≡ ls)
brisk-rows [] = (refl, refl)
brisk-rows (l ∷ ls) = (rw (length-replicate (length ls)), refl)

-- So many bits.
pub length-clocks : (n v : ℕ) → length (clocks n v) ≡ 3 * n
length-clocks zero v = refl
length-clocks (suc n) v = let h = length-clocks n v in omega (arith, h)

-- Bytes out of the host.
pub length-all_sent : (vs : List ℕ) → length (all_sent vs) ≡ 27 * length vs
length-all_sent [] = refl
length-all_sent (v ∷ vs) = let h = length-all_sent vs in omega (arith, h)

-- Bytes out of the part.
pub length-all_read : (n : ℕ) → length (all_read n) ≡ 27 * n
length-all_read zero = refl
length-all_read (suc zero) = refl
length-all_read (suc (suc n)) = let h = length-all_read (suc n) in omega (arith, h)

-- A page write.
pub length-page : (select a : ℕ) (vs : List ℕ) → length (page_write select a vs) ≡ 87 + 27 * length vs
length-page select a vs =
    let s = length-append (all_sent vs) stop in
    let b = length-all_sent vs in
    omega (arith, s, b)

-- A register write.
pub length-register : (select v : ℕ) → length (register_write select v) ≡ 114
length-register select v = refl

-- A read from an address on.
pub length-read_from : (select a n : ℕ) → length (read_from select a n) ≡ 118 + 27 * n
length-read_from select a n =
    let s = length-append (all_read n) stop in
    let b = length-all_read n in
    omega (arith, s, b)

-- A current read.
pub length-current_read : (select n : ℕ) → length (current_read select n) ≡ 33 + 27 * n
length-current_read select n =
    let s = length-append (all_read n) stop in
    let b = length-all_read n in
    omega (arith, s, b)
