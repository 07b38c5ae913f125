-- Time in which no timer ends, and the answer in it. Assumes nothing.
use Prim.Native.Nat.{ℕ, zero, suc, ◌-◌, ◌<◌, ◌≤◌}
use mathlib.Core.Bool.{Bool, true, false}
use mathlib.Core.Path.{◌≡◌, refl, sym, ap, ◌∙◌}
use native.Mathlib.Omega.{arith}
use native.Mathlib.Nat.{sub-zero}
use lib.Dec.{ltb}
use borrow.Author.Tests.{lt-ltb, ne_eqb}
use Rattle.timers.specs.Timers.{timed_of, supplied_of}
use Rattle.clocks.specs.Rooms.{Room, left_by, timers_at}
use Rattle.clocks.specs.declared.rooms.Times.{Times}

less-more : (a all room e : ℕ) → e < room → room ≤ all → a - (all - room) - e ≡ a - (all - (room - e))
less-more a all room e h k = omega arith

not-over : (a all room e : ℕ) → e < room → room ≤ all → all ≤ a → a - (all - room) - e ≡ 0 → ⊥
not-over a all room e h k l z = omega arith

-- Time passes.
module _ (stored e hold write left all room : ℕ) (h : e < room) (k : room ≤ all) where
  pub time-by : (running : Bool) → (running ≡ true → all ≤ left)
      → supplied_of true (timed_of stored e (timers_at hold (record { write = write; left = left; all = all; running = running }) room))
      ≡ timers_at hold (record { write = write; left = left; all = all; running = running }) (room - e)
  unfolding timed_of supplied_of
  time-by true l =
      rw (ne_eqb (left - (all - room) - e) 0 (not-over left all room e h k (l refl)), less-more write all room e h k, less-more left all room e h k)
  time-by false l = rw (less-more write all room e h k)

pub time-passes : (stored e hold room : ℕ) (t : Times) → e < room → room ≤ t.all → Room t.write t.running t.left t.all
    → supplied_of true (timed_of stored e (timers_at hold t room)) ≡ timers_at hold t (room - e)
time-passes stored e hold room t h k r = time-by stored e hold t.write t.left t.all room h k t.running r.watches

-- A write cycle that does not end goes on.
pub still-writes : (write n : ℕ) → (0 < write → n < write) → ltb 0 (write - n) ≡ ltb 0 write
still-writes zero n h =
    let z : 0 - n ≡ 0 = omega arith in
    ap (ltb 0) z
still-writes (suc write) n h =
    let k : n < suc write = h (omega arith) in
    let g : 0 < suc write - n = omega (arith, k) in
    lt-ltb 0 (suc write - n) g ∙ sym (lt-ltb 0 (suc write) (omega arith))

-- Nothing is spent where all the time is left.
left-whole : (running : Bool) (left n : ℕ) → n ≡ 0 → left_by running left n ≡ left
left-whole true left n z = rw (z, sub-zero left)
left-whole false left n z = refl

pub begins : (hold : ℕ) (t : Times) (reset low : Bool) → reset ≡ false → low ≡ false
    → timers_at hold t t.all
    ≡ record { write = t.write; hold = hold; reset = reset; low = low; watchdog = record { running = t.running; left = t.left } }
begins hold t reset low r l =
    let z : t.all - t.all ≡ 0 = omega arith in
    rw (left-whole t.running t.left (t.all - t.all) z, z, sub-zero t.write, r, l)
