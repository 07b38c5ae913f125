-- Laws of the ranges of refusal 4: rules 1 and 2, a start and a stop keep the three times in theirs. Assumes nothing.
use Prim.Native.Nat.{ℕ, zero, suc, ◌-◌, ◌≤◌}
use mathlib.Core.Bool.{Bool, true, false}
use native.Mathlib.Omega.{arith}
use lib.Dec.{eqb}
use lib.ListN.{get_or}
use Rattle.ground.specs.Numbers.{write_time, reset_hold, long_watch}
use Rattle.timers.specs.Timers.{off, watch_table, watch_code, loaded_of, write_fell, timed_by, timed_of, supplied_of}
use Rattle.part.specs.declared.state.Timers.{Timers}
use Rattle.part.specs.declared.state.Watchdog.{Watchdog}
use Rattle.part.specs.State.{with_watchdog}
use Rattle.sample.specs.Sample.{begun}

-- The three times in their ranges.
pub record Times (t : Timers) : Type 0 where
  pub write : t.write ≤ write_time
  pub hold : t.hold ≤ reset_hold
  pub left : t.watchdog.left ≤ long_watch

-- The time that a code loads.
table-left : (n : ℕ) → (get_or watch_table n off).left ≤ long_watch
table-left zero = omega arith
table-left (suc zero) = omega arith
table-left (suc (suc zero)) = omega arith
table-left (suc (suc (suc zero))) = omega arith
table-left (suc (suc (suc (suc n)))) = omega arith

-- A loaded watchdog.
loaded-left : (stored : ℕ) → (loaded_of stored).left ≤ long_watch
unfolding loaded_of
loaded-left stored = table-left (watch_code stored)

-- Rule 1, by its cases.
timed-by : (r l h w u : Bool) (d : Watchdog) (e : ℕ) (t : Timers) → d.left ≤ long_watch → Times t
    → Times (timed_by r l h w u d e t)
timed-by true true h w u d e t k g = g
timed-by true false false w u d e t k g = record { write = g.write; hold = omega arith; left = g.left }
timed-by true false true w u d e t k g = record { write = g.write; hold = omega arith; left = k }
timed-by false l h false u d e t k g = g
timed-by false l h true false d e t k g = record { write = g.write; hold = g.hold; left = omega arith }
timed-by false l h true true d e t k g = record { write = g.write; hold = omega arith; left = omega arith }

-- Rule 1 keeps the times in their ranges.
pub timed-times : (stored e : ℕ) (t : Timers) → Times t → Times (timed_of stored e t)
unfolding timed_of
timed-times stored e t g =
    timed-by t.reset t.low (eqb (t.hold - e) 0) t.watchdog.running (eqb (t.watchdog.left - e) 0)
    (loaded_of stored) e (write_fell e t) (loaded-left stored)
    (record { write = omega arith; hold = g.hold; left = g.left })

-- So does rule 2.
pub supplied-times : (vcc : Bool) (t : Timers) → Times t → Times (supplied_of vcc t)
unfolding supplied_of
supplied-times true t g = record { write = g.write; hold = g.hold; left = g.left }
supplied-times false t g = record { write = g.write; hold = omega arith; left = g.left }

-- So does a start.
pub watched-times : (stored : ℕ) (t : Timers) → Times t → Times (with_watchdog t (loaded_of stored))
watched-times stored t g = record { write = g.write; hold = g.hold; left = loaded-left stored }

-- So does a write cycle that begins.
pub begun-times : (b : Bool) (t : Timers) → Times t → Times (begun b t)
begun-times true t g = record { write = omega arith; hold = g.hold; left = g.left }
begun-times false t g = g
