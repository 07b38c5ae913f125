-- A law of times: those of a dump increase, as long as they fit 64 bits. Assumes nothing.
use Prim.Native.Nat.{ℕ, zero, suc, ◌+◌, ◌≤◌, ◌<◌}
use mathlib.Core.Bool.{true}
use mathlib.Core.Path.{◌≡◌}
use native.Mathlib.Omega.{arith}
use lib.Dec.{eqb, eqb-suc-zero}
use Rattle.drawing.specs.Drawing.{apart_by, most_time, time_of}
use Rattle.drawing.specs.declared.Drawn.{Drawn}

-- Two samples are never drawn at one time.
apart_some : (e : ℕ) → 0 < apart_by (eqb e 0) e
apart_some zero = omega arith
apart_some (suc e) = rw (eqb-suc-zero e) (omega arith)

-- A sample that is not the first has a later time than the one before.
pub time-later : (d : Drawn) (e : ℕ) → d.begun ≡ true → d.time + apart_by (eqb e 0) e ≤ most_time → d.time < time_of d e
time-later d e b h = rw b (omega (arith, apart_some e))
