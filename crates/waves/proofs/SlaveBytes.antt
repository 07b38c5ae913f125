-- What a slave byte holds: its five leading bits, the select and whether it asks for a read. Assumes nothing.
use Prim.Native.Nat.{ℕ, ◌/◌, ◌%◌, ◌<◌, ◌≤◌}
use mathlib.Core.Bool.{Bool, true, false}
use mathlib.Core.Path.{◌≡◌}
use native.Mathlib.Omega.{arith}
use borrow.Author.Tests.{eq-eqb, ne_eqb}
use Rattle.ground.specs.Cases.{odd, middle}
use Rattle.ground.specs.Numbers.{most_select, slave_code, byte_values}
use Rattle.waves.specs.Waves.{slave_byte}

module _ (select : ℕ) (known : select ≤ most_select) where
  pub slave-fits : (reads : Bool) → slave_byte select reads < byte_values
  slave-fits true = omega arith
  slave-fits false = omega arith

  pub slave-code : (reads : Bool) → slave_byte select reads / 8 ≡ slave_code
  slave-code true = omega arith
  slave-code false = omega arith

  pub slave-select : (reads : Bool) → middle (slave_byte select reads) ≡ select
  slave-select true = omega arith
  slave-select false = omega arith

  pub slave-reads : (reads : Bool) → odd (slave_byte select reads) ≡ reads
  slave-reads true = eq-eqb (slave_byte select true % 2) 1 (omega arith)
  slave-reads false = ne_eqb (slave_byte select false % 2) 1 (omega arith)
