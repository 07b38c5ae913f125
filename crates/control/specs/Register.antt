-- The control register (document 01, Control register).
use Rattle.std.specs.Prelude.{ℕ, ◌+◌, ◌*◌, ◌/◌, ◌%◌, Bool, true, false, ◌&&◌, ◌||◌, eqb}
use Rattle.ground.specs.Cases.{or_zero, odd, highest, middle}
use Rattle.part.specs.State.{with_stored, with_wel, with_rwel}
use Rattle.part.specs.declared.state.Control.{Control}
use Rattle.control.specs.declared.Order.{Order}
use Rattle.control.specs.declared.Order.TheVariants.{SetWel, ClearWel, SetRwel, Take, Nothing}

-- WPEN, WD and BP of a byte: all but bits 2 and 1 (Control register, bits 7 to 0).
abbrev pub plain_of : ℕ → ℕ
plain_of v = v / 8 * 8 + v % 2

-- The register as it reads: the stored bits, RWEL as bit 2, WEL as bit 1 (Control register, bits 7 to 0).
abbrev pub reads_of : Control → ℕ
reads_of c =
    plain_of c.stored + or_zero (c.rwel || odd (c.stored / 4)) 4 + or_zero (c.wel || odd (c.stored / 2)) 2

-- Bits 2 and 1 of a byte are 0 and 1 (Control register, RWEL high).
abbrev pub third : ℕ → Bool
third v = eqb (middle v) 1

-- WP and WPEN are both high (Control register, RWEL high).
abbrev pub guarded : Bool → Control → Bool
guarded wp c = wp && highest c.stored

-- With RWEL low: is the byte 02h, 00h, 06h, and is WEL set (Control register, RWEL low).
abbrev pub low_order : Bool → Bool → Bool → Bool → Order
low_order true b c w = SetWel
low_order false true c w = ClearWel
low_order false false true true = SetRwel
low_order false false true false = Nothing
low_order false false false w = Nothing

-- With RWEL high: has the byte the bits 0 and 1, are WP and WPEN both high (Control register, RWEL high).
abbrev pub high_order : Bool → Bool → Order
high_order true true = Nothing
high_order true false = Take
high_order false g = Nothing

-- By cases: one byte pending, RWEL (Control register, at a stop after one byte).
abbrev pub order_by : Bool → Bool → Bool → Control → Order
order_by false r wp c = Nothing
order_by true false wp c = low_order (eqb c.value 2) (eqb c.value 0) (eqb c.value 6) c.wel
order_by true true wp c = high_order (third c.value) (guarded wp c)

-- What the stop makes of the pending register byte, WP as the stop's sample has it (Control register).
unfoldable pub order_of : Bool → Control → Order
order_of wp c = order_by c.pending c.rwel wp c

-- The latches and stored bits after each order (Control register).
unfoldable pub carried_out : Order → Control → Control
carried_out SetWel c = with_wel c true
carried_out ClearWel c = with_wel c false
carried_out SetRwel c = with_rwel c true
carried_out Take c = with_rwel (with_stored c (plain_of c.value)) false
carried_out Nothing c = c

-- Whether an order is a nonvolatile write, which takes the write time (Control register, RWEL high).
abbrev pub takes_time : Order → Bool
takes_time SetWel = false
takes_time ClearWel = false
takes_time SetRwel = false
takes_time Take = true
takes_time Nothing = false
