-- Level bytes in, answer bytes out (document 01, What goes in and what comes out).
use Rattle.std.specs.Prelude.{ℕ, ◌+◌, ◌/◌, Bool, true, false, not}
use Rattle.ground.specs.Cases.{or_zero, odd}
use Rattle.ground.specs.Kind.{kind_of}
use Rattle.timers.specs.Timers.{writes}
use Rattle.part.specs.declared.state.State.{State}

-- Level bit 0 is SCL (What goes in and what comes out).
abbrev pub scl_of : ℕ → Bool
scl_of level = odd level

-- Level bit 1 is the SDA level from outside (What goes in and what comes out).
abbrev pub sda_of : ℕ → Bool
sda_of level = odd (level / 2)

-- Level bit 2 is WP (What goes in and what comes out).
abbrev pub wp_of : ℕ → Bool
wp_of level = odd (level / 4)

-- Level bit 3 is VCC good (What goes in and what comes out).
abbrev pub vcc_of : ℕ → Bool
vcc_of level = odd (level / 8)

-- The RESET pin: high when active where the kind says so, else low (What goes in and what comes out).
abbrev pub pin_by : Bool → Bool → Bool
pin_by true reset = reset
pin_by false reset = not reset

-- The answer byte: own SDA, the RESET pin, write cycle running (What goes in and what comes out).
unfoldable pub answer_of : State → ℕ
answer_of s =
    or_zero s.device.talk.own 1 + or_zero (pin_by (kind_of s.chip.part).high s.timers.reset) 2 + or_zero (writes s.timers) 4
