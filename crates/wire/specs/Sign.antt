-- What the two lines say, sample by sample (document 01, State and time, rule 4; Bytes on the wire).
use Rattle.std.specs.Prelude.{ℕ, ◌+◌, ◌-◌, ◌*◌, ◌%◌, Bool, true, false, ltb, eqb}
use Rattle.ground.specs.Numbers.{most_bits, byte_values}
use Rattle.ground.specs.Cases.{or_zero}
use Rattle.part.specs.declared.state.Frame.{Frame}
use Rattle.part.specs.declared.state.Wire.{Wire}
use Rattle.wire.specs.declared.Sign.{Sign}
use Rattle.wire.specs.declared.Sign.TheVariants.{Quiet, Start, Stop, Bit, Byte, Ninth}

-- A byte's value with one bit more, the newest lowest (Bytes on the wire; the bits of a byte come highest first).
abbrev pub pushed : ℕ → Bool → ℕ
pushed v b = v * 2 % byte_values + or_zero b 1

-- No bit taken and none committed (State and time, 4; Bytes on the wire, falls are counted anew for each byte).
abbrev pub clean_frame : Frame
clean_frame = record { held = false; bit = false; bits = 0; shift = 0 }

-- The bits committed before a byte's last one (Bytes on the wire, the eighth fall).
abbrev pub all_but_one : ℕ
all_but_one = most_bits - 1

-- A fall by cases: a bit taken, fewer than seven before it, just seven before it (Bytes on the wire, falls).
abbrev pub fall_sign_by : Bool → Bool → Bool → Frame → Sign
fall_sign_by false s e f = Quiet
fall_sign_by true true e f = Bit
fall_sign_by true false true f = Byte (pushed f.shift f.bit)
fall_sign_by true false false f = Ninth f.bit

-- What a fall of SCL commits (State and time, 4; Bytes on the wire, only falls that commit a bit count).
unfoldable pub fall_sign : Frame → Sign
fall_sign f = fall_sign_by f.held (ltb f.bits all_but_one) (eqb f.bits all_but_one) f

-- The frame after a fall by cases: a bit taken, fewer than eight committed (State and time, 4).
abbrev pub fall_frame_by : Bool → Bool → Frame → Frame
fall_frame_by false e f = f
fall_frame_by true true f = record { held = false; bit = false; bits = f.bits + 1; shift = pushed f.shift f.bit }
fall_frame_by true false f = clean_frame

-- The frame after a fall of SCL: one bit more, or clean after the ninth (State and time, 4).
unfoldable pub fall_frame : Frame → Frame
fall_frame f = fall_frame_by f.held (ltb f.bits most_bits) f

-- The sign by SCL before and now, then SDA before and now; where both change, only SCL counts (State and time, 4).
abbrev pub sign_by : Bool → Bool → Bool → Bool → Frame → Sign
sign_by true true true false f = Start
sign_by true true false true f = Stop f.bits
sign_by true true true true f = Quiet
sign_by true true false false f = Quiet
sign_by true false a b f = fall_sign f
sign_by false s a b f = Quiet

-- The frame after the sample, by the same four levels: a rise takes a bit, a fall commits it (State and time, 4).
abbrev pub frame_by : Bool → Bool → Bool → Bool → Frame → Frame
frame_by true true true false f = clean_frame
frame_by true true false true f = clean_frame
frame_by true true true true f = f
frame_by true true false false f = f
frame_by true false a b f = fall_frame f
frame_by false true a b f = record { held = true; bit = b; bits = f.bits; shift = f.shift }
frame_by false false a b f = f

-- The sign of a sample, from the wire before it, SCL and the SDA line (State and time, 4).
unfoldable pub sign_of : Wire → Bool → Bool → Sign
sign_of w scl sda = sign_by w.lines.scl scl w.lines.sda sda w.frame

-- The wire after that sample (State and time, 4).
unfoldable pub wire_of : Wire → Bool → Bool → Wire
wire_of w scl sda = record { lines = record { scl = scl; sda = sda }; frame = frame_by w.lines.scl scl w.lines.sda sda w.frame }
