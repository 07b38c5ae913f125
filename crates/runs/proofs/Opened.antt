-- Every rule of a sample, of power-up and of the verdict, opened at once: to unfold `opened` is to unfold them all, so that a run of a
-- capture can be computed.
use Prim.Native.Nat.{ℕ}
use Rattle.ground.specs.Kind.{kind_of}
use Rattle.timers.specs.Timers.{loaded_of, timed_of, supplied_of}
use Rattle.lock.specs.Lock.{extent_of, locked_of}
use Rattle.page.specs.Page.{store_of}
use Rattle.wire.specs.Sign.{fall_sign, fall_frame, sign_of, wire_of}
use Rattle.refusals.specs.Refusals.{in_range, judged_of}
use Rattle.control.specs.Register.{order_of, carried_out}
use Rattle.address.specs.Address.{slave_of, high_of, low_of}
use Rattle.device.specs.Bytes.{taken_of, byte_of, kept_of}
use Rattle.bits.specs.Bits.{bit_of, ninth_of}
use Rattle.ends.specs.Ends.{started_of, stopped_of, ended_of}
use Rattle.levels.specs.Level.{answer_of}
use Rattle.sample.specs.Sample.{opens_of, reset_of, start_of, stop_of, left_of, byte_step, sign_in, seen_of, wired_of, step_of, array_of}
use Rattle.sample.specs.Run.{part_step}
use Rattle.power.specs.Power.{powered_up}

unfoldable pub opened : ℕ
unfolding in_range judged_of kind_of extent_of locked_of store_of loaded_of timed_of supplied_of fall_sign fall_frame sign_of wire_of order_of carried_out slave_of high_of low_of taken_of byte_of kept_of bit_of ninth_of started_of stopped_of ended_of answer_of opens_of reset_of start_of stop_of left_of byte_step sign_in seen_of wired_of step_of array_of part_step powered_up
opened = 0
