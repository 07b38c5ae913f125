-- The list says of each sample what the step heard in it: the step judges reset and sees its sign in the state after rules 1 and 2, the
-- list in the states before and after the sample, and these agree. Assumes nothing.
use Prim.Native.Nat.{ℕ}
use mathlib.Core.Bool.{Bool, true, false, true≢false}
use mathlib.Core.List.{List}
use mathlib.Core.Path.{◌≡◌, refl}
use Rattle.part.specs.State.{with_timers, with_device, with_control}
use Rattle.part.specs.declared.state.State.{State}
use Rattle.part.specs.declared.state.Timers.{Timers}
use Rattle.wire.specs.declared.Sign.{Sign}
use Rattle.wire.specs.declared.Sign.TheVariants.{Quiet, Start, Stop, Bit, Byte, Ninth}
use Rattle.sample.specs.Sample.{begun, latched_by, opens_of, reset_of, start_of, stop_of, left_of, byte_step, heard_by, sign_in, wired_of, Seen, unseen, sees, seen_by, seen_of, goes_on_by, step_of}
use Rattle.timers.specs.Timers.{timed_of, supplied_of}
use Rattle.levels.specs.Level.{wp_of, vcc_of}
use Rattle.said.specs.Said.{said_by, heard_in}

-- The sign.
pub same_sign : (e level : ℕ) (s : State) → sign_in level (opens_of e level s) ≡ sign_in level s
unfolding sign_in opens_of
same_sign e level s = refl

-- The state after rules 1 and 2, by whether VCC is good and the timers that rule 1 leaves.
abbrev supplied : Bool → Timers → State → State
supplied good t s = with_device (with_timers s (supplied_of good t)) (with_control s.device (latched_by good s.device.control))

-- No sign looks at the timers, and with VCC good nothing else is changed.
said-supplied : (sign : Sign) (t : Timers) (s : State) → said_by sign (supplied true t s) ≡ said_by sign s
said-supplied Quiet t s = refl
said-supplied Start t s = refl
said-supplied (Stop n) t s = refl
said-supplied Bit t s = refl
said-supplied (Byte v) t s = refl
said-supplied (Ninth b) t s = refl

heard-supplied : (good reset : Bool) (sign : Sign) (t : Timers) (s : State) → (supplied_of good t).reset ≡ reset
    → heard_in (seen_by reset sign) (supplied good t s) ≡ heard_in (seen_by reset sign) s
unfolding supplied_of
heard-supplied good true sign t s h = refl
heard-supplied true false sign t s h = said-supplied sign t s
heard-supplied false false sign t s h = absurd (true≢false h)

-- What its sign says: phase and reason of a byte, own level of a ninth bit, bits of a start, and what a stop cuts off and drops.
pub same-said : (e level : ℕ) (s : State)
    → heard_in (seen_of level (opens_of e level s)) (opens_of e level s) ≡ heard_in (seen_of level (opens_of e level s)) s
unfolding seen_of opens_of
same-said e level s =
    let t = timed_of s.device.control.stored e s.timers in
    heard-supplied (vcc_of level) (supplied_of (vcc_of level) t).reset (sign_in level (supplied (vcc_of level) t s)) t s refl

-- A write cycle that begins leaves reset alone.
begun-reset : (b : Bool) (t : Timers) → (begun b t).reset ≡ t.reset
begun-reset true t = refl
begun-reset false t = refl

-- So does every sign.
heard-reset : (sign : Sign) (wp : Bool) (array : List ℕ) (s : State) → (heard_by sign wp array s).timers.reset ≡ s.timers.reset
unfolding start_of stop_of left_of byte_step
heard-reset Quiet wp array s = refl
heard-reset Start wp array s = refl
heard-reset (Stop n) wp array s = rw (begun-reset, begun-reset)
heard-reset Bit wp array s = refl
heard-reset (Byte v) wp array s = refl
heard-reset (Ninth b) wp array s = refl

goes-on-reset : (x : Seen) (level : ℕ) (array : List ℕ) (s : State) → (goes_on_by x level array s).timers.reset ≡ s.timers.reset
unfolding reset_of wired_of
goes-on-reset unseen level array s = refl
goes-on-reset (sees sign) level array s = heard-reset sign (wp_of level) array (wired_of level s)

-- Reset is active after a sample exactly if it is after rules 1 and 2.
pub same-reset : (e level : ℕ) (array : List ℕ) (s : State) → (step_of e level array s).timers.reset ≡ (opens_of e level s).timers.reset
unfolding step_of
same-reset e level array s = goes-on-reset (seen_of level (opens_of e level s)) level array (opens_of e level s)
