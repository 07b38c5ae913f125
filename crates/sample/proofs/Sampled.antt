-- Laws of one sample: what it comes to with reset inactive and with reset active. Assumes nothing.
use Prim.Native.Nat.{ℕ}
use mathlib.Core.Bool.{Bool, true, false}
use mathlib.Core.List.{List}
use mathlib.Core.Path.{◌≡◌, refl, ap}
use lib.ListN.{length}
use Rattle.page.specs.Page.{marked}
use Rattle.part.specs.declared.state.Load.{Load}
use Rattle.part.specs.declared.state.Place.{Place}
use Rattle.part.specs.declared.state.State.{State}
use Rattle.page.proofs.Stored.{store_length}
use Rattle.wire.specs.declared.Sign.{Sign}
use Rattle.wire.specs.declared.Sign.TheVariants.{Quiet, Start, Stop, Bit, Byte, Ninth}
use Rattle.levels.specs.Level.{wp_of}
use Rattle.sample.specs.Sample.{opens_of, reset_of, left_of, heard_by, saved_by, written_by, sign_in, wired_of, Seen, unseen, sees, seen_by, seen_of, goes_on_by, step_of, keeps_by, array_of}

module _ (e level : ℕ) (array : List ℕ) (s : State) where
  -- With reset inactive the state is what the sign seen makes of it.
  pub step-heard : (opens_of e level s).timers.reset ≡ false
      → step_of e level array s ≡ heard_by (sign_in level (opens_of e level s)) (wp_of level) array (wired_of level (opens_of e level s))
  unfolding step_of seen_of
  step-heard h = ap (λ (b : Bool). goes_on_by (seen_by b (sign_in level (opens_of e level s))) level array (opens_of e level s)) h

  -- With reset inactive the array is what the sign seen makes of it.
  pub array-heard : (opens_of e level s).timers.reset ≡ false
      → array_of e level array s ≡ written_by (sign_in level (opens_of e level s)) (wired_of level (opens_of e level s)) array
  unfolding array_of seen_of
  array-heard h = ap (λ (b : Bool). keeps_by (seen_by b (sign_in level (opens_of e level s))) level array (opens_of e level s)) h

  -- With reset active talk ends.
  pub step-reset : (opens_of e level s).timers.reset ≡ true → step_of e level array s ≡ reset_of level (opens_of e level s)
  unfolding step_of seen_of
  step-reset h = ap (λ (b : Bool). goes_on_by (seen_by b (sign_in level (opens_of e level s))) level array (opens_of e level s)) h

  -- With reset active the array stays.
  pub array-reset : (opens_of e level s).timers.reset ≡ true → array_of e level array s ≡ array
  unfolding array_of seen_of
  array-reset h = ap (λ (b : Bool). keeps_by (seen_by b (sign_in level (opens_of e level s))) level array (opens_of e level s)) h

-- A load leaves the array's length as it was.
pub saved-length : (b : Bool) (p : Place) (l : Load) (array : List ℕ) → length (saved_by b p l array) ≡ length array
saved-length true p l array = store_length p l array
saved-length false p l array = refl

-- So does every sign.
pub written-length : (sign : Sign) (s : State) (array : List ℕ) → length (written_by sign s array) ≡ length array
written-length Quiet s array = refl
written-length Start s array = refl
written-length (Stop n) s array = saved-length (marked (left_of n s).load) (left_of n s).device.counter (left_of n s).load array
written-length Bit s array = refl
written-length (Byte v) s array = refl
written-length (Ninth b) s array = refl

-- So does rule 3 or 4.
keeps-length : (x : Seen) (level : ℕ) (array : List ℕ) (s : State) → length (keeps_by x level array s) ≡ length array
keeps-length unseen level array s = refl
keeps-length (sees sign) level array s = written-length sign (wired_of level s) array

-- A sample leaves the array's length as it was.
pub array-length : (e level : ℕ) (array : List ℕ) (s : State) → length (array_of e level array s) ≡ length array
unfolding array_of
array-length e level array s = keeps-length (seen_of level (opens_of e level s)) level array (opens_of e level s)
