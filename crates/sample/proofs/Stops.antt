-- Laws of a stop: what its bits leave it to act on. Assumes nothing.
use Prim.Native.Nat.{ℕ}
use mathlib.Core.Bool.{Bool, true, false, true≢false}
use mathlib.Core.List.{List}
use mathlib.Core.Path.{◌≡◌, refl, ap, sym}
use Rattle.page.specs.Page.{empty_load}
use Rattle.part.specs.declared.state.Control.{Control}
use Rattle.part.specs.declared.state.State.{State}
use Rattle.part.specs.State.{with_device, with_load}
use Rattle.control.specs.Register.{order_by, order_of, carried_out}
use Rattle.control.specs.declared.Order.TheVariants.{Nothing}
use Rattle.ends.specs.Ends.{cuts_off, control_left, stopped_of, ended_of}
use Rattle.sample.specs.Sample.{stop_of, load_left, left_over_by, left_of, saved_of}

-- With nothing pending a stop has no order.
pub no-order : (wp : Bool) (c : Control) → c.pending ≡ false → order_of wp c ≡ Nothing
unfolding order_of
no-order wp c h = ap (λ (b : Bool). order_by b c.rwel wp c) h

-- A stop that finds an empty load and nothing pending does the same whatever it cuts.
calm-by : (cut wp : Bool) (s : State) → s.device.control.pending ≡ false → s.load ≡ empty_load → stop_of wp (left_over_by cut s) ≡ stop_of wp s
unfolding stop_of stopped_of carried_out
calm-by false wp s h e = refl
calm-by true wp s h e = rw (no-order wp (control_left true s.device.control) refl, no-order wp s.device.control h, e)

-- So do its bits not matter.
pub calm-stop : (n : ℕ) (wp : Bool) (s : State) → s.device.control.pending ≡ false → s.load ≡ empty_load
    → stop_of wp (left_of n s) ≡ stop_of wp s
unfolding left_of
calm-stop n wp s h e = calm-by (cuts_off s.device.talk.phase n) wp s h e

-- What is left of an empty load is an empty load.
empty_left : (cut : Bool) → load_left cut empty_load ≡ empty_load
empty_left true = refl
empty_left false = refl

-- Nor does such a stop write the array.
pub calm-saved : (n : ℕ) (s : State) (array : List ℕ) → s.load ≡ empty_load → saved_of (left_of n s) array ≡ array
unfolding left_of
calm-saved n s array e = rw (e, empty_left (cuts_off s.device.talk.phase n))

-- A stop that cuts a byte off ends talk as reset does, and leaves all else.
cut_by : (cut wp : Bool) (s : State) → cut ≡ true
    → stop_of wp (left_over_by cut s) ≡ with_load (with_device s (ended_of s.device)) empty_load
unfolding stop_of stopped_of carried_out ended_of
cut_by true wp s h = rw (no-order wp (control_left true s.device.control) refl)
cut_by false wp s h = absurd (true≢false (sym h))

-- So it does with the bits that a stop has.
pub cut-stop : (n : ℕ) (wp : Bool) (s : State) → cuts_off s.device.talk.phase n ≡ true
    → stop_of wp (left_of n s) ≡ with_load (with_device s (ended_of s.device)) empty_load
unfolding left_of
cut-stop n wp s h = cut_by (cuts_off s.device.talk.phase n) wp s h

-- It leaves the array.
pub cut-saved : (n : ℕ) (s : State) (array : List ℕ) → cuts_off s.device.talk.phase n ≡ true → saved_of (left_of n s) array ≡ array
unfolding left_of
cut-saved n s array h = rw h

-- Any other stop acts on the state as it is.
pub whole-left : (n : ℕ) (s : State) → cuts_off s.device.talk.phase n ≡ false → left_of n s ≡ s
unfolding left_of
whole-left n s h = rw h
