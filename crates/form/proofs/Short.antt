-- A short case means what it meant before there were long ones. Assumes nothing.
use Prim.Native.Nat.{ℕ, ◌<◌}
use mathlib.Core.Bool.{false}
use mathlib.Core.List.{List}
use mathlib.Core.Path.{◌≡◌, refl}
use native.Mathlib.Nat.{mod-eq_of_lt}
use lib.ListN.{get_or}
use borrow.Author.Tests.{leb-false}
use Rattle.part.specs.declared.state.State.{State}
use Rattle.form.specs.Fields.{put_in_of}
use Rattle.form.specs.Further.{further_in, put_by_word}
use Rattle.form.specs.Header.{long_mark, preset_of, header_of, state_of}

-- Its array is as long as the word says.
pub short-length : (ws : List ℕ) → (header_of ws).long ≡ false → (header_of ws).array ≡ get_or ws 4 0
short-length ws short =
    let h : get_or ws 4 0 < long_mark = leb-false _ _ short in
    mod-eq_of_lt h

-- Its state is made of the first sixteen words alone.
pub short-state : (ws : List ℕ) (s : State) → state_of (header_of ws) s ≡ put_in_of (preset_of ws) s
unfolding state_of further_in put_by_word
short-state ws s = refl
