-- What is put into a field is what its definition says. Assumes nothing.
use Prim.Native.Nat.{ℕ, ◌≤◌, min}
use mathlib.Core.Path.{◌≡◌, ◌∙◌, sym}
use native.Mathlib.Nat.{min-eq_left}
use native.Mathlib.Omega.{arith}
use Rattle.std.specs.Prelude.{Option, Some, None, MatchOption, unwrap_or}
use Rattle.part.specs.declared.state.State.{State}
use Rattle.form.specs.Fields.{field_of}
use Rattle.form.specs.Further.{put_by_word}

-- A word of a field that takes it whole.
pub put_whole : (word : Option ℕ) (old r : ℕ) → r ≡ unwrap_or word old → r ≤ 4294967295 → r ≡ field_of 4294967295 word old
unfolding field_of
put_whole None old r e h = e
put_whole (Some w) old r e h =
    let g : w ≤ 4294967295 = omega arith in
    e ∙ sym (min-eq_left g)

-- A word of a field that takes no number above the largest one.
pub put_narrowed : (most : ℕ) (word : Option ℕ) (old r : ℕ) → MatchOption word (r ≡ old) (λ (w : ℕ). r ≡ min w most) → r ≡ field_of most word old
unfolding field_of
put_narrowed most None old r e = e
put_narrowed most (Some w) old r e = e

-- A byte that a word puts into the state.
pub put_byte : (put : ℕ → State → State) (word : Option ℕ) (s r : State) → MatchOption word (r ≡ s) (λ (w : ℕ). State × (r ≡ put (min w 255) s))
    → r ≡ put_by_word put word s
unfolding put_by_word
put_byte put None s r e = e
put_byte put (Some w) s r e = e.1
