-- The words of a reply fill their bytes. Assumes nothing.
use Prim.Native.Nat.{ℕ}
use mathlib.Core.List.{List}
use mathlib.Core.Path.{◌≡◌}
use lib.ListN.{replicate}
use Rattle.part.specs.declared.state.State.{State}
use Rattle.ground.specs.Verdict.{Verdict, accepted, refused}
use Rattle.form.specs.Words.{bytes_of, encoded_of}
use Rattle.replies.specs.Reply.{opening_of, closing_of}

-- Words laid over a buffer that they fill are their bytes.
pub opening-bytes : (v : Verdict) (out : List ℕ) → out ≡ replicate 8 0 → encoded_of (opening_of v) out ≡ bytes_of (opening_of v)
unfolding opening_of
opening-bytes (accepted n) out e = rw e
opening-bytes (refused k p) out e = rw e

pub closing-bytes : (register : ℕ) (s : State) (out : List ℕ) → out ≡ replicate 32 0 → encoded_of (closing_of register s) out ≡ bytes_of (closing_of register s)
unfolding closing_of
closing-bytes register s out e = rw e
