-- What keeps the promise of a text at the start of a buffer. Assumes nothing.
use Prim.Native.Nat.{ℕ, ◌≤◌}
use mathlib.Core.List.{List, ◌++◌}
use mathlib.Core.Path.{◌≡◌, ap, sym}
use native.Mathlib.Omega.{arith}
use lib.ListN.{length, drop, length-append}
use lib.Seq.{length-take-le}
use Rattle.texts.specs.Laying.{Starts}

-- A text that is known, at the start of a buffer.
pub starts_with : (text known out : List ℕ) → text ≡ known → Starts text out (length known) (known ++ drop (length known) out)
starts_with text known out e =
    let f : length known ≤ length (known ++ drop (length known) out) = omega (arith, length-append known (drop (length known) out)) in
    record {
      shown = ap (λ (t : List ℕ). t ++ drop (length known) out) (sym e);
      count = ap length (sym e);
      fits = (f, sym (length-take-le (length known) (known ++ drop (length known) out) f));
    }
