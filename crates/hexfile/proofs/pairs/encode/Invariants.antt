-- `hexfile::pairs::encode` meets its contract: what is left, laid over what stands there, gives what the whole gives.
use Prim.Native.Nat.{◌+◌, ◌*◌, ◌≤◌}
use mathlib.Core.Path.{◌≡◌}
use lib.ListN.{length, drop}
use lib.Seq.{sets}
use Rattle.hexfile.specs.Pairs.{text_of}
use Rattle.hexfile.proofs.pairs.encode.Given as goal

abbrev pub invariant-loop-i : goal.invariant-loop-i
invariant-loop-i l =
    (l.i ≤ length l.bytes)
    × (length l.out ≡ length l.initial.out)
    × (sets l.out (l.at + 2 * l.i) (text_of (drop l.i l.bytes)) ≡ sets l.initial.out l.at (text_of l.bytes))
