-- `tokens::pass_blanks` meets its contract: from each place passed on the same tokens are left. Assumes nothing.
use Prim.Native.Nat.{◌≤◌}
use mathlib.Core.Path.{◌≡◌}
use lib.ListN.{length, drop}
use Rattle.tokens.specs.Tokens.{tokens_from}
use Rattle.tokens.proofs.pass_blanks.Given as goal

abbrev pub invariant-loop-i : goal.invariant-loop-i
invariant-loop-i l =
    (l.at ≤ l.i) × (l.i ≤ length l.text) × (l.on ≤ l.i) × (tokens_from l.line (drop l.at l.text) ≡ tokens_from l.on (drop l.i l.text))
