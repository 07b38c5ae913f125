-- `form::words::encode` meets its contract: what is laid so far, and what is left to lay over the rest, is the whole.
use Rattle.std.proofs.Common.{◌≡◌, ◌*◌, ◌≤◌, length, ◌++◌}
use lib.ListN.{drop, take}
use Rattle.form.specs.Words.{encoded_of}
use Rattle.form.proofs.words.encode.Given as goal

abbrev pub invariant-loop-i : goal.invariant-loop-i
invariant-loop-i l =
    record {
      within : 4 * l.i ≤ length l.out;
      whole : take (4 * l.i) l.out ++ encoded_of (drop l.i l.words) (drop (4 * l.i) l.out) ≡ encoded_of l.words l.initial.out;
    }
