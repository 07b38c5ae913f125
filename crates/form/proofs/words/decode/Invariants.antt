-- `form::words::decode` meets its contract: what is decoded so far, and what is left to decode into the rest, is the whole.
use Rattle.std.proofs.Common.{◌≡◌, ◌*◌, ◌++◌}
use lib.ListN.{drop, take}
use Rattle.form.specs.Words.{decoded_of}
use Rattle.form.proofs.words.decode.Given as goal

abbrev pub invariant-loop-i : goal.invariant-loop-i
invariant-loop-i l = take l.i l.row ++ decoded_of (drop (4 * l.i) l.bytes) (drop l.i l.row) ≡ decoded_of l.bytes l.initial.row
