-- `lines::skip` meets its contract: a part without a line feed is passed, and the windows left are what is left of the text.
use Rattle.std.proofs.Common.{◌≡◌, drop}
use Rattle.std.specs.Slice.Iter.{chunks_exact_rest, chunks_exact_size}
use Rattle.lines.specs.Parts.{Skips}
use Rattle.lines.proofs.skip.Given as goal

abbrev pub invariant-loop-window : goal.invariant-loop-window
invariant-loop-window l =
    Skips l.text l.at l.i
    × (chunks_exact_rest l.window-iterator ≡ drop l.i l.text)
    × (chunks_exact_size l.window-iterator ≡ 16)
