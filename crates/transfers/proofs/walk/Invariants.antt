-- `transfers::walk` meets its contract: what is left to list and to run from here gives what the whole gives, and a sample says at most
-- four entries, so that their count fits.
use Rattle.std.proofs.Common.{◌≡◌, length, ◌+◌, ◌*◌, ◌≤◌}
use Rattle.std.specs.Iterator.Adapters.{enumerate_source, enumerate_count, zip_first, zip_second}
use Rattle.std.specs.Slice.Iter.{iter_rest}
use Rattle.sample.specs.Run.{run_of}
use Rattle.entries.specs.Entries.{laid_from}
use Rattle.transfers.specs.Transfers.{entries_of}
use Rattle.transfers.proofs.walk.Given as goal

abbrev pub invariant-loop-place : goal.invariant-loop-place
invariant-loop-place l =
    let it = l.place-iterator in
    let es = iter_rest (zip_first (enumerate_source it)) in
    let ls = iter_rest (zip_second (enumerate_source it)) in
    let place = enumerate_count it in
    record {
      far : place + length ls ≡ length l.levels;
      few : l.count ≤ place * 4;
      run : run_of es ls (record { state = l.now; array = l.array }) ≡ run_of l.elapsed l.levels (record { state = l.initial.now; array = l.initial.array });
      laid : laid_from l.count (entries_of place es ls (record { state = l.now; array = l.array })) l.entries
          ≡ laid_from 0 (entries_of 0 l.elapsed l.levels (record { state = l.initial.now; array = l.initial.array })) l.initial.entries;
      counted : l.count + length (entries_of place es ls (record { state = l.now; array = l.array }))
          ≡ length (entries_of 0 l.elapsed l.levels (record { state = l.initial.now; array = l.initial.array }));
    }
