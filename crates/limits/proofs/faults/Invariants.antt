-- `limits::faults` meets its contract: what the samples left say is what all of them say.
use Rattle.std.proofs.Common.{◌≡◌, length}
use Rattle.std.specs.Iterator.Adapters.{enumerate_source, enumerate_count, zip_first, zip_second}
use Rattle.std.specs.Slice.Iter.{iter_rest}
use Rattle.ground.specs.Verdict.{accepted}
use Rattle.limits.specs.Samples.{samples_of}
use Rattle.limits.proofs.faults.Given as goal

abbrev pub invariant-loop-place : goal.invariant-loop-place
invariant-loop-place l =
    samples_of (enumerate_count l.place-iterator) (iter_rest (zip_first (enumerate_source l.place-iterator))) (iter_rest (zip_second (enumerate_source l.place-iterator))) (accepted (length l.levels))
    ≡ samples_of 0 l.elapsed l.levels (accepted (length l.levels))
