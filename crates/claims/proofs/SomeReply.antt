-- There is a reply: for each public operation and every input the outcome is given. No axiom is used.
use Prim.Native.Nat.{ℕ}
use mathlib.Core.Bool.{Bool, true, false}
use mathlib.Core.List.{◌++◌}
use mathlib.Core.Path.{◌≡◌, refl}
use lib.ListN.{length, drop}
use Rattle.std.specs.Prelude.{Option, Some, None}
use Rattle.ground.specs.Kind.{kind_of, known}
use Rattle.ground.specs.Size.{size_meant, size_by}
use Rattle.ground.proofs.Verdicts.{reply_of, reply-means}
use Rattle.refusals.specs.Refusals.{power_of, judged_of, capture_of}
use Rattle.control.specs.Register.{reads_of}
use Rattle.sample.specs.Run.{Part, part_after}
use Rattle.power.specs.declared.Replayed.{Replayed}
use Rattle.power.specs.Power.{power_state, at_power}
use Rattle.twin.specs.Promises.{row_after}
use Rattle.intel.specs.Intel.{intel}
use Rattle.reader.specs.Answers.{verdict_of, array_after}
use Rattle.image.specs.Promises.{image_of, write_verdict, out_after}
use Rattle.tidying.specs.Shown.{shown_of}
use Rattle.telling.specs.Told.{told, fits, answer_by, left_or}
use Rattle.captures.specs.Once.{capture_verdict}
use Rattle.transfers.specs.Transfers.{entries_of}
use Rattle.transfers.specs.Promises.{Listed}
use Rattle.transfers.specs.Promises.{listed_by, laid_by}
use Rattle.dumps.specs.Samples.{samples_in}
use Rattle.dumps.specs.Faults.{dump_verdict}
use Rattle.places.specs.Places.{part_after_all, places_of, open_verdict, report_by, array_by, laid_over}
use Rattle.claims.specs.SomeReply.{SomeReply}
use Rattle.claims.proofs.Starting.{starts_with}
use Rattle.image_claims.proofs.Numbered.{image-numbered}
use Rattle.claims.proofs.Numbered.{power-numbered, judged-numbered, capture-numbered, write-numbered, listed-numbered, dump-numbered, open-numbered, report-numbered}

-- The size that is said.
abbrev size_for : Bool → ℕ → Option ℕ
size_for true n = Some n
size_for false n = None

size-means : (b : Bool) (n : ℕ) → size_meant (size_for b n) ≡ size_by b n
unfolding size_meant
size-means true n = refl
size-means false n = refl

-- The claim: the outcome of each public operation.
pub some-reply : SomeReply
some-reply =
    record {
      power-up = λ part select stored.
          let v = power_of part select stored in
          (record { reply = reply_of v; state = power_state v part select stored }, record { reply = reply-means v (power-numbered part select stored); state = refl });
      replay = λ s es ls array row.
          let v = judged_of s es ls array row in
          let p : Part = record { state = s; array = array } in
          let r : Replayed = record { reply = reply_of v; state = (part_after v es ls p).state } in
          ((r, (part_after v es ls p).array, row_after v es ls p row), record { reply = reply-means v (judged-numbered s es ls array row); state = refl; kept = refl; said = refl });
      register = λ s. (reads_of s.device.control, record { byte = refl });
      size = λ part. (size_for (known part) (kind_of part).size, record { said = size-means (known part) (kind_of part).size });
      read-image = λ part text array.
          let t = image_of intel part text array in
          let v = verdict_of t (length text) in
          ((reply_of v, array_after t array), record { reply = reply-means v (image-numbered intel part text array (length text)); kept = refl });
      write-image = λ part array out.
          let v = write_verdict intel part array out in
          ((reply_of v, out_after intel v array out), record { reply = reply-means v (write-numbered intel part array out); said = refl });
      tidy = λ part text out.
          let t = shown_of part text in
          ((length t, t ++ drop (length t) out), starts_with t t out refl);
      door-replay = λ part select stored es ls array row numbers.
          let v = capture_verdict part select stored es ls array row in
          let p = at_power part select stored array in
          let b = fits numbers in (
            (answer_by b, left_or b (part_after v es ls p).array array, left_or b (row_after v es ls p row) row, left_or b (told v) numbers),
            record { answer = refl; reply = refl; kept = refl; said = refl },
          );
      door-read-image = λ part text array numbers.
          let t = image_of intel part text array in
          let b = fits numbers in (
            (answer_by b, left_or b (array_after t array) array, left_or b (told (verdict_of t (length text))) numbers),
            record { answer = refl; reply = refl; kept = refl },
          );
      door-write-image = λ part array out numbers.
          let v = write_verdict intel part array out in
          let b = fits numbers in (
            (answer_by b, left_or b (out_after intel v array out) out, left_or b (told v) numbers),
            record { answer = refl; reply = refl; said = refl },
          );
      list = λ s es ls array row.
          let v = capture_of s es ls array in
          let p : Part = record { state = s; array = array } in
          let xs = entries_of 0 es ls p in
          let r : Listed = record { reply = reply_of (listed_by v xs); state = (part_after v es ls p).state } in (
            (r, (part_after v es ls p).array, laid_by v xs row),
            record { reply = reply-means (listed_by v xs) (listed-numbered v xs (capture-numbered s es ls array)); state = refl; kept = refl; said = refl },
          );
      judge = λ dump. (reply_of (dump_verdict dump), record { reply = reply-means (dump_verdict dump) (dump-numbered dump) });
      report = λ part select stored dump array row.
          let v = open_verdict part select stored dump array in
          let ps = places_of part select stored dump array in (
            (reply_of (report_by v (length ps)), array_by v (part_after_all (samples_in dump) (at_power part select stored array)).array array, array_by v (laid_over ps row) row),
            record { reply = reply-means (report_by v (length ps)) (report-numbered v (length ps) (open-numbered part select stored dump array)); kept = refl; said = refl },
          );
      door-replay-dump = λ part select stored dump array row numbers.
          let v = open_verdict part select stored dump array in
          let ps = places_of part select stored dump array in
          let f = fits numbers in (
            (answer_by f, left_or f (array_by v (part_after_all (samples_in dump) (at_power part select stored array)).array array) array, left_or f (array_by v (laid_over ps row) row) row, left_or f (told (report_by v (length ps))) numbers),
            record { answer = refl; reply = refl; kept = refl; said = refl },
          );
    }
