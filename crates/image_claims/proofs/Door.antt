-- Written and read back through the door. It rests on the claim that it names.
use Prim.Native.Nat.{ℕ}
use mathlib.Core.List.{List}
use mathlib.Core.Path.{◌≡◌, refl, sym, ◌∙◌}
use lib.ListN.{length, take}
use borrow.Author.Tests.{eq-eqb}
use Rattle.std.specs.Prelude.{Ok}
use Rattle.ground.specs.Verdict.{accepted}
use Rattle.ground.proofs.Verdicts.{reply_of, reply-means}
use Rattle.intel.specs.Intel.{intel}
use Rattle.reader.specs.Answers.{verdict_of, array_after}
use Rattle.image.specs.Promises.{image_of, ReadsImage, WritesImage}
use Rattle.image_claims.specs.Images.{WriteThenRead, DoorTrip}
use Rattle.image_claims.proofs.Numbered.{acceptance, image-numbered}

-- Through the door.
pub door-from : WriteThenRead → DoorTrip
door-from trip =
    record {
      back = λ part array out numbers out' numbers' old numbers₂ array' numbers₂' r r₂ n b f w v o g q.
          let d = eq-eqb (length numbers) 2 f in
          let h = eq-eqb (length numbers₂) 2 g in
          let text : List ℕ = take n out' in
          let reading = image_of intel part text old in
          let said = verdict_of reading (length text) in
          let means = reply-means said (image-numbered intel part text old (length text)) in
          let one = reply-means (accepted n) (acceptance n) in
          let x : WritesImage intel part array out (Ok n) out' = record { reply = one ∙ sym v; said = w.said ∙ rw d } in
          let y : ReadsImage intel part text old (reply_of said) (array_after reading old) = record { reply = means; kept = refl } in
          let z = trip.back part array out out' old (array_after reading old) (Ok n) (reply_of said) n b x one o y in
          let t : said ≡ accepted n = sym means ∙ z.reply in
          (w.answer ∙ rw d, q.answer ∙ rw h, q.kept ∙ rw h z.same, w.reply ∙ rw (d, v), q.reply ∙ rw (h, t));
    }
