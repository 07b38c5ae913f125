-- Demand 1 and the one reply at inputs. Each law rests on the claims that it names.
use Prim.Native.Nat.{ℕ}
use mathlib.Core.List.{List, [], ◌∷◌, ◌++◌}
use mathlib.Core.Path.{◌≡◌, refl, sym}
use native.Mathlib.Omega.{arith}
use lib.ListN.{length, drop}
use Rattle.std.specs.Prelude.{Err, None}
use Rattle.ground.specs.Kind.{kind_of}
use Rattle.ground.specs.Numbers.{x4323, x4283}
use Rattle.ground.specs.Size.{size_meant}
use Rattle.ground.specs.Verdict.{accepted, refused, meant}
use Rattle.ground.specs.declared.Reason.TheVariants.{PartUnknown, TimeTooLong, EndMissing, RoomTooSmall}
use Rattle.refusals.specs.Refusals.{power_of, judged_of, capture_of}
use Rattle.digits.specs.Digits.{glyph_of}
use Rattle.forms.specs.Reading.{bad, reading_of}
use Rattle.forms.specs.Writing.{lines_length}
use Rattle.intel.specs.Intel.{intel}
use Rattle.image.specs.Promises.{image_of, write_verdict}
use Rattle.texts.specs.Numbers.{decimal_of}
use Rattle.texts.specs.Refusal.{refusal_line}
use Rattle.tidying.specs.Shown.{text_gives, shown_of}
use Rattle.codes.specs.Codes.{codes_of}
use Rattle.captures.specs.Once.{capture_verdict}
use Rattle.transfers.specs.Promises.{Listed}
use Rattle.power.specs.Power.{powered_up}
use Rattle.power.specs.Promises.{ReadsRegister}
use Rattle.power.specs.declared.Replayed.{Replayed}
use Rattle.runs.proofs.Opened.{opened}
use Rattle.claims.specs.Demand1.{Demand1}
use Rattle.claims.specs.OneReply.{OneReply}
use Rattle.claims.specs.AtInputs.{fresh, ones, rows, RefusedAt, OneAt}
use Rattle.claims.proofs.Starting.{starts_with}

-- Part 4324 is refused.
no_part : power_of 4324 0 0 ≡ refused 1 0
unfolding power_of kind_of
no_part = refl

-- Part 4323 is not.
part-known : power_of x4323 0 0 ≡ accepted 0
unfolding power_of kind_of
part-known = refl

-- A time over 100,000 at sample 1.
too_long : judged_of fresh (1 ∷ 100001 ∷ []) (0 ∷ 0 ∷ []) ones rows ≡ refused 9 1
unfolding opened
too_long = refl

-- The same without an answer row.
too-long-listed : capture_of fresh (1 ∷ 100001 ∷ []) (0 ∷ 0 ∷ []) ones ≡ refused 9 1
unfolding opened capture_of
too-long-listed = refl

-- The two through the door.
no-part-once : capture_verdict 4324 0 0 (1 ∷ 1 ∷ []) (0 ∷ 0 ∷ []) ones rows ≡ refused 1 0
unfolding capture_verdict
no-part-once = rw no_part

too-long-once : capture_verdict x4323 0 0 (1 ∷ 100001 ∷ []) (0 ∷ 0 ∷ []) ones rows ≡ refused 9 1
unfolding capture_verdict
too-long-once = rw (part-known, too_long)

-- An empty text.
no_text : image_of intel x4323 [] ones ≡ bad 17 0
unfolding image_of reading_of kind_of
no_text = refl

-- No room.
no_room : write_verdict intel x4323 ones [] ≡ refused 19 0
unfolding write_verdict lines_length kind_of
no_room = refl

-- Images of part 4324, and of an X4283 in the smaller part's array.
no-part-read : image_of intel 4324 [] ones ≡ bad 1 0
unfolding image_of kind_of
no-part-read = refl

no-size-read : image_of intel x4283 [] ones ≡ bad 5 0
unfolding image_of kind_of
no-size-read = refl

no-part-written : write_verdict intel 4324 ones [] ≡ refused 1 0
unfolding write_verdict kind_of
no-part-written = refl

no-size-written : write_verdict intel x4283 ones [] ≡ refused 5 0
unfolding write_verdict kind_of
no-size-written = refl

no-part-line : text_gives 4324 [] ≡ bad 1 0
unfolding kind_of
no-part-line = refl

-- The line that the program writes for an empty text.
no-text-line : text_gives x4323 [] ≡ bad 17 0
unfolding reading_of kind_of
no-text-line = refl

no-text-shown : shown_of x4323 [] ≡ codes_of "17 0\n"
unfolding shown_of reading_of refusal_line decimal_of glyph_of kind_of
no-text-shown = refl

-- The register at power-up.
register-clear : ReadsRegister fresh 0
unfolding powered_up
register-clear = record { byte = refl }

-- A row of one number has not two.
one_number : ¬ (length {A = ℕ} (7 ∷ []) ≡ 2)
one_number e = let f : ◌≡◌ {A = ℕ} 1 2 = e in omega arith

-- Demand 1 at these inputs.
pub refused-from : Demand1 → RefusedAt
unfolding refusal_line decimal_of glyph_of kind_of
refused-from d =
    record {
      power-up = λ r x. d.power-up 4324 0 0 r 1 0 x no_part;
      size = λ r x. d.size 4324 r x refl;
      replay = λ r array' row' x.
          d.replay fresh (1 ∷ 100001 ∷ []) (0 ∷ 0 ∷ []) ones rows r array' row' 9 1 x too_long;
      list = λ r array' row' x.
          d.list fresh (1 ∷ 100001 ∷ []) (0 ∷ 0 ∷ []) ones rows r array' row' 9 1 x too-long-listed;
      read-image = λ r array' x. d.read-image x4323 [] ones r array' 17 0 x no_text;
      tidy = λ out r out' x. d.tidy x4323 [] out r out' 17 0 x no-text-line;
      write-image = λ r out' x. d.write-image x4323 ones [] r out' 19 0 x no_room;
      read-image-part = λ r array' x. d.read-image 4324 [] ones r array' 1 0 x no-part-read;
      read-image-size = λ r array' x. d.read-image x4283 [] ones r array' 5 0 x no-size-read;
      tidy-part = λ out r out' x. d.tidy 4324 [] out r out' 1 0 x no-part-line;
      write-image-part = λ r out' x. d.write-image 4324 ones [] r out' 1 0 x no-part-written;
      write-image-size = λ r out' x. d.write-image x4283 ones [] r out' 5 0 x no-size-written;
      door-power-up = λ r array' row' numbers' x.
          d.door-power-up 4324 0 0 (1 ∷ 1 ∷ []) (0 ∷ 0 ∷ []) ones rows (7 ∷ 7 ∷ []) r array' row' numbers' 1 0 x refl no_part;
      door-replay = λ r array' row' numbers' x.
          d.door-replay x4323 0 0 (1 ∷ 100001 ∷ []) (0 ∷ 0 ∷ []) ones rows (7 ∷ 7 ∷ []) r array' row' numbers' 0 9 1 x refl part-known
          too_long;
      door-read-image = λ r array' numbers' x. d.door-read-image x4323 [] ones (7 ∷ 7 ∷ []) r array' numbers' 17 0 x refl no_text;
      door-write-image = λ r out' numbers' x.
          d.door-write-image x4323 ones [] (7 ∷ 7 ∷ []) r out' numbers' 19 0 x refl no_room;
      door-read-image-part = λ r array' numbers' x. d.door-read-image 4324 [] ones (7 ∷ 7 ∷ []) r array' numbers' 1 0 x refl no-part-read;
      door-write-image-part = λ r out' numbers' x.
          d.door-write-image 4324 ones [] (7 ∷ 7 ∷ []) r out' numbers' 1 0 x refl no-part-written;
      door-row-replay = λ r array' row' numbers' x.
          d.door-row-replay x4323 0 0 (1 ∷ 1 ∷ []) (0 ∷ 0 ∷ []) ones rows (7 ∷ []) r array' row' numbers' x one_number;
      door-row-read-image = λ r array' numbers' x. d.door-row-read-image x4323 [] ones (7 ∷ []) r array' numbers' x one_number;
      door-row-write-image = λ r out' numbers' x. d.door-row-write-image x4323 ones [] (7 ∷ []) r out' numbers' x one_number;
    }

-- The one reply at these inputs: the outcome that is written out keeps the promise.
pub one_from : OneReply → OneAt
unfolding meant size_meant kind_of
one_from o =
    record {
      power-up = λ r x.
          o.power-up 4324 0 0 r (record { reply = Err (record { reason = PartUnknown; place = 0 }); state = fresh }) x
          (record { reply = sym no_part; state = rw no_part });
      size = λ r x. o.size 4324 r None x (record { said = refl });
      replay = λ r array' row' x.
          let some : Replayed × List ℕ × List ℕ = (r, array', row') in
          o.replay fresh (1 ∷ 100001 ∷ []) (0 ∷ 0 ∷ []) ones rows some (record { reply = Err (record { reason = TimeTooLong; place = 1 }); state = fresh }, ones, rows) x
          (record { reply = sym too_long; state = rw too_long; kept = rw too_long; said = rw too_long });
      list = λ r array' row' x.
          let some : Listed × List ℕ × List ℕ = (r, array', row') in
          o.list fresh (1 ∷ 100001 ∷ []) (0 ∷ 0 ∷ []) ones rows some (record { reply = Err (record { reason = TimeTooLong; place = 1 }); state = fresh }, ones, rows) x
          (record { reply = rw too-long-listed; state = rw too-long-listed; kept = rw too-long-listed; said = rw too-long-listed });
      register = λ r x. o.register fresh r 0 x register-clear;
      read-image = λ r array' x.
          o.read-image x4323 [] ones (r, array') (Err (record { reason = EndMissing; place = 0 }), ones) x (record { reply = rw no_text; kept = rw no_text });
      write-image = λ r out' x.
          o.write-image x4323 ones [] (r, out') (Err (record { reason = RoomTooSmall; place = 0 }), []) x (record { reply = sym no_room; said = rw no_room });
      tidy = λ out r out' x.
          o.tidy x4323 [] out (r, out') (5, codes_of "17 0\n" ++ drop 5 out) x
          (starts_with (shown_of x4323 []) (codes_of "17 0\n") out no-text-shown);
      door-power-up = λ r array' row' numbers' x.
          o.door-replay 4324 0 0 (1 ∷ 1 ∷ []) (0 ∷ 0 ∷ []) ones rows (7 ∷ 7 ∷ []) (r, array', row', numbers') (1, ones, rows, 1 ∷ 0 ∷ []) x
          (record { answer = refl; reply = rw no-part-once; kept = rw no-part-once; said = rw no-part-once });
      door-replay = λ r array' row' numbers' x.
          o.door-replay x4323 0 0 (1 ∷ 100001 ∷ []) (0 ∷ 0 ∷ []) ones rows (7 ∷ 7 ∷ []) (r, array', row', numbers') (1, ones, rows, 9 ∷ 1 ∷ []) x
          (record { answer = refl; reply = rw too-long-once; kept = rw too-long-once; said = rw too-long-once });
      door-read-image = λ r array' numbers' x.
          o.door-read-image x4323 [] ones (7 ∷ 7 ∷ []) (r, array', numbers') (1, ones, 17 ∷ 0 ∷ []) x
          (record { answer = refl; reply = rw no_text; kept = rw no_text });
      door-write-image = λ r out' numbers' x.
          o.door-write-image x4323 ones [] (7 ∷ 7 ∷ []) (r, out', numbers') (1, [], 19 ∷ 0 ∷ []) x
          (record { answer = refl; reply = rw no_room; said = rw no_room });
    }
