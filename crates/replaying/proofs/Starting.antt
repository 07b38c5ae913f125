-- Laws of what the program is given, judged in its order: the part, then the image, then the dump. Assumes nothing.
use Prim.Native.Nat.{ℕ}
use mathlib.Core.Bool.{true, false, true≢false}
use mathlib.Core.List.{List}
use mathlib.Core.Path.{◌≡◌, refl, ap, sym, ◌∙◌}
use lib.ListN.{length}
use borrow.Author.Tests.{eq-eqb}
use Rattle.std.specs.Prelude.{Result, Ok, Err}
use Rattle.std.specs.Result.{is_err}
use Rattle.ground.specs.Kind.{kind_of}
use Rattle.ground.specs.Verdict.{Verdict, accepted, refused, number_of, meant}
use Rattle.ground.specs.declared.Refusal.{Refusal}
use Rattle.ground.proofs.Verdicts.{is-accepted, is-refused, apart}
use Rattle.refusals.specs.Refusals.{power_of}
use Rattle.power.specs.Power.{at_power}
use Rattle.power.specs.Promises.{PowersUp}
use Rattle.power.specs.declared.Replayed.{Replayed}
use Rattle.forms.specs.Reading.{Reading, taken, bad}
use Rattle.intel.specs.Intel.{intel}
use Rattle.reader.specs.Answers.{verdict_of, array_after}
use Rattle.image.specs.Promises.{image_of, ReadsImage}
use Rattle.tidying.specs.Shown.{text_gives}
use Rattle.places.specs.Places.{open_verdict}
use Rattle.disagreements.specs.declared.Stand.{Stand}
use Rattle.disagreements.specs.declared.Opened.{Opened}
use Rattle.disagreements.specs.Promises.{Stands, Opens}
use Rattle.replaying.specs.Shown.{image_then, start_verdict}
use Rattle.replaying.specs.Promises.{Readies}

-- What follows an image, by the answer to it.
image-refused : (v : Reading) (n k p : ℕ) (next : List ℕ → Verdict) → verdict_of v n ≡ refused k p → image_then v next ≡ refused k p
image-refused (taken array) n k p next e = absurd (apart k p n (sym e))
image-refused (bad l q) n k p next e = e

image-taken : (v : Reading) (n m : ℕ) (old : List ℕ) → verdict_of v n ≡ accepted m → v ≡ taken (array_after v old)
image-taken (taken array) n m old e = refl
image-taken (bad k p) n m old e = absurd (apart k p m e)

-- What `is_err` says of a reply.
ok-told : (r : Result ℕ Refusal) → is_err r ≡ false → (n : ℕ) × (r ≡ Ok n)
ok-told (Ok n) e = (n, refl)
ok-told (Err k) e = absurd (true≢false e)

err-told : (r : Result ℕ Refusal) → is_err r ≡ true → (k : Refusal) × (r ≡ Err k)
err-told (Ok n) e = absurd (true≢false (sym e))
err-told (Err k) e = (k, refl)

-- A stand takes an array for another of its length.
stands-beside : (dump : List ℕ) (s : Stand) (array array' : List ℕ) → length array' ≡ length array → Stands dump s array → Stands dump s array'
stands-beside dump s array array' h g =
    record { fit = record { range = g.fit.range; size = h ∙ g.fit.size }; low = g.low; numbered = g.numbered }

module _ (part select stored : ℕ) (image dump : List ℕ) where
  -- What is refused.
  refuses : (r : Opened) (array' : List ℕ) (v : Verdict) (k p : ℕ) → meant r.reply ≡ v → v ≡ refused k p
      → start_verdict part select stored image dump ≡ refused k p → Readies part select stored image dump r array'
  refuses r array' v k p a b e = record { reply = a ∙ b ∙ sym e; ready = λ n f. absurd (apart k p n (sym e ∙ f)) }

  -- The part, the select or the stored byte is refused, whatever image and dump are.
  pub part-refused : (r : Replayed) (s : Stand) (array' : List ℕ) → PowersUp part select stored r → is_err r.reply ≡ true
      → Readies part select stored image dump (record { reply = r.reply; stand = s }) array'
  unfolding start_verdict
  part-refused r s array' w e =
      let k : Refusal = (err-told r.reply e).0 in
      let v : power_of part select stored ≡ refused (number_of k.reason) k.place = is-refused r.reply _ k w.reply (err-told r.reply e).1 in
      refuses (record { reply = r.reply; stand = s }) array' _ _ _ w.reply v (rw v)

  module _ (r : Replayed) (w : PowersUp part select stored r) (e : is_err r.reply ≡ false)
      (array array' : List ℕ) (q : Result ℕ Refusal) (h : length array ≡ (kind_of part).size) (i : ReadsImage intel part image array q array') where
    powered : power_of part select stored ≡ accepted (ok-told r.reply e).0
    powered = is-accepted r.reply _ (ok-told r.reply e).0 w.reply (ok-told r.reply e).1

    -- The array that was lent decides nothing.
    gives : image_of intel part image array ≡ text_gives part image
    unfolding image_of
    gives = rw (eq-eqb (length array) (kind_of part).size h)

    -- The image is refused, whatever the dump is.
    pub image-fails : (s : Stand) → is_err q ≡ true → Readies part select stored image dump (record { reply = q; stand = s }) array'
    unfolding start_verdict
    image-fails s f =
        let k : Refusal = (err-told q f).0 in
        let v : verdict_of (image_of intel part image array) (length image) ≡ refused (number_of k.reason) k.place =
        is-refused q _ k i.reply (err-told q f).1 in
        let t = image-refused (image_of intel part image array) (length image) _ _ (open_verdict part select stored dump) v in
        refuses (record { reply = q; stand = s }) array' _ _ _ i.reply v (rw (powered, ← gives) t)

    -- All is judged by the dump, and the part has the image in its array.
    pub dump-decides : (o : Opened) → Opens part select stored dump array o → is_err q ≡ false → length array' ≡ length array
        → Readies part select stored image dump o array'
    unfolding start_verdict open_verdict
    dump-decides o b f l =
        let v : verdict_of (image_of intel part image array) (length image) ≡ accepted (ok-told q f).0 =
        is-accepted q _ (ok-told q f).0 i.reply (ok-told q f).1 in
        let t : text_gives part image ≡ taken array' =
        sym gives ∙ image-taken (image_of intel part image array) (length image) _ array v ∙ ap taken (sym i.kept) in
        let d : open_verdict part select stored dump array ≡ start_verdict part select stored image dump = rw (powered, t, l) in
        let s : o.stand.state ≡ (at_power part select stored array').state = b.state ∙ rw powered in
        record {
          reply = b.reply ∙ d;
          ready = λ j g.
              record {
                powered = rw (s, t);
                left = b.left;
                next = b.next;
                stands = stands-beside dump o.stand array array' l (b.stands j (d ∙ g));
              };
        }
