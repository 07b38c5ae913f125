-- Laws of opening a dump and of the whole report. Assumes nothing.
use Prim.Native.Nat.{ℕ, ◌<◌}
use mathlib.Core.Bool.{Bool, true, false}
use mathlib.Core.List.{List, [], ◌∷◌}
use mathlib.Core.Path.{◌≡◌, refl, ap, sym, subst, ◌∙◌}
use native.Mathlib.Omega.{arith}
use lib.Dec.{eqb}
use lib.ListN.{length}
use borrow.Author.Tests.{eq-eqb, ne_eqb, eqb-true}
use Rattle.std.specs.Prelude.{Option, Result, Ok, Err, IfOk}
use Rattle.ground.specs.Kind.{kind_of}
use Rattle.ground.specs.Verdict.{Verdict, accepted, refused, number_of, meant}
use Rattle.ground.specs.declared.Refusal.{Refusal}
use Rattle.ground.proofs.Verdicts.{is-accepted, is-refused, apart}
use Rattle.part.specs.declared.state.State.{State}
use Rattle.refusals.specs.Refusals.{power_of}
use Rattle.power.specs.Power.{powered_up, power_state, at_power}
use Rattle.ranges.specs.Fit.{Fit}
use Rattle.onward.proofs.Onward.{power-fit}
use Rattle.dumps.specs.Samples.{samples_in}
use Rattle.dumps.specs.Faults.{Fault, verdict_by, faults_of, dump_verdict}
use Rattle.pieces.specs.declared.Mark.{Mark}
use Rattle.pieces.specs.Marks.{left_from}
use Rattle.pieces.specs.Promises.{Begins}
use Rattle.places.specs.Places.{places_in, places_of, open_by, open_verdict}
use Rattle.disagreements.specs.declared.Opened.{Opened}
use Rattle.disagreements.specs.Promises.{part_of_stand, Stands, Opens, PlaysOn, Reports}

-- A dump that is accepted is so with the number of its samples.
counted-by : (fs : List Fault) (count n : ℕ) → verdict_by fs count ≡ accepted n → count ≡ n
counted-by [] count n e = cc
counted-by (f ∷ fs) count n e = absurd (apart _ _ n e)

counted : (dump : List ℕ) (n : ℕ) → dump_verdict dump ≡ accepted n → length (samples_in dump) ≡ n
unfolding dump_verdict
counted dump n e = counted-by (faults_of dump) (length (samples_in dump)) n e

-- An accepted opening stands on an accepted power-up, an array of the part's size and an accepted dump.
open-parts : (v : Verdict) (sized : Bool) (u : Verdict) (n : ℕ) → open_by v sized u ≡ accepted n
    → ((k : ℕ) × (v ≡ accepted k)) × (sized ≡ true) × (u ≡ accepted n)
open-parts (accepted k) true u n e = ((k, refl), refl, e)
open-parts (accepted k) false u n e = absurd (apart 5 0 n e)
open-parts (refused k p) sized u n e = absurd (apart k p n e)

-- The verdict by the order of the tests.
module _ (powered : Result ℕ Refusal) (u : Verdict) where
  pub open-unpowered : (k : Refusal) (sized : Bool) → powered ≡ Err k → refused (number_of k.reason) k.place ≡ open_by (meant powered) sized u
  unfolding meant
  open-unpowered k sized e = rw e

  module _ (n length size : ℕ) (e : powered ≡ Ok n) where
    pub open-unsized : (length ≡ size → ⊥) → refused 5 0 ≡ open_by (meant powered) (eqb length size) u
    unfolding meant
    open-unsized h = rw (e, ne_eqb length size h)

    pub open-judged : length ≡ size → u ≡ open_by (meant powered) (eqb length size) u
    unfolding meant
    open-judged h = rw (e, eq-eqb length size h)

module _ (part select stored : ℕ) (dump array : List ℕ) where
  abbrev sized : Bool
  sized = eqb (length array) (kind_of part).size

  -- Behind an accepted power-up and an array of the part's size the dump decides.
  pub dump-decides : (n : ℕ) → power_of part select stored ≡ accepted n → length array ≡ (kind_of part).size
      → open_verdict part select stored dump array ≡ dump_verdict dump
  unfolding open_verdict
  dump-decides n e h = rw (e, eq-eqb (length array) (kind_of part).size h)

  -- The part at an accepted opening is that at power-up.
  pub opened-power : (n : ℕ) → open_verdict part select stored dump array ≡ accepted n
      → power_state (power_of part select stored) part select stored ≡ powered_up part select stored
  unfolding open_verdict
  opened-power n e = let p = open-parts (power_of part select stored) sized (dump_verdict dump) n e in rw p.0.1

  -- The dump is begun, and its places are numbers.
  module _ (powered : Result ℕ Refusal) (w : State) (reply : Result ℕ Refusal) (m : Option Mark) (b : Begins dump m)
      (e : meant powered ≡ power_of part select stored) (s : w ≡ power_state (power_of part select stored) part select stored)
      (v : meant reply ≡ open_by (meant powered) (eqb (length array) (kind_of part).size) (dump_verdict dump))
      (t : IfOk reply (λ n. n < 18446744073709551616)) where
    opens-verdict : meant reply ≡ open_verdict part select stored dump array
    unfolding open_verdict
    opens-verdict = rw e at v

    small-by : (q : Result ℕ Refusal) (n : ℕ) → meant q ≡ accepted n → IfOk q (λ n. n < 18446744073709551616) → n < 18446744073709551616
    unfolding meant
    small-by (Ok k) n f h = let g : k ≡ n = cc in rw g at h
    small-by (Err k) n f h = absurd (apart _ _ n f)

    opens-stands : (n : ℕ) → open_verdict part select stored dump array ≡ accepted n
        → Stands dump (record { state = w; mark = m; next = 0 }) array
    unfolding open_verdict
    opens-stands n x =
        let p = open-parts (power_of part select stored) sized (dump_verdict dump) n x in
        let l : length (left_from dump m) ≡ n = ap length b.left ∙ counted dump n p.2 in
        let o : w ≡ powered_up part select stored = s ∙ opened-power n x in
        let f = power-fit part select stored array p.0.0 p.0.1 (eqb-true (length array) (kind_of part).size p.1) in
        let k = small-by reply n (opens-verdict ∙ x) t in
        record {
          fit = subst (λ (z : State). Fit (record { state = z; array = array })) (sym o) f;
          low = b.low;
          numbered = omega arith;
        }

    pub opens : Opens part select stored dump array (record { reply = reply; stand = record { state = w; mark = m; next = 0 } })
    opens = record { reply = opens-verdict; state = s; left = b.left; next = refl; stands = opens-stands }

  module _ (row : List ℕ) (r : Opened) (o : Opens part select stored dump array r) where
    -- An accepted opening is a stand.
    pub opened-stands : (n : ℕ) → r.reply ≡ Ok n → Stands dump r.stand array
    opened-stands n e = o.stands n (is-accepted r.reply (open_verdict part select stored dump array) n o.reply e)

    -- The report: refused, nothing has changed.
    pub reports-refused : (k : Refusal) → r.reply ≡ Err k → Reports part select stored dump array row (Err k) array row
    unfolding meant
    reports-refused k e =
        let v = is-refused r.reply (open_verdict part select stored dump array) k o.reply e in
        record { reply = rw v; kept = rw v; said = rw v }

    -- Accepted, all samples have been replayed from power-up on.
    pub reports-accepted : (n found : ℕ) (array' row' : List ℕ) → r.reply ≡ Ok n
        → PlaysOn dump r.stand array row found array' row'
        → Reports part select stored dump array row (Ok found) array' row'
    unfolding meant places_of
    reports-accepted n found array' row' e x =
        let v = is-accepted r.reply (open_verdict part select stored dump array) n o.reply e in
        let s : r.stand.state ≡ powered_up part select stored = o.state ∙ opened-power n v in
        let p : part_of_stand r.stand array ≡ at_power part select stored array =
        λ i. record { state = s i; array = array }
        in
        let i : places_in r.stand.next (left_from dump r.stand.mark) (part_of_stand r.stand array)
        ≡ places_in 0 (samples_in dump) (at_power part select stored array) =
        rw (o.next, o.left, p)
        in
        record {
          reply = rw v (ap accepted (x.count ∙ ap length i));
          kept = rw v (x.kept ∙ (rw (o.left, p)));
          said = rw v (x.said ∙ (rw i));
        }
