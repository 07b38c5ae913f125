-- Laws from a dump and a part that are ready to the report. Assumes nothing.
use Prim.Native.Nat.{ℕ}
use mathlib.Core.Bool.{false, true≢false}
use mathlib.Core.List.{List}
use mathlib.Core.Path.{◌≡◌, refl, ap, sym, subst, ◌∙◌}
use lib.ListN.{length}
use Rattle.std.specs.Prelude.{Option, Result, Some, None, Ok, Err}
use Rattle.std.specs.Result.{is_err}
use Rattle.ground.specs.Kind.{kind_of}
use Rattle.ground.specs.declared.kinds.Kind.{Kind}
use Rattle.ground.specs.Verdict.{accepted, meant}
use Rattle.ground.specs.declared.Refusal.{Refusal}
use Rattle.ground.proofs.Verdicts.{is-accepted}
use Rattle.part.specs.Bench.{part_of}
use Rattle.part.specs.declared.state.State.{State}
use Rattle.refusals.specs.Refusals.{power_of}
use Rattle.power.specs.Power.{powered_up, at_power}
use Rattle.power.specs.Promises.{PowersUp}
use Rattle.power.specs.declared.Replayed.{Replayed}
use Rattle.sample.specs.Run.{Part}
use Rattle.ranges.specs.Fit.{Fit}
use Rattle.onward.proofs.Onward.{power-fit}
use Rattle.dumps.specs.Defined.{vars_of}
use Rattle.headings.specs.declared.Heading.{Heading}
use Rattle.headings.specs.declared.faults.Fault.{Fault}
use Rattle.headings.specs.Parts.{Defines, Tabled}
use Rattle.places.specs.Places.{places_of}
use Rattle.one_reading.specs.declared.Track.{Track}
use Rattle.one_reading.specs.Promises.{SetsOut}
use Rattle.disagreements.specs.Promises.{Reports}
use Rattle.disagreements.proofs.Openings.{dump-decides}
use Rattle.at_once.specs.Promises.{Ready, Whole, Tries, TriesReport}

-- A dump that sets out is ready for a part that is fit.
-- However the definitions ended, their table is that of the wires declared.
pub defined-tabled : (dump table : List ℕ) (r : Result Heading Fault) → Defines dump r table → Tabled (vars_of dump) table
defined-tabled dump table (Ok heading) d = d.tabled
defined-tabled dump table (Err fault) d = d.tabled

pub ready : (dump table : List ℕ) (t : Track) (s : State) (array : List ℕ) → Tabled (vars_of dump) table → SetsOut dump t
    → Fit (part_of s array) → Ready dump table t s array
ready dump table t s array d x f = record { tabled = d; going = x.going; left = x.left; low = x.low; fit = f }

-- What `is_err` says of a reply.
ok-told : (r : Result ℕ Refusal) → is_err r ≡ false → (n : ℕ) × (r ≡ Ok n)
ok-told (Ok n) e = (n, refl)
ok-told (Err k) e = absurd (true≢false e)

module _ (part select stored : ℕ) (dump array row : List ℕ) where
  -- Where nothing came of it the report in two readings has the rows as they came.
  pub report-left : (array₁ row₁ : List ℕ) → (array₁ ≡ array) × (row₁ ≡ row) → (r : Result ℕ Refusal) (array' row' : List ℕ)
      → Reports part select stored dump array₁ row₁ r array' row' → Reports part select stored dump array row r array' row'
  report-left array₁ row₁ x r array' row' y = rw (x.0, x.1) at y

  module _ (p : Replayed) (u : PowersUp part select stored p) (b : is_err p.reply ≡ false) (kind : Kind) (k : kind ≡ kind_of part)
      (h : length array ≡ kind.size) where
    n : ℕ
    n = (ok-told p.reply b).0

    a : p.reply ≡ Ok n
    unfolding n
    a = (ok-told p.reply b).1

    powers : power_of part select stored ≡ accepted n
    powers = is-accepted p.reply (power_of part select stored) n u.reply a

    sized : length array ≡ (kind_of part).size
    sized = rw k at h

    -- The part that is powered up, with the array.
    at-power : at_power part select stored array ≡ part_of p.state array
    at-power =
        let s : powered_up part select stored ≡ p.state = sym (u.state ∙ (rw powers)) in
        λ i. record { state = s i; array = array }

    pub powered-fit : Fit (part_of p.state array)
    powered-fit = subst (λ (z : Part). Fit z) at-power (power-fit part select stored array n powers sized)

    -- A whole from there on is the report.
    pub whole-reports : (found : ℕ) (array' row' : List ℕ) → Whole dump (part_of p.state array) row found array' row'
        → Reports part select stored dump array row (Ok found) array' row'
    unfolding meant places_of
    whole-reports found array' row' w =
        let v = dump-decides part select stored dump array n powers sized ∙ w.verdict in
        let x : Whole dump (at_power part select stored array) row found array' row' =
        subst (λ (z : Part). Whole dump z row found array' row') (sym at-power) w
        in
        record { reply = rw v (ap accepted x.count); kept = rw v x.kept; said = rw v x.said }

    pub tries-report : (r : Option ℕ) (array' row' : List ℕ) → Tries dump p.state array row r array' row'
        → TriesReport part select stored dump array row r array' row'
    tries-report (Some found) array' row' t = whole-reports found array' row' t
    tries-report None array' row' t = t
