-- Laws of reading up to the first time line: no fault so far, and what is left gives the same samples. Assumes nothing.
use Prim.Native.Nat.{ℕ, ◌-◌}
use mathlib.Core.Bool.{true, false, true≢false}
use mathlib.Core.List.{List, []}
use mathlib.Core.Path.{◌≡◌, refl, sym, ◌∙◌}
use native.Mathlib.Omega.{arith}
use lib.ListN.{take, drop}
use Rattle.std.specs.Prelude.{Option, Some, None}
use Rattle.std.specs.Option.{is_some}
use Rattle.tokens.specs.Tokens.{tokens_from}
use Rattle.tokens.specs.Parts.{FindsWord}
use Rattle.dumps.specs.Reading.{says_of, is_between}
use Rattle.dumps.specs.Defined.{body_at}
use Rattle.dumps.specs.Faults.{end_by, unfinished}
use Rattle.ground.specs.declared.Reason.{Reason}
use Rattle.ground.specs.declared.Reason.TheVariants.{DumpMalformed, ValueUnfit}
use Rattle.headings.specs.declared.Heading.{Heading}
use Rattle.headings.specs.declared.faults.Fault.{Fault}
use Rattle.headings.specs.Parts.{number_in, Opens, no_fault}
use Rattle.headings.proofs.FaultLaws.{join-none}
use Rattle.changes.specs.declared.Mode.{Mode}
use Rattle.changes.specs.declared.Mode.TheVariants.{Between, Dumped, Skipped}
use Rattle.changes.specs.declared.Change.{Change}
use Rattle.changes.specs.declared.Change.TheVariants.{Time, Value, Moves}
use Rattle.changes.specs.Parts.{place_of, change_meant}
use Rattle.judging.specs.declared.Heard.{Heard}
use Rattle.judging.specs.Parts.{nothing_heard, taken_by}
use Rattle.judging.specs.Kept.{Kept}
use Rattle.judging.proofs.Kept.{kept-start}
use Rattle.judging.proofs.Turns.{turn-moves, turn-time}
use Rattle.pieces.proofs.Turns.{time-between, no_value}
use Rattle.pieces.proofs.Reading.{Starting, starting-moves, starts-time}
use Rattle.one_reading.specs.declared.Track.{Track}
use Rattle.one_reading.specs.Promises.{Faulty, Starts}
use Rattle.one_reading.specs.Parts.{SetsOutAt, StartsFrom}
use Rattle.one_reading.proofs.Refused.{breaks-faulty, end-faulty, defined-faulty}

-- Read so far without a fault.
pub record Beginning (dump : List ℕ) (from at line : ℕ) (mode : Mode) : Type 0 where
  pub kept : Kept dump at line no_fault mode nothing_heard
  pub starting : Starting dump from at line mode

pub beginning-first : (dump : List ℕ) (from line : ℕ) → Kept dump from line no_fault Between nothing_heard → Beginning dump from from line Between
beginning-first dump from line k = record { kept = k; starting = record { inside = k.inside; small = k.small; samples = refl } }

-- At the end no wire has a value.
end_reason : Mode → Reason
end_reason Between = ValueUnfit
end_reason Dumped = DumpMalformed
end_reason Skipped = DumpMalformed

end-number : (mode : Mode) → number_in (Some (end_reason mode)) ≡ end_by false (is_between (place_of mode)) (unfinished 0 0)
unfolding end_reason
end-number Between = refl
end-number Dumped = refl
end-number Skipped = refl

pub starts-short : (dump : List ℕ) (from at line : ℕ) (mode : Mode) → Beginning dump from at line mode → tokens_from line (drop at dump) ≡ []
    → Faulty dump
starts-short dump from at line mode b t =
    end-faulty dump at line mode nothing_heard b.kept (Some (end_reason mode)) t (end-number mode) (λ e. cc)

-- One token more.
module _ (dump : List ℕ) (from at line : ℕ) (mode : Mode) (b : Beginning dump from at line mode)
    (begins to on : ℕ) (f : FindsWord dump at line begins to on) (r : Option Change)
    (e : change_meant r ≡ says_of (body_at dump (place_of mode) false) (take (to - begins) (drop begins dump))) where
  pub beginning-moves : (next : Mode) → r ≡ Some (Moves next) → Beginning dump from to on next
  beginning-moves next m =
      record {
        kept = turn-moves dump at line no_fault mode nothing_heard b.kept begins to on f r next e m;
        starting = starting-moves dump from at line mode b.starting begins to on f r e next m;
      }

  -- The first time line.
  pub starts_first : (t : ℕ) (heard : Heard) → r ≡ Some (Time t) → heard ≡ taken_by true nothing_heard t
      → SetsOutAt dump from (record { mark = record { at = to; time = t; left = 0; level = 0 }; line = on; heard = heard })
  starts_first t heard m w =
      record {
        going =
            record {
              kept =
                  rw (time-between dump mode false at line begins to on f r e t m) at
                  (turn-time dump at line no_fault mode nothing_heard b.kept begins to on f r t e m None refl true (λ z. refl) no_fault heard (sym (join-none no_fault on)) w);
              same = rw w;
              begun = rw w (omega arith);
            };
        at = starts-time dump from at line mode b.starting begins to on f r e t m;
      }

  -- No value stands before it.
  pub starts-value : (c marks : ℕ) → r ≡ Some (Value c marks) → Faulty dump
  starts-value c marks h = absurd (true≢false (sym (no_value dump mode false at line begins to on f r e c marks h)))

  -- A malformed token.
  pub starts-broken : r ≡ None → Faulty dump
  starts-broken m = breaks-faulty dump at line mode nothing_heard b.kept begins to on f r e m

-- Where the definitions have ended without a fault, nothing was heard.
pub defined-kept : (dump table : List ℕ) (h : Heading) → Opens dump h table → h.fault ≡ None
    → Kept dump h.at h.line no_fault Between nothing_heard
defined-kept dump table h d z = rw z at (kept-start dump table h d)

pub starts-defined : (dump table : List ℕ) (h : Heading) (r : Option Track) → Opens dump h table
    → StartsFrom dump h.at r → Starts dump r
starts-defined dump table h None d s = s
starts-defined dump table h (Some t) d s = record { going = s.going; left = s.at.left ∙ sym d.samples; low = s.at.low }

pub fault-none : (f : Option Fault) → is_some f ≡ false → f ≡ None
fault-none None e = refl
fault-none (Some f) e = absurd (true≢false e)

-- What a start comes to where the definitions have ended.
pub ruleset starting = (starts-defined, defined-faulty, defined-kept)
