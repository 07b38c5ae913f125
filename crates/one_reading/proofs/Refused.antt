-- Laws of what is wrong with a dump: one fault is enough for it to be refused. Assumes nothing.
use Prim.Native.Nat.{ℕ, suc, ◌-◌}
use mathlib.Core.Bool.{false}
use mathlib.Core.List.{List, []}
use mathlib.Core.Path.{◌≡◌, refl}
use lib.ListN.{length, take, drop}
use Rattle.std.specs.Prelude.{Option, Some, None}
use Rattle.tokens.specs.Tokens.{tokens_from, last_line}
use Rattle.tokens.specs.Parts.{FindsWord}
use Rattle.dumps.specs.Reading.{says_of, is_between}
use Rattle.dumps.specs.Samples.{samples_in}
use Rattle.dumps.specs.Faults as dumped
use Rattle.dumps.specs.Faults.{least_from, faults_of, verdict_by, dump_verdict, end_by, unfinished}
use Rattle.ground.specs.declared.Reason.{Reason}
use Rattle.ground.specs.declared.Reason.TheVariants.{DumpMalformed}
use Rattle.headings.specs.declared.Heading.{Heading}
use Rattle.headings.specs.declared.faults.Fault.{Fault}
use Rattle.ground.specs.Verdict.{number_of}
use Rattle.headings.specs.Parts.{Fails, number_in, fault_meant, noted, joined_of, Opens, no_fault}
use Rattle.headings.proofs.FaultLaws.{joined-clear}
use Rattle.changes.specs.declared.Mode.{Mode}
use Rattle.changes.specs.declared.Change.{Change}
use Rattle.changes.specs.Parts.{place_of, change_meant}
use Rattle.judging.specs.declared.Heard.{Heard}
use Rattle.judging.specs.Kept.{reading_at, Kept}
use Rattle.judging.proofs.Turns.{breaks-verdict, end-verdict}
use Rattle.one_reading.specs.Promises.{Faulty}

-- A fault that is noted.
noted-faulty : (dump : List ℕ) (fault : Option Fault) (fs : List dumped.Fault)
    → ((count : ℕ) → verdict_by (faults_of dump) count ≡ verdict_by (noted fault fs) count) → (fault ≡ None → ⊥) → Faulty dump
unfolding dump_verdict
noted-faulty dump None fs v z = absurd (z refl)
noted-faulty dump (Some f) fs v z =
    record {
      number = (least_from (fault_meant f) fs).number;
      line = suc (least_from (fault_meant f) fs).line;
      verdict = v (length (samples_in dump));
    }

-- A fault that is kept.
pub kept-faulty : (dump : List ℕ) (at line : ℕ) (fault : Option Fault) (mode : Mode) (heard : Heard) → Kept dump at line fault mode heard
    → (fault ≡ None → ⊥) → Faulty dump
kept-faulty dump at line fault mode heard k z = noted-faulty dump fault _ k.verdict z

-- Definitions in which something is wrong.
pub defined-faulty : (dump table : List ℕ) (h : Heading) → Opens dump h table → (h.fault ≡ None → ⊥) → Faulty dump
defined-faulty dump table h d z = noted-faulty dump h.fault _ d.verdict z

-- Definitions that came to no end.
pub fails-faulty : (dump table : List ℕ) (f : Fault) → Fails dump f table → Faulty dump
unfolding dump_verdict
fails-faulty dump table f d = record { number = number_of f.reason; line = suc f.line; verdict = d.verdict (length (samples_in dump)) }

-- A fault that comes first is one.
pub first-is : (n : Option Reason) (line : ℕ) → (n ≡ None → ⊥) → joined_of no_fault n line ≡ None → ⊥
first-is n line z e = z (joined-clear no_fault n line e).1

module _ (dump : List ℕ) (at line : ℕ) (mode : Mode) (heard : Heard) (k : Kept dump at line no_fault mode heard) where
  -- A malformed token.
  pub breaks-faulty : (from to on : ℕ) → FindsWord dump at line from to on → (r : Option Change)
      → change_meant r ≡ says_of (reading_at dump mode heard) (take (to - from) (drop from dump)) → r ≡ None → Faulty dump
  breaks-faulty from to on f r e b =
      noted-faulty dump _ [] (breaks-verdict dump at line no_fault mode heard k from to on f r _ e b refl)
      (first-is (Some DumpMalformed) on (λ e. cc))

  -- A fault at the end.
  pub end-faulty : (n : Option Reason) → tokens_from line (drop at dump) ≡ []
      → number_in n ≡ end_by false (is_between (place_of mode)) (unfinished heard.lines heard.given) → (n ≡ None → ⊥) → Faulty dump
  end-faulty n t p z =
      noted-faulty dump _ [] (end-verdict dump at line no_fault mode heard k t n (last_line dump) _ p refl refl)
      (first-is n (last_line dump) z)
