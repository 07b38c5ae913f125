-- Laws of what is kept while a dump is judged token after token, at the start and at the end. Assumes nothing.
use Prim.Native.Nat.{ℕ, ◌≤◌}
use mathlib.Core.Bool.{Bool, true, false, not, true≢false}
use mathlib.Core.List.{List, []}
use mathlib.Core.Path.{◌≡◌, refl, ap, sym, ◌∙◌}
use native.Mathlib.Omega.{arith}
use lib.ListN.{length, drop}
use Rattle.std.specs.Prelude.{Option, Result, Some, None, IfSome}
use Rattle.std.specs.Option.{is_some}
use Rattle.ground.specs.Verdict.{meant}
use Rattle.ground.specs.declared.Reason.{Reason}
use Rattle.ground.specs.declared.Refusal.{Refusal}
use Rattle.tokens.specs.Tokens.{words_of}
use Rattle.dumps.specs.Defined.{body_at}
use Rattle.dumps.specs.Samples.{samples_in}
use Rattle.dumps.specs.Faults.{faults_of, verdict_by, dump_verdict}
use Rattle.headings.specs.declared.Heading.{Heading}
use Rattle.headings.specs.declared.faults.Fault.{Fault}
use Rattle.headings.specs.Parts.{Opens, Fails, joined_of, noted}
use Rattle.headings.proofs.FaultLaws.{joined-clear}
use Rattle.changes.specs.declared.Mode.{Mode}
use Rattle.changes.specs.declared.Mode.TheVariants.{Between}
use Rattle.changes.specs.Parts.{place_of}
use Rattle.judging.specs.declared.Heard.{Heard}
use Rattle.judging.specs.Promises.{Judges}
use Rattle.judging.specs.Parts.{nothing_heard, most_counted}
use Rattle.judging.specs.Kept.{Kept}
use Rattle.judging.proofs.CountLaws.{later-samples}

-- Where the definitions are over nothing was heard.
pub kept-start : (dump table : List ℕ) (r : Heading) → Opens dump r table → Kept dump r.at r.line r.fault Between nothing_heard
kept-start dump table r d =
    record {
      inside = d.inside;
      small = d.small;
      faulty = d.faulty;
      early = omega arith;
      lines = omega arith;
      unbegun = λ e. refl;
      fits = λ e. omega arith;
      verdict = d.verdict;
      samples = λ e. omega (arith, later-samples (body_at dump (place_of Between) false) (words_of (drop r.at dump)) 0 refl, ap length d.samples);
    }

-- As long as there is no fault, the samples are fewer than the characters and the time together.
pub counts-small : (dump : List ℕ) (at line : ℕ) (fault : Option Fault) (mode : Mode) (heard : Heard) → Kept dump at line fault mode heard
    → length dump ≤ 9223372036854775808 → (n : Option Reason) (on : ℕ) (first : Option Fault) → first ≡ joined_of fault n on
    → (heard.lines ≤ 9223372036854775808) × (first ≡ None → heard.samples ≤ most_counted)
counts-small dump at line fault mode heard k m n on first e =
    let i = k.inside in
    let l = k.lines in
    let t = k.early in
    let clear : first ≡ None → fault ≡ None = λ z. (joined-clear fault n on (sym e ∙ z)).0 in
    (omega arith, λ z. omega (arith, k.fits (clear z)))

-- The reply by the first fault and the samples is the dump's.
count-free : (fault : Option Fault) (x y : ℕ) → (fault ≡ None → x ≡ y) → verdict_by (noted fault []) x ≡ verdict_by (noted fault []) y
count-free None x y h = ap (λ (z : ℕ). verdict_by [] z) (h refl)
count-free (Some f) x y h = refl

pub judged : (dump : List ℕ) (fault : Option Fault) (samples : ℕ) (r : Result ℕ Refusal)
    → ((count : ℕ) → verdict_by (faults_of dump) count ≡ verdict_by (noted fault []) count)
    → (fault ≡ None → samples ≡ length (samples_in dump))
    → meant r ≡ verdict_by (noted fault []) samples → Judges dump r
unfolding dump_verdict
judged dump fault samples r v h e =
    record { reply = e ∙ count-free fault samples (length (samples_in dump)) h ∙ sym (v (length (samples_in dump))) }

-- Where the definitions do not end, their fault is the dump's.
pub judged-undefined : (dump table : List ℕ) (f : Fault) (r : Result ℕ Refusal) → Fails dump f table
    → meant r ≡ verdict_by (noted (Some f) []) 0 → Judges dump r
judged-undefined dump table f r d e = judged dump (Some f) 0 r d.verdict (λ z. cc) e

-- A bound that is raised.
pub first-within : (q : Option Fault) (n m : ℕ) → n ≤ m → IfSome q (λ f. f.line ≤ n) → IfSome q (λ f. f.line ≤ m)
first-within None n m h k = k
first-within (Some f) n m h k = omega arith

-- What `is_none` answers.
pub none-told : (q : Option Fault) (b : Bool) → is_some q ≡ not b → b ≡ true → q ≡ None
none-told None b e t = refl
none-told (Some f) true e t = absurd (true≢false e)
none-told (Some f) false e t = absurd (true≢false (sym t))

pub told-none : (q : Option Fault) (b : Bool) → is_some q ≡ not b → q ≡ None → b ≡ true
told-none q true e n = refl
told-none q false e n = absurd (true≢false (sym e ∙ ap is_some n))
