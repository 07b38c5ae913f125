-- Laws of judging token after token: what each kind of token leaves of what is kept. Assumes nothing.
use Prim.Native.Nat.{ℕ, ◌+◌, ◌-◌, ◌≤◌, ◌<◌}
use mathlib.Core.Bool.{Bool, true, false, ◌&&◌}
use mathlib.Core.List.{List, []}
use mathlib.Core.Path.{◌≡◌, refl, ap, sym, ◌∙◌}
use native.Mathlib.Omega.{arith}
use lib.Dec.{ltb, leb}
use lib.ListN.{length, take, drop}
use borrow.Author.Tests.{ltb-false, leb-false, lt-ltb}
use Rattle.std.specs.Prelude.{Option, Result, Some, None}
use Rattle.ground.specs.Verdict.{meant, accepted}
use Rattle.ground.specs.declared.Reason.{Reason}
use Rattle.ground.specs.declared.Reason.TheVariants.{DumpMalformed}
use Rattle.ground.specs.declared.Refusal.{Refusal}
use Rattle.sections.specs.Sections.{Says}
use Rattle.tokens.specs.Tokens.{Token, tokens_from, words_of, last_line}
use Rattle.tokens.specs.Parts.{FindsWord}
use Rattle.tokens.proofs.TokenLaws.{words-found, words-none}
use Rattle.wires.specs.Wires.{laid}
use Rattle.wires.specs.Values.{unfit}
use Rattle.dumps.specs.Reading.{says_of, after_by, is_between}
use Rattle.dumps.specs.Defined.{vars_of, body_at}
use Rattle.dumps.specs.Samples.{repeats_of, samples_in}
use Rattle.dumps.specs.Faults as dumped
use Rattle.dumps.specs.Faults.{fault_if, time_fault, heard_by, fault_by, end_by, end_fault, note, faults_from, faults_of, verdict_by, dump_verdict, late_of, unfinished}
use Rattle.dumps.proofs.Taken.{faults-token}
use Rattle.dumps.proofs.Silent.{silent-faults}
use Rattle.headings.specs.declared.faults.Fault.{Fault}
use Rattle.headings.specs.Parts.{number_in, noted, joined_of, no_fault}
use Rattle.headings.proofs.FaultLaws.{joined-verdict, joined_small, joined-clear}
use Rattle.changes.specs.declared.Mode.{Mode}
use Rattle.changes.specs.declared.Mode.TheVariants.{Between, Dumped, Skipped}
use Rattle.changes.specs.declared.Change.{Change}
use Rattle.changes.specs.declared.Change.TheVariants.{Time, Value, Moves}
use Rattle.changes.specs.Parts.{place_of, change_meant}
use Rattle.changes.proofs.ChangeLaws.{says-time, says-value, says-moves, says-breaks, time-small}
use Rattle.judging.specs.declared.Heard.{Heard}
use Rattle.judging.specs.Promises.{Judges}
use Rattle.judging.specs.Parts.{heard_of, gap_by, taken_by, later_by, later_of}
use Rattle.sections.specs.declared.Stage.TheVariants.{Body}
use Rattle.judging.specs.Kept.{reading_at, Kept}
use Rattle.judging.proofs.Kept.{judged}

-- A time line without a fault is above the one before, so the samples stay fewer than the characters read and the time together.
on-time : (late lacking : Bool) → time_fault late lacking ≡ 0 → late ≡ false
on-time true lacking e = absurd (omega arith)
on-time false lacking e = refl

samples-fit : (begun : Bool) (samples at to lines time t : ℕ) (lacking : Bool) → ltb 0 lines ≡ begun
    → time_fault (begun && leb t time) lacking ≡ 0 → (lines ≡ 0 → time ≡ 0) → samples ≤ at + time → at < to
    → samples + (repeats_of (gap_by begun time t) + 1) ≤ to + t
samples-fit true samples at to lines time t lacking e z u h k =
    let m = leb-false t time (on-time (leb t time) lacking z) in
    omega arith
samples-fit false samples at to lines time t lacking e z u h k =
    let l = ltb-false 0 lines e in
    let m = u (omega arith) in
    omega arith

some_none : Some DumpMalformed ≡ None → ⊥
some_none e = cc

-- A fault joined to the first has the same verdict, whatever follows.
joined-at : (p : Option Fault) (n : Option Reason) (k line : ℕ) (rest : List dumped.Fault) (count : ℕ) → number_in n ≡ k
    → verdict_by (noted p (note line k rest)) count ≡ verdict_by (noted (joined_of p n line) rest) count
joined-at p n k line rest count e = rw (← e) (joined-verdict p n line rest count)

-- One token found and read.
module _ (dump : List ℕ) (at line : ℕ) (fault : Option Fault) (mode : Mode) (heard : Heard) (k : Kept dump at line fault mode heard)
    (from to on : ℕ) (f : FindsWord dump at line from to on) where
  abbrev word_at : List ℕ
  word_at = take (to - from) (drop from dump)

  module _ {s : Says} (e : says_of (reading_at dump mode heard) word_at ≡ s) where
    -- Its fault joins those before it, and the samples that it leaves are those of the tokens behind it.
    turn-verdict : (count : ℕ) → verdict_by (faults_of dump) count
        ≡ verdict_by (noted fault (note on (fault_by s (reading_at dump mode heard) (heard_of heard) word_at)
        (faults_from (after_by s (reading_at dump mode heard) word_at) (heard_by s (heard_of heard)) (tokens_from on (drop to dump)) (last_line dump))))
        count
    turn-verdict count =
        k.verdict count
        ∙ ap (λ (fs : List dumped.Fault). verdict_by (noted fault fs) count)
        (ap (λ (ts : List Token). faults_from (reading_at dump mode heard) (heard_of heard) ts (last_line dump)) f.left
        ∙ faults-token (reading_at dump mode heard) (heard_of heard) (record { line = on; word = word_at }) (tokens_from on (drop to dump))
        (last_line dump) e)

    turn-samples : fault ≡ None
        → heard.samples
        + later_by s (ltb 0 heard.lines) heard.time (later_of (after_by s (reading_at dump mode heard) word_at) (words_of (drop to dump)))
        ≡ length (samples_in dump)
    turn-samples z = rw (← e) (rw (words-found dump at line from to on f) at (k.samples z))

  -- A section's token leads on.
  pub turn-moves : (r : Option Change) (next : Mode) → change_meant r ≡ says_of (reading_at dump mode heard) word_at → r ≡ Some (Moves next)
      → Kept dump to on fault next heard
  unfolding fault_by heard_by after_by note
  turn-moves r next h e =
      let s = says-moves dump word_at mode (ltb 0 heard.lines) r h next e in
      let a = f.after in
      let b = f.some in
      let c = f.small in
      let l = k.lines in
      record {
        inside = f.inside;
        small = omega arith;
        faulty = k.faulty;
        early = k.early;
        lines = omega arith;
        unbegun = k.unbegun;
        fits = λ z. omega (arith, k.fits z);
        verdict = turn-verdict s;
        samples = turn-samples s;
      }

  -- A value gives its wires one.
  module _ (r : Option Change) (c marks : ℕ) (h : change_meant r ≡ says_of (reading_at dump mode heard) word_at) (e : r ≡ Some (Value c marks))
      (n : Option Reason) (p : number_in n ≡ fault_if (unfit c marks) 23) where
    value-core : Kept dump to on (joined_of fault n on) mode
        (record { lines = heard.lines; time = heard.time; given = laid 1 marks heard.given; samples = heard.samples })
    unfolding fault_by heard_by after_by
    value-core =
        let s = says-value dump word_at mode (ltb 0 heard.lines) r h c marks e in
        let a = f.after in
        let b = f.some in
        let d = f.small in
        let l = k.lines in
        let i = f.inside in
        record {
          inside = i;
          small = omega arith;
          faulty = joined_small fault n on (length dump) k.faulty (omega arith);
          early = k.early;
          lines = omega arith;
          unbegun = k.unbegun;
          fits = λ z. omega (arith, k.fits (joined-clear fault n on z).0);
          verdict = λ count. turn-verdict s count ∙ joined-at fault n _ on _ count p;
          samples = λ z. turn-samples s (joined-clear fault n on z).0;
        }

    pub turn-value : (given : ℕ) (first : Option Fault) → first ≡ joined_of fault n on
        → given ≡ laid 1 marks heard.given
        → Kept dump to on first mode (record { lines = heard.lines; time = heard.time; given = given; samples = heard.samples })
    turn-value given first q g = rw (g, q) value-core

  -- A time line counts, and so do its samples where there is no fault.
  module _ (r : Option Change) (t : ℕ) (h : change_meant r ≡ says_of (reading_at dump mode heard) word_at) (e : r ≡ Some (Time t))
      (n : Option Reason) (p : number_in n ≡ late_of heard.lines heard.time heard.given t) (sound : Bool)
      (o : joined_of fault n on ≡ None → sound ≡ true) where
    time-core : Kept dump to on (joined_of fault n on) mode (taken_by sound heard t)
    unfolding fault_by heard_by after_by
    time-core =
        let s = says-time dump word_at mode (ltb 0 heard.lines) r h t e in
        let a = f.after in
        let b = f.some in
        let d = f.small in
        let l = k.lines in
        let i = f.inside in
        let g : ltb 0 (heard.lines + 1) ≡ true = lt-ltb 0 (heard.lines + 1) (omega arith) in
        record {
          inside = i;
          small = omega arith;
          faulty = joined_small fault n on (length dump) k.faulty (omega arith);
          early = time-small dump word_at mode (ltb 0 heard.lines) r h t e;
          lines = omega arith;
          unbegun = λ z. absurd (omega arith);
          fits = λ z.
              let w = joined-clear fault n on z in
              rw (o z)
              (samples-fit _ heard.samples at to heard.lines heard.time t _ refl (sym p ∙ ap number_in w.1) k.unbegun (k.fits w.0) (omega arith));
          verdict = λ count. rw g (turn-verdict s count ∙ joined-at fault n _ on _ count p);
          samples = λ z. rw (o z, g) (omega (arith, turn-samples s (joined-clear fault n on z).0));
        }

    pub turn-time : (first : Option Fault) (next : Heard) → first ≡ joined_of fault n on
        → next ≡ taken_by sound heard t → Kept dump to on first mode next
    turn-time first next q g = rw (g, q) time-core

  -- Behind a malformed token nothing counts.
  module _ (r : Option Change) (first : Option Fault) (h : change_meant r ≡ says_of (reading_at dump mode heard) word_at) (e : r ≡ None)
      (q : first ≡ joined_of fault (Some DumpMalformed) on) where
    pub breaks-verdict : (count : ℕ) → verdict_by (faults_of dump) count ≡ verdict_by (noted first []) count
    unfolding fault_by heard_by after_by
    breaks-verdict count =
        turn-verdict (says-breaks dump word_at mode (ltb 0 heard.lines) r h e) count
        ∙ ap (λ (fs : List dumped.Fault). verdict_by (noted fault (note on 20 fs)) count)
        (silent-faults Body [] (vars_of dump) (ltb 0 heard.lines) (heard_of heard) (tokens_from on (drop to dump)) (last_line dump))
        ∙ joined-verdict fault (Some DumpMalformed) on [] count ∙ ap (λ (f : Option Fault). verdict_by (noted f []) count) (sym q)

    pub turn-breaks : (reply : Result ℕ Refusal) → meant reply ≡ verdict_by (noted first []) 0 → Judges dump reply
    turn-breaks reply v =
        judged dump first 0 reply breaks-verdict
        (λ z. absurd (let w = (joined-clear fault (Some DumpMalformed) on (sym q ∙ z)).1 in some_none w)) v

-- At the end: the fault there joins those before.
end-number : (dump : List ℕ) (mode : Mode) (begun : Bool) (h : dumped.Heard)
    → end_by false (is_between (place_of mode)) (dumped.unfinished h.lines h.given) ≡ end_fault (body_at dump (place_of mode) begun) h
unfolding end_fault
end-number dump Between begun h = refl
end-number dump Dumped begun h = refl
end-number dump Skipped begun h = refl

module _ (dump : List ℕ) (at line : ℕ) (fault : Option Fault) (mode : Mode) (heard : Heard) (k : Kept dump at line fault mode heard)
    (t : tokens_from line (drop at dump) ≡ []) (n : Option Reason) (last : ℕ) (first : Option Fault)
    (p : number_in n ≡ end_by false (is_between (place_of mode)) (unfinished heard.lines heard.given)) (l : last ≡ last_line dump)
    (q : first ≡ joined_of fault n last) where
  pub end-verdict : (count : ℕ) → verdict_by (faults_of dump) count ≡ verdict_by (noted first []) count
  end-verdict count =
      let m = p ∙ end-number dump mode (ltb 0 heard.lines) (heard_of heard) in
      k.verdict count
      ∙ ap (λ (ts : List Token). verdict_by (noted fault (faults_from (reading_at dump mode heard) (heard_of heard) ts (last_line dump))) count) t
      ∙ rw (← l) (joined-at fault n _ last [] count m)
      ∙ ap (λ (f : Option Fault). verdict_by (noted f []) count) (sym q)

  pub judged-end : (reply : Result ℕ Refusal) → meant reply ≡ verdict_by (noted first []) heard.samples → Judges dump reply
  judged-end reply v =
      judged dump first heard.samples reply end-verdict
      (λ z.
      let w = (joined-clear fault n last (sym q ∙ z)).0 in
      let e = rw (words-none dump at line t) at (k.samples w) in
      omega arith) v

-- Where neither was a fault before nor is one at the end, the dump is accepted.
pub accepted-end : (dump : List ℕ) (at line : ℕ) (mode : Mode) (heard : Heard) → Kept dump at line no_fault mode heard
    → tokens_from line (drop at dump) ≡ []
    → end_by false (is_between (place_of mode)) (unfinished heard.lines heard.given) ≡ 0
    → dump_verdict dump ≡ accepted (length (samples_in dump))
unfolding dump_verdict note
accepted-end dump at line mode heard k t e =
    let m : end_fault (reading_at dump mode heard) (heard_of heard) ≡ 0 =
    sym (end-number dump mode (ltb 0 heard.lines) (heard_of heard)) ∙ e in
    k.verdict (length (samples_in dump)) ∙ rw (t, m)
