-- Laws of passing plain tokens: what a value of 0 or 1 and a time that makes one sample leave of what is kept. Assumes nothing.
use Prim.Native.Nat.{ℕ, ◌+◌, ◌-◌, ◌/◌, ◌%◌, ◌≤◌, ◌<◌}
use mathlib.Core.Bool.{Bool, true, false}
use mathlib.Core.List.{List}
use mathlib.Core.Path.{◌≡◌, refl, sym, ◌∙◌}
use native.Mathlib.Omega.{arith}
use lib.Dec.{ltb}
use lib.ListN.{length}
use borrow.Author.Tests.{lt-ltb, lt-leb, ne_eqb}
use Rattle.std.specs.Prelude.{Option, Some, None}
use Rattle.ground.specs.Cases.{odd}
use Rattle.sections.specs.Sections.{times, puts}
use Rattle.wires.specs.Wires.{bit_by, laid}
use Rattle.wires.specs.Values.{unfit}
use Rattle.dumps.specs.Samples.{repeats_of}
use Rattle.dumps.specs.Faults.{fault_if, late_of}
use Rattle.headings.specs.declared.faults.Fault.{Fault}
use Rattle.headings.specs.Parts.{number_in, no_fault}
use Rattle.headings.proofs.FaultLaws.{join-none}
use Rattle.changes.specs.declared.Mode.{Mode}
use Rattle.changes.specs.declared.Mode.TheVariants.{Between}
use Rattle.changes.specs.declared.Change.TheVariants.{Time, Value}
use Rattle.changes.proofs.Meanings.{means-time, means-value}
use Rattle.tokens.specs.declared.Past.{Past}
use Rattle.glances.specs.declared.Seen.{Seen}
use Rattle.glances.specs.Parts.{Sees, SeesTime, Skims}
use Rattle.glances.proofs.SeenPast.{seen-time, seen-further}
use Rattle.judging.specs.declared.Heard.{Heard}
use Rattle.judging.specs.declared.Plain.{Plain}
use Rattle.judging.specs.Parts.{most_counted, taken_by}
use Rattle.judging.specs.Kept.{Kept, KeptOn}
use Rattle.judging.proofs.Turns.{turn-value, turn-time}

-- Every wire takes a 0 and a 1.
plain_fits : (c marks : ℕ) → c / 2 ≡ 0x18 → number_in None ≡ fault_if (unfit c marks) 23
unfolding unfit
plain_fits c marks h =
    rw (ne_eqb c 0x78 (λ e. absurd (omega arith)), ne_eqb c 0x58 (λ e. absurd (omega arith)), ne_eqb c 0x7A (λ e. absurd (omega arith)), ne_eqb c 0x5A (λ e. absurd (omega arith)))

-- A value for any wires leaves all given.
bit-given : (b : Bool) (old : ℕ) → old % 2 ≡ 1 → bit_by b 1 old ≡ 1
bit-given true old h = refl
bit-given false old h = h

laid-given : (marks given : ℕ) → given ≡ 15 → given ≡ laid 1 marks given
unfolding laid
laid-given marks given g =
    rw (g, bit-given (odd marks) 15 refl, bit-given (odd (marks / 2)) (15 / 2) refl, bit-given (odd (marks / 4)) (15 / 4) refl, bit-given (odd (marks / 8)) (15 / 8) refl)

-- What is kept while plain tokens are passed, all wires having values, two time lines having come and no fault.
pub record Passing (dump : List ℕ) (from given at line lines time samples : ℕ) : Type 0 where
  pub further : from ≤ at
  pub two : 2 ≤ lines
  pub kept : Kept dump at line no_fault Between (record { lines = lines; time = time; given = given; samples = samples })

-- One plain token more.
module _ (dump : List ℕ) (from given at line lines time samples : ℕ) (p : Passing dump from given at line lines time samples) where
  -- Another line or sample fits.
  pub passing-small : length dump ≤ 9223372036854775808 → (lines ≤ 9223372036854775808) × (samples ≤ most_counted)
  passing-small m =
      let k = p.kept in
      let i = k.inside in
      let l = k.lines in
      let t = k.early in
      (omega arith, omega (arith, k.fits refl))

  abbrev heard : Heard
  heard = record { lines = lines; time = time; given = given; samples = samples }

  pub passed : (r : Plain) → r ≡ record { at = at; line = line; heard = heard } → KeptOn dump from no_fault Between r
  passed r e = rw e (record { from = p.further; kept = p.kept })

  module _ (to on : ℕ) where
    pub passing-value : (c marks : ℕ) → Sees dump at line to on (puts c marks) → c / 2 ≡ 0x18 → given ≡ 15
        → Passing dump from given to on lines time samples
    passing-value c marks s h g =
        let t = p.two in
        let f = p.further in
        let l = seen-further dump at line to on s in
        let b : ltb 0 lines ≡ true = lt-ltb 0 lines (omega arith) in
        record {
          further = omega arith;
          two = t;
          kept =
              turn-value dump at line no_fault Between heard p.kept s.from to on s.word (Some (Value c marks)) c marks
              (means-value _ c marks refl ∙ sym (rw b s.said)) refl None (plain_fits c marks h) given no_fault (sym (join-none no_fault on)) (laid-given marks given g);
        }

    late-none : (t : ℕ) → time < t
        → number_in None ≡ late_of lines time given t
    late-none t h =
        let two = p.two in
        rw (lt-ltb 0 lines (omega arith), lt-leb t time h, ne_eqb lines 1 (λ e. absurd (omega arith)))

    taken-plain : (t : ℕ) → t - time ≤ 100000
        → record { lines = lines + 1; time = t; given = given; samples = samples + 1 } ≡ taken_by true heard t
    taken-plain t h =
        let two = p.two in
        let r : repeats_of (t - time) ≡ 0 = omega arith in
        rw (lt-ltb 0 lines (omega arith), r)

    passing-seen : (t : ℕ) → Sees dump at line to on (times t) → time < t → t - time ≤ 100000
        → Passing dump from given to on (lines + 1) t (samples + 1)
    passing-seen t s h d =
        let e = p.two in
        let f = p.further in
        let l = seen-further dump at line to on s in
        let b : ltb 0 lines ≡ true = lt-ltb 0 lines (omega arith) in
        record {
          further = omega arith;
          two = omega arith;
          kept =
              turn-time dump at line no_fault Between heard p.kept s.from to on s.word (Some (Time t)) t
              (means-time _ t refl ∙ sym (rw b s.said)) refl None (late-none t h) true (λ z. refl) no_fault _ (sym (join-none no_fault on)) (taken-plain t d);
        }

  -- A time above the one before, and its token's length, as they are seen.
  module _ (past : Past) (r : Seen) (k : Skims dump at line past) (m : SeesTime dump past.at (Some r)) (above : time < r.time) where
    sees : Sees dump at line (past.at + r.length) past.line (times r.time)
    sees = seen-time dump at line past k r m

    pub passing-inside : past.at + r.length ≤ length dump
    passing-inside = sees.word.inside

    pub passing-further : at < past.at + r.length
    passing-further = seen-further dump at line (past.at + r.length) past.line sees

    pub passing-time : r.time - time ≤ 100000
        → Passing dump from given (past.at + r.length) past.line (lines + 1) r.time (samples + 1)
    passing-time d = passing-seen (past.at + r.length) past.line r.time sees above d

-- So plain tokens are passed behind any number of tokens without a fault.
pub kept-plain : (dump : List ℕ) (at line : ℕ) (fault : Option Fault) (mode : Mode) (heard : Heard) → Kept dump at line fault mode heard
    → fault ≡ None → mode ≡ Between → Kept dump at line no_fault Between heard
kept-plain dump at line fault mode heard k z e = rw (z, e) at k

pub passed_on : (dump : List ℕ) (at : ℕ) (fault : Option Fault) (mode : Mode) (r : Plain)
    → fault ≡ None → mode ≡ Between → KeptOn dump at no_fault Between r → KeptOn dump at fault mode r
passed_on dump at fault mode r z e p = rw (z, e) p
