-- Laws of the walk over a dump's definitions: the faults and samples that a token leaves. Assumes nothing.
use Prim.Native.Nat.{ℕ, ◌-◌}
use mathlib.Core.Bool.{true, false, not}
use mathlib.Core.List.{List, [], ◌∷◌}
use mathlib.Core.Path.{◌≡◌, refl, ap, sym, ◌∙◌}
use lib.Dec.{eqb}
use lib.ListN.{take, drop}
use Rattle.tokens.specs.Tokens.{Token, tokens_from, words_of, last_line}
use Rattle.tokens.proofs.TokenLaws.{words-found}
use Rattle.sections.specs.declared.Stage.{Stage}
use Rattle.sections.specs.declared.Stage.TheVariants.{Start, Body}
use Rattle.sections.specs.declared.Place.{Place}
use Rattle.sections.specs.declared.Place.TheVariants.{Between, VarName, Close}
use Rattle.sections.specs.declared.Step.{Step}
use Rattle.sections.specs.declared.Step.TheVariants.{Moves, Codes, Names, Defines}
use Rattle.std.specs.Prelude.{Option, None, Some}
use Rattle.sections.specs.Sections.{Says, step_meant}
use Rattle.sections.proofs.SectionLaws.{step-moves, step-codes, step-names, step-defines, step-breaks}
use Rattle.wires.specs.Wires.{Var, all_wires, named_of, has_wire, weight_of}
use Rattle.dumps.specs.Samples.{moments_from, samples_by, samples_from, samples_in}
use Rattle.dumps.specs.Faults as dumped
use Rattle.dumps.specs.Faults.{unheard, heard_by, fault_if, fault_by, note, faults_from, faults_of, verdict_by}
use Rattle.dumps.proofs.Silent.{silent-faults, silent-samples}
use Rattle.dumps.proofs.Inside.{inside, waiting, heading, behind, faults-said, samples-said}
use Rattle.ground.specs.declared.Reason.{Reason}
use Rattle.ground.specs.declared.Reason.TheVariants.{DumpMalformed}
use Rattle.headings.specs.declared.faults.Fault.{Fault}
use Rattle.headings.specs.Parts.{number_in, noted, no_fault, fault_meant, first_of, joined_of}
use Rattle.headings.proofs.FaultLaws.{joined-verdict, first-verdict}
use Rattle.headings.specs.Walk.{Meets}

-- A place in the definitions: the dump's verdict is that of the fault so far and of the tokens that are left, and the samples are theirs.
pub record Judges (dump : List ℕ) (fault : Option Fault) (at line : ℕ) (stage : Stage) (place : Place) (code : List ℕ) (vars : List Var) : Type 0 where
  pub verdict : (count : ℕ)
      → verdict_by (faults_of dump) count
      ≡ verdict_by
      (noted fault (faults_from (heading stage place code vars) unheard (tokens_from line (drop at dump)) (last_line dump)))
      count
  pub samples : samples_in dump ≡ samples_from (heading stage place code vars) (words_of (drop at dump))

pub judges-start : (dump code : List ℕ) → Judges dump no_fault 0 0 Start Between code []
unfolding faults_of samples_in
judges-start dump code = record { verdict = λ count. refl; samples = refl }

-- A token of them, by the step that it is.
module _ {dump : List ℕ} {fault : Option Fault} {at line : ℕ} {stage : Stage} {place : Place} {code : List ℕ} {vars : List Var}
    (j : Judges dump fault at line stage place code vars) (p : inside place ≡ true) {from to on : ℕ} {r : Option Step}
    (m : Meets dump at line stage place from to on r) where
  verdict-said : {s : Says} → step_meant r ≡ s → (count : ℕ)
      → verdict_by (faults_of dump) count
      ≡ verdict_by
      (noted fault
      (note on (fault_by s (heading stage place code vars) unheard (take (to - from) (drop from dump)))
      (faults_from (behind s stage place code vars (take (to - from) (drop from dump))) (heard_by s unheard) (tokens_from on (drop to dump)) (last_line dump))))
      count
  verdict-said e count =
      j.verdict count
      ∙ ap (λ (fs : List dumped.Fault). verdict_by (noted fault fs) count)
      (ap (λ (ts : List Token). faults_from (heading stage place code vars) unheard ts (last_line dump)) m.found.left
      ∙ faults-said stage place code vars (take (to - from) (drop from dump)) p m.goes (sym m.said ∙ e) on (tokens_from on (drop to dump)) (last_line dump))

  samples-left : {s : Says} → step_meant r ≡ s
      → samples_in dump
      ≡ samples_by s (moments_from (behind s stage place code vars (take (to - from) (drop from dump))) (words_of (drop to dump)))
      (samples_from (behind s stage place code vars (take (to - from) (drop from dump))) (words_of (drop to dump)))
  samples-left e =
      j.samples
      ∙ ap (λ (ws : List (List ℕ)). samples_from (heading stage place code vars) ws) (words-found dump at line from to on m.found)
      ∙ samples-said stage place code vars (take (to - from) (drop from dump)) p m.goes (sym m.said ∙ e) (words_of (drop to dump))

  pub judges-moves : {st : Stage} {pl : Place} → r ≡ Some (Moves st pl) → Judges dump fault to on st pl code vars
  unfolding fault_by heard_by note
  judges-moves {st} {pl} e = record { verdict = verdict-said (step-moves r st pl e); samples = samples-left (step-moves r st pl e) }

  pub judges-codes : r ≡ Some Codes → Judges dump fault to on stage VarName (take (to - from) (drop from dump)) vars
  unfolding fault_by heard_by note
  judges-codes e = record { verdict = verdict-said (step-codes r e); samples = samples-left (step-codes r e) }

  pub judges-names : (n : Option Reason) → r ≡ Some Names → number_in n ≡ fault_if (has_wire (named_of vars) (weight_of (take (to - from) (drop from dump)))) 21
      → Judges dump (joined_of fault n on) to on stage Close code (record { code = code; name = take (to - from) (drop from dump) } ∷ vars)
  unfolding fault_by heard_by
  judges-names n e g =
      record {
        verdict = λ count. verdict-said (step-names r e) count ∙ rw (← g) (joined-verdict fault n on _ count);
        samples = samples-left (step-names r e);
      }

  pub judges-defines : (n : Option Reason) → r ≡ Some Defines → number_in n ≡ fault_if (not (eqb (named_of vars) all_wires)) 21
      → Judges dump (joined_of fault n on) to on Body Close code vars
  unfolding fault_by heard_by
  judges-defines n e g =
      record {
        verdict = λ count. verdict-said (step-defines r e) count ∙ rw (← g) (joined-verdict fault n on _ count);
        samples = samples-left (step-defines r e);
      }

  -- Behind a malformed one there is nothing more.
  pub verdict-breaks : r ≡ None → (count : ℕ)
      → verdict_by (faults_of dump) count ≡ verdict_by (fault_meant (first_of fault (record { reason = DumpMalformed; line = on })) ∷ []) count
  unfolding fault_by heard_by note
  verdict-breaks e count =
      verdict-said (step-breaks r e) count
      ∙ rw (silent-faults stage (waiting place code) vars false unheard (tokens_from on (drop to dump)) (last_line dump)) (first-verdict fault (record { reason = DumpMalformed; line = on }) [] count)

  pub samples-breaks : r ≡ None → samples_in dump ≡ []
  samples-breaks e = samples-left (step-breaks r e) ∙ silent-samples stage (waiting place code) vars false (words_of (drop to dump))
