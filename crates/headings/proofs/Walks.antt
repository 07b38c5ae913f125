-- Laws of the walk over a dump's definitions: the wires that a token leaves to find. Assumes nothing.
use Prim.Native.Nat.{ℕ, ◌-◌, ◌<◌, ◌≤◌}
use mathlib.Core.Bool.{true, false, ◌&&◌}
use mathlib.Core.List.{List, [], ◌∷◌}
use mathlib.Core.Path.{◌≡◌, refl, ap, sym, ◌∙◌}
use native.Mathlib.Omega.{arith}
use lib.ListN.{length, take, drop}
use Rattle.tokens.specs.Tokens.{tokens_from, words_of}
use Rattle.tokens.proofs.TokenLaws.{words-found, words-none}
use Rattle.sections.specs.declared.Stage.{Stage}
use Rattle.sections.specs.declared.Stage.TheVariants.{Start, Body}
use Rattle.sections.specs.declared.Place.{Place}
use Rattle.sections.specs.declared.Place.TheVariants.{Between, VarName, Close}
use Rattle.tokens.specs.declared.Word.{Word}
use Rattle.headings.specs.declared.walk.Walk.{Walk}
use Rattle.headings.specs.declared.walk.Met.TheVariants.{Token}
use Rattle.headings.specs.Walk.{Meets, Goes}
use Rattle.sections.specs.declared.Step.{Step}
use Rattle.sections.specs.declared.Step.TheVariants.{Moves, Codes, Names, Defines}
use Rattle.std.specs.Prelude.{Option, None, Some}
use Rattle.sections.specs.Sections.{Says, is_body, step_meant}
use Rattle.sections.proofs.SectionLaws.{step-moves, step-codes, step-names, step-defines, step-breaks}
use Rattle.wires.specs.Wires.{Var}
use Rattle.dumps.specs.Reading.{Known, is_between}
use Rattle.dumps.specs.Defined.{defined_from, vars_of}
use Rattle.dumps.proofs.Taken.{defined-over}
use Rattle.dumps.proofs.Silent.{silent-vars}
use Rattle.dumps.proofs.Inside.{inside, waiting, heading, behind, leads-inside, defined-said}

-- A place in the definitions: the wires of the dump are those found so far, with those that are left.
pub record Walks (dump : List ℕ) (at line : ℕ) (stage : Stage) (place : Place) (code : List ℕ) (vars : List Var) : Type 0 where
  pub within : at ≤ length dump
  pub small : line ≤ at
  pub stands : inside place ≡ true
  pub left : vars_of dump ≡ (defined_from (heading stage place code vars) (words_of (drop at dump))).vars

-- A token's line and its end are in the dump, and the end is further on.
module _ {dump : List ℕ} {at line : ℕ} {stage : Stage} {place : Place} {from to on : ℕ} {r : Option Step}
    (m : Meets dump at line stage place from to on r) where
  pub meets-inside : on ≤ length dump
  meets-inside = let a = m.found.small in let b = m.found.some in let c = m.found.inside in omega arith

-- Each token leaves less of it.
pub goes-smaller : {dump : List ℕ} {w : Walk} (word : Word) (step : Step) {next : Walk} → Goes dump w (Token word step) next
    → length dump - next.at < length dump - w.at
goes-smaller word step (m, e) =
    let a = m.found.after in let b = m.found.some in let c = m.found.inside in
    rw e (omega arith)

pub walks-start : (dump code : List ℕ) → Walks dump 0 0 Start Between code []
unfolding vars_of
walks-start dump code = record { within = omega arith; small = omega arith; stands = refl; left = refl }

module _ {dump : List ℕ} {at line : ℕ} {stage : Stage} {place : Place} {code : List ℕ} {vars : List Var}
    (k : Walks dump at line stage place code vars) where
  -- Where the definitions are over, or the dump ends, no wire is left to find.
  pub vars-over : is_body stage && is_between place ≡ true → vars_of dump ≡ vars
  vars-over d = k.left ∙ ap (λ (r : Known). r.vars) (defined-over (heading stage place code vars) (words_of (drop at dump)) d)

  pub vars-end : tokens_from line (drop at dump) ≡ [] → vars_of dump ≡ vars
  vars-end e =
      k.left ∙ ap (λ (ws : List (List ℕ)). (defined_from (heading stage place code vars) ws).vars) (words-none dump at line e)

  -- A token of them, by the step that it is.
  module _ {from to on : ℕ} {r : Option Step} (m : Meets dump at line stage place from to on r) where
    vars-said : {s : Says} → step_meant r ≡ s
        → vars_of dump ≡ (defined_from (behind s stage place code vars (take (to - from) (drop from dump))) (words_of (drop to dump))).vars
    vars-said e =
        k.left
        ∙ ap (λ (ws : List (List ℕ)). (defined_from (heading stage place code vars) ws).vars) (words-found dump at line from to on m.found)
        ∙ ap (λ (r : Known). r.vars)
        (defined-said stage place code vars (take (to - from) (drop from dump)) k.stands m.goes (sym m.said ∙ e) (words_of (drop to dump)))

    on-small : on ≤ to
    on-small = let a = m.found.small in let b = m.found.some in omega arith

    pub walks-moves : {st : Stage} {pl : Place} → r ≡ Some (Moves st pl) → Walks dump to on st pl code vars
    walks-moves {st} {pl} e =
        record {
          within = m.found.inside;
          small = on-small;
          stands = leads-inside stage place (take (to - from) (drop from dump)) k.stands m.goes (sym m.said ∙ step-moves r st pl e);
          left = vars-said (step-moves r st pl e);
        }

    pub walks-codes : r ≡ Some Codes → Walks dump to on stage VarName (take (to - from) (drop from dump)) vars
    walks-codes e = record { within = m.found.inside; small = on-small; stands = refl; left = vars-said (step-codes r e) }

    pub walks-names : r ≡ Some Names
        → Walks dump to on stage Close code (record { code = code; name = take (to - from) (drop from dump) } ∷ vars)
    walks-names e = record { within = m.found.inside; small = on-small; stands = refl; left = vars-said (step-names r e) }

    pub walks-defines : r ≡ Some Defines → Walks dump to on Body Close code vars
    walks-defines e = record { within = m.found.inside; small = on-small; stands = refl; left = vars-said (step-defines r e) }

    pub vars-breaks : r ≡ None → vars_of dump ≡ vars
    vars-breaks e = vars-said (step-breaks r e) ∙ silent-vars stage (waiting place code) vars false (words_of (drop to dump))
