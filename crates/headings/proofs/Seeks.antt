-- Laws of the search for a code's marks. Assumes nothing.
use Prim.Native.Nat.{ℕ}
use mathlib.Core.Bool.{Bool, false}
use mathlib.Core.List.{List, [], ◌∷◌}
use mathlib.Core.Path.{◌≡◌, refl, ap, sym, ◌∙◌}
use native.Mathlib.Omega.{arith}
use Rattle.std.specs.List.{slice_range}
use mathlib.Core.Logic.{inl, inr}
use Rattle.tokens.specs.Tokens.{same_word}
use Rattle.tokens.proofs.TokenLaws.{other_length}
use Rattle.sections.specs.declared.Stage.{Stage}
use Rattle.sections.specs.declared.Stage.TheVariants.{Start}
use Rattle.sections.specs.declared.Place.{Place}
use Rattle.sections.specs.declared.Place.TheVariants.{Between}
use Rattle.sections.specs.declared.Step.{Step}
use Rattle.sections.specs.declared.Step.TheVariants.{Moves, Codes, Names, Defines}
use Rattle.std.specs.Prelude.{Some}
use Rattle.wires.specs.Wires.{Var, weight_of, marks_by, marks_of}
use Rattle.dumps.specs.Defined.{vars_of}
use Rattle.tokens.specs.declared.Word.{Word}
use Rattle.headings.specs.declared.walk.Walk.{Walk}
use Rattle.headings.specs.declared.walk.Met.{Met}
use Rattle.headings.specs.declared.walk.Met.TheVariants.{Token, Over, Broken}
use Rattle.headings.specs.Walk.{Goes}
use Rattle.headings.proofs.Walks.{Walks, walks-start, walks-moves, walks-codes, walks-names, walks-defines, vars-over, vars-end, vars-breaks}

-- A place in the definitions, with the marks of a code so far, and whether the code that waits is the same.
pub record Seeks (dump code : List ℕ) (w : Walk) (its : Bool) (marks : ℕ) : Type 0 where
  pub vars : List Var
  pub waits : List ℕ
  pub walks : Walks dump w.at w.line w.stage w.place waits vars
  pub same : its ≡ same_word code waits
  pub found : marks ≡ marks_of vars code

-- At the start none waits; any longer one stands for it.
pub seeks-start : (dump code : List ℕ) → Seeks dump code (record { at = 0; line = 0; stage = Start; place = Between }) false 0
seeks-start dump code =
    record {
      vars = [];
      waits = 0 ∷ code;
      walks = walks-start dump (0 ∷ code);
      same = other_length code (0 ∷ code) (λ e. omega arith);
      found = refl;
    }

module _ {dump code : List ℕ} {w : Walk} {its : Bool} {marks : ℕ} (k : Seeks dump code w its marks) where
  seeks-all : vars_of dump ≡ k.vars → marks ≡ marks_of (vars_of dump) code
  seeks-all e = k.found ∙ ap (λ (vs : List Var). marks_of vs code) (sym e)

  -- Where no token is met, all are found.
  pub seeks-end : (met : Met) (next : Walk) → Goes dump w met next → ((word : Word) (step : Step) → met ≡ Token word step → ⊥)
      → marks ≡ marks_of (vars_of dump) code
  seeks-end (Token word step) next g other = absurd (other word step refl)
  seeks-end Over next (d, e) other = seeks-all (vars-over k.walks d)
  seeks-end (Broken line) next (inl s) other = seeks-all (vars-end k.walks s.none)
  seeks-end (Broken line) next (inr b) other = seeks-all (vars-breaks k.walks b.met refl)

  module _ (word : Word) (step : Step) {next : Walk} (g : Goes dump w (Token word step) next) where
    pub seeks-moves : {st : Stage} {pl : Place} → step ≡ Moves st pl → Seeks dump code next its marks
    seeks-moves e =
        rw (g.1, e)
        (record { vars = k.vars; waits = k.waits; walks = walks-moves k.walks g.0 (ap Some e); same = k.same; found = k.found })

    pub seeks-codes : {b : Bool} → step ≡ Codes → b ≡ same_word code (slice_range dump word.from word.to) → Seeks dump code next b marks
    seeks-codes e q =
        rw (g.1, e)
        (record {
          vars = k.vars;
          waits = slice_range dump word.from word.to;
          walks = walks-codes k.walks g.0 (ap Some e);
          same = q;
          found = k.found;
        })

    pub seeks-names : {n : ℕ} → step ≡ Names → n ≡ marks_by its (weight_of (slice_range dump word.from word.to)) marks
        → Seeks dump code next its n
    seeks-names e q =
        rw (g.1, e)
        (record {
          vars = record { code = k.waits; name = slice_range dump word.from word.to } ∷ k.vars;
          waits = k.waits;
          walks = walks-names k.walks g.0 (ap Some e);
          same = k.same;
          found = q ∙ rw (k.same, k.found);
        })

    pub seeks-defines : step ≡ Defines → Seeks dump code next its marks
    seeks-defines e =
        rw (g.1, e)
        (record { vars = k.vars; waits = k.waits; walks = walks-defines k.walks g.0 (ap Some e); same = k.same; found = k.found })
