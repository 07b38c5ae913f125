-- Laws of reading the definitions: what each token leaves, and what is promised where they end. Assumes nothing.
use Prim.Native.Nat.{ℕ, ◌≤◌}
use mathlib.Core.Bool.{false, not}
use mathlib.Core.List.{List, [], ◌∷◌}
use mathlib.Core.Path.{◌≡◌, refl, ap, ◌∙◌}
use lib.Dec.{eqb}
use lib.ListN.{length, replicate}
use Rattle.std.specs.List.{slice_range}
use mathlib.Core.Logic.{◌⊎◌, inl, inr}
use Rattle.tokens.proofs.TokenLaws.{words-none}
use Rattle.sections.specs.declared.Stage.{Stage}
use Rattle.sections.specs.declared.Stage.TheVariants.{Start}
use Rattle.sections.specs.declared.Place.{Place}
use Rattle.sections.specs.declared.Place.TheVariants.{Between}
use Rattle.sections.specs.declared.Step.{Step}
use Rattle.sections.specs.declared.Step.TheVariants.{Moves, Codes, Names, Defines as Ends}
use Rattle.std.specs.Prelude.{Option, None, Some, IfSome, Ok, Err}
use Rattle.wires.specs.Wires.{Var, all_wires, laid, named_of, has_wire, weight_of}
use Rattle.dumps.specs.Defined.{body_at}
use Rattle.dumps.specs.Faults.{unheard, fault_if, note}
use Rattle.dumps.proofs.Inside.{heading, ends-inside, over-body}
use Rattle.ground.specs.declared.Reason.{Reason}
use Rattle.ground.specs.declared.Reason.TheVariants.{DumpMalformed}
use Rattle.headings.specs.declared.faults.Fault.{Fault}
use Rattle.headings.specs.Parts.{Tabled, declared_in, number_in, first_of, joined_of, Defines}
use Rattle.headings.proofs.FaultLaws.{first_small, first-verdict, joined_small}
use Rattle.headings.proofs.TableLaws.{tabled-none, tabled-more}
use Rattle.tokens.specs.declared.Word.{Word}
use Rattle.headings.specs.declared.walk.Walk.{Walk}
use Rattle.headings.specs.declared.walk.Met.TheVariants.{Token, Over}
use Rattle.headings.specs.Walk.{Goes, Short, Malformed}
use Rattle.headings.proofs.Walks.{Walks, walks-start, walks-moves, walks-codes, walks-names, walks-defines, vars-over, vars-end, vars-breaks, meets-inside}
use Rattle.headings.proofs.Judged.{Judges, judges-start, judges-moves, judges-codes, judges-names, judges-defines, verdict-breaks, samples-breaks}

-- A place in the definitions, with the table, the code that waits, the wanted wires that were named and the first fault so far.
pub record Stands (dump table : List ℕ) (w : Walk) (code : List ℕ) (named : ℕ) (fault : Option Fault) : Type 0 where
  pub vars : List Var
  pub walks : Walks dump w.at w.line w.stage w.place code vars
  pub judges : Judges dump fault w.at w.line w.stage w.place code vars
  pub tabled : Tabled vars table
  pub counts : named ≡ named_of vars
  pub faulty : IfSome fault (λ f. f.line ≤ length dump)

pub stands-start : (dump code : List ℕ) {table : List ℕ} {n : ℕ} → n ≡ 256 → table ≡ replicate n 0
    → Stands dump table (record { at = 0; line = 0; stage = Start; place = Between }) code 0 None
stands-start dump code h e =
    record {
      vars = [];
      walks = walks-start dump code;
      judges = judges-start dump code;
      tabled = tabled-none _ _ h e;
      counts = refl;
      faulty = tt;
    }

module _ {dump table : List ℕ} {w : Walk} {code : List ℕ} {named : ℕ} {fault : Option Fault}
    (k : Stands dump table w code named fault) where
  -- Where the definitions are over.
  pub stands-over : {next : Walk} → Goes dump w Over next → Defines dump (Ok (record { at = next.at; line = next.line; fault = fault })) table
  stands-over (d, e) =
      let q : heading w.stage w.place code k.vars ≡ body_at dump Between false =
      over-body dump w.stage w.place code k.vars d (vars-over k.walks d) in
      rw e
      (record {
        tabled = rw (vars-over k.walks d) k.tabled;
        inside = k.walks.within;
        small = k.walks.small;
        faulty = k.faulty;
        verdict = λ count. k.judges.verdict count ∙ rw q;
        samples = k.judges.samples ∙ rw q;
      })

  module _ {f : Fault} {line : ℕ} (j : f ≡ first_of fault (record { reason = DumpMalformed; line = line })) where
    -- Where the dump ends inside them.
    stands-short : Short dump w line → Defines dump (Err f) table
    unfolding note
    stands-short s =
        let q = ends-inside w.stage w.place code k.vars unheard k.walks.stands s.goes in
        record {
          tabled = rw (vars-end k.walks s.none) k.tabled;
          faulty = rw j (first_small fault (record { reason = DumpMalformed; line = line }) (length dump) k.faulty s.within);
          verdict = λ count.
              k.judges.verdict count
              ∙ rw (s.none, q, ← s.last, j) (first-verdict fault (record { reason = DumpMalformed; line = line }) [] count);
          samples = k.judges.samples ∙ rw (words-none dump w.at w.line s.none);
        }

    -- Where a token is malformed.
    stands-malformed : Malformed dump w line → Defines dump (Err f) table
    stands-malformed b =
        let m = b.met in
        let within : line ≤ length dump = meets-inside m in
        record {
          tabled = rw (vars-breaks k.walks m refl) k.tabled;
          faulty = rw j (first_small fault (record { reason = DumpMalformed; line = line }) (length dump) k.faulty within);
          verdict = λ count. verdict-breaks k.judges k.walks.stands m refl count ∙ rw j;
          samples = samples-breaks k.judges k.walks.stands m refl;
        }

    pub stands-broken : Short dump w line ⊎ Malformed dump w line → Defines dump (Err f) table
    stands-broken (inl s) = stands-short s
    stands-broken (inr b) = stands-malformed b

  module _ (word : Word) (step : Step) {next : Walk} (g : Goes dump w (Token word step) next) where
    pub stands-moves : {st : Stage} {pl : Place} → step ≡ Moves st pl → Stands dump table next code named fault
    stands-moves e =
        rw (g.1, e)
        (record {
          vars = k.vars;
          walks = walks-moves k.walks g.0 (ap Some e);
          judges = judges-moves k.judges k.walks.stands g.0 (ap Some e);
          tabled = k.tabled;
          counts = k.counts;
          faulty = k.faulty;
        })

    pub stands-codes : step ≡ Codes → Stands dump table next (slice_range dump word.from word.to) named fault
    stands-codes e =
        rw (g.1, e)
        (record {
          vars = k.vars;
          walks = walks-codes k.walks g.0 (ap Some e);
          judges = judges-codes k.judges k.walks.stands g.0 (ap Some e);
          tabled = k.tabled;
          counts = k.counts;
          faulty = k.faulty;
        })

    pub stands-names : {wire name : ℕ} (n : Option Reason) {f : Option Fault} {t : List ℕ} → step ≡ Names
        → wire ≡ weight_of (slice_range dump word.from word.to) → number_in n ≡ fault_if (has_wire named wire) 21
        → f ≡ joined_of fault n word.line → name ≡ laid 1 wire named → t ≡ declared_in table code wire
        → Stands dump t next code name f
    stands-names {wire} n e v q j l d =
        rw (g.1, e)
        (record {
          vars = record { code = code; name = slice_range dump word.from word.to } ∷ k.vars;
          walks = walks-names k.walks g.0 (ap Some e);
          judges = rw j (judges-names k.judges k.walks.stands g.0 n (ap Some e) (q ∙ rw (k.counts, v)));
          tabled = rw (d, v) (tabled-more k.vars table code (slice_range dump word.from word.to) k.tabled);
          counts = l ∙ rw (k.counts, v);
          faulty = rw j (joined_small fault n word.line (length dump) k.faulty (meets-inside g.0));
        })

    pub stands-defines : (n : Option Reason) {f : Option Fault} → step ≡ Ends → number_in n ≡ fault_if (not (eqb named all_wires)) 21
        → f ≡ joined_of fault n word.line → Stands dump table next code named f
    stands-defines n e q j =
        rw (g.1, e)
        (record {
          vars = k.vars;
          walks = walks-defines k.walks g.0 (ap Some e);
          judges = rw j (judges-defines k.judges k.walks.stands g.0 n (ap Some e) (q ∙ rw k.counts));
          tabled = k.tabled;
          counts = k.counts;
          faulty = rw j (joined_small fault n word.line (length dump) k.faulty (meets-inside g.0));
        })
