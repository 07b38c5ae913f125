-- What is kept while a dump is judged token after token.
use Rattle.std.specs.Prelude.{ℕ, ◌+◌, ◌≤◌, List, ◌≡◌, ltb, length, drop, Option, None, IfSome}
use Rattle.tokens.specs.Tokens.{tokens_from, words_of, last_line}
use Rattle.wires.specs.Times.{highest_time}
use Rattle.dumps.specs.Reading.{Known}
use Rattle.dumps.specs.Defined.{body_at}
use Rattle.dumps.specs.Samples.{samples_in}
use Rattle.dumps.specs.Faults.{faults_from, faults_of, verdict_by}
use Rattle.headings.specs.declared.faults.Fault.{Fault}
use Rattle.headings.specs.Parts.{noted}
use Rattle.changes.specs.declared.Mode.{Mode}
use Rattle.changes.specs.Parts.{place_of}
use Rattle.judging.specs.declared.Heard.{Heard}
use Rattle.judging.specs.declared.Plain.{Plain}
use Rattle.judging.specs.Parts.{heard_of, later_of}

-- The reading behind the definitions, as far as it was heard.
abbrev pub reading_at : List ℕ → Mode → Heard → Known
reading_at dump mode heard = body_at dump (place_of mode) (ltb 0 heard.lines)

-- What is kept from token to token: the first fault so far and those of what is left give the dump's verdict, and as long as there is none,
-- the samples so far and those of what is left are the dump's.
pub record Kept (dump : List ℕ) (at line : ℕ) (fault : Option Fault) (mode : Mode) (heard : Heard) : Type 0 where
  pub inside : at ≤ length dump
  pub small : line ≤ at
  pub faulty : IfSome fault (λ f. f.line ≤ length dump)
  pub early : heard.time ≤ highest_time
  pub lines : heard.lines ≤ at
  pub unbegun : heard.lines ≡ 0 → heard.time ≡ 0
  pub fits : fault ≡ None → heard.samples ≤ at + heard.time
  pub verdict : (count : ℕ) → verdict_by (faults_of dump) count
      ≡ verdict_by (noted fault (faults_from (reading_at dump mode heard) (heard_of heard) (tokens_from line (drop at dump)) (last_line dump))) count
  pub samples : fault ≡ None
      → heard.samples + later_of (reading_at dump mode heard) (words_of (drop at dump)) heard.time ≡ length (samples_in dump)

-- Some tokens further the same is kept, and the first fault and the mode are as they were.
pub record KeptOn (dump : List ℕ) (at : ℕ) (fault : Option Fault) (mode : Mode) (r : Plain) : Type 0 where
  pub from : at ≤ r.at
  pub kept : Kept dump r.at r.line fault mode r.heard
