-- What a walk over the definitions promises.
use Rattle.std.specs.Prelude.{ℕ, ◌≤◌, ◌≡◌, ◌&&◌, ◌⊎◌, true, false, List, [], length, drop, slice_range, Option, None, Some}
use Rattle.tokens.specs.Tokens.{tokens_from, last_line}
use Rattle.tokens.specs.Parts.{FindsWord}
use Rattle.tokens.specs.declared.Word.{Word}
use Rattle.sections.specs.declared.Stage.{Stage}
use Rattle.sections.specs.declared.Stage.TheVariants.{Body}
use Rattle.sections.specs.declared.Place.{Place}
use Rattle.sections.specs.declared.Place.TheVariants.{VarName, Close}
use Rattle.sections.specs.declared.Step.{Step}
use Rattle.sections.specs.declared.Step.TheVariants.{Moves, Codes, Names, Defines}
use Rattle.sections.specs.Sections.{is_body, step_meant, section_says}
use Rattle.dumps.specs.Reading.{is_between}
use Rattle.headings.specs.declared.walk.Walk.{Walk}
use Rattle.headings.specs.declared.walk.Met.{Met}
use Rattle.headings.specs.declared.walk.Met.TheVariants.{Token, Over, Broken}

-- A token met: the definitions are not over, and a step that says what its section says.
pub record Meets (dump : List ℕ) (at line : ℕ) (stage : Stage) (place : Place) (from to on : ℕ) (r : Option Step) : Type 0 where
  pub goes : is_body stage && is_between place ≡ false
  pub found : FindsWord dump at line from to on
  pub said : step_meant r ≡ section_says place stage (slice_range dump from to)

-- Where a step leads from a stage.
abbrev pub stage_behind : Step → Stage → Stage
stage_behind (Moves stage place) before = stage
stage_behind Codes before = before
stage_behind Names before = before
stage_behind Defines before = Body

-- At what place the token behind a step stands.
abbrev pub place_behind : Step → Place
place_behind (Moves stage place) = place
place_behind Codes = VarName
place_behind Names = Close
place_behind Defines = Close

-- The walk behind a token.
abbrev pub walk_behind : Step → Word → Walk → Walk
walk_behind step word w =
    record { at = word.to; line = word.line; stage = stage_behind step w.stage; place = place_behind step }

-- The dump ends among the definitions.
pub record Short (dump : List ℕ) (w : Walk) (line : ℕ) : Type 0 where
  pub goes : is_body w.stage && is_between w.place ≡ false
  pub none : tokens_from w.line (drop w.at dump) ≡ []
  pub last : line ≡ last_line dump
  pub within : line ≤ length dump

-- A token of them is malformed.
pub record Malformed (dump : List ℕ) (w : Walk) (line : ℕ) : Type 0 where
  pub from : ℕ
  pub to : ℕ
  pub met : Meets dump w.at w.line w.stage w.place from to line None

-- A walk gone on by one token.
abbrev pub Goes : List ℕ → Walk → Met → Walk → Type 0
Goes dump w (Token word step) next =
    Meets dump w.at w.line w.stage w.place word.from word.to word.line (Some step) × (next ≡ walk_behind step word w)
Goes dump w Over next = (is_body w.stage && is_between w.place ≡ true) × (next ≡ w)
Goes dump w (Broken line) next = Short dump w line ⊎ Malformed dump w line
