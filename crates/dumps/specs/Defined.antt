-- The wires of a dump, as its definitions leave them (request 2026-03, var).
use Rattle.std.specs.Prelude.{ℕ, Bool, true, false, ◌&&◌, List, [], ◌∷◌}
use Rattle.sections.specs.declared.Stage.TheVariants.{Body}
use Rattle.sections.specs.declared.Place.{Place}
use Rattle.sections.specs.Sections.{is_body}
use Rattle.tokens.specs.Tokens.{words_of}
use Rattle.wires.specs.Wires.{Var}
use Rattle.dumps.specs.Reading.{Known, unread, after, is_between}

-- Whether the definitions are over and no section is entered (2026-03, enddefinitions).
abbrev pub is_defined : Known → Bool
is_defined r = is_body r.spot.stage && is_between r.spot.place

-- The reading where the definitions are over, or else at the end.
abbrev pub defined_by : Bool → Known → Known → Known
defined_by true r rest = r
defined_by false r rest = rest

-- The same from a reading on, token after token (2026-03, var).
abbrev pub defined_from : Known → List (List ℕ) → Known
defined_from r [] = r
defined_from r (w ∷ ws) = defined_by (is_defined r) r (defined_from (after r w) ws)

-- The wires that a dump declares, the latest first (2026-03, var).
unfoldable pub vars_of : List ℕ → List Var
vars_of dump = (defined_from unread (words_of dump)).vars

-- A reading behind the definitions of a dump, outside or inside a section, by whether a time line has come.
abbrev pub body_at : List ℕ → Place → Bool → Known
body_at dump place begun = record { spot = record { stage = Body; place = place }; code = []; vars = vars_of dump; begun = begun }
