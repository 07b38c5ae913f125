-- What each case of the code's answers means.
use Rattle.std.specs.Prelude.{Option, None, Some}
use Rattle.sections.specs.declared.Stage.TheVariants.{Body}
use Rattle.sections.specs.declared.Place.{Place}
use Rattle.sections.specs.declared.Place.TheVariants as place
use Rattle.sections.specs.declared.Step.{Step}
use Rattle.sections.specs.declared.Step.TheVariants as step
use Rattle.sections.specs.Sections.{Says, moves, times, puts, breaks}
use Rattle.changes.specs.declared.Mode.{Mode}
use Rattle.changes.specs.declared.Mode.TheVariants.{Between, Dumped, Skipped}
use Rattle.changes.specs.declared.Change.{Change}
use Rattle.changes.specs.declared.Change.TheVariants.{Time, Value, Moves}

-- The place of a mode.
abbrev pub place_of : Mode → Place
place_of Between = place.Between
place_of Dumped = place.Values
place_of Skipped = place.Skipped

-- What each case of a change says; none is of a malformed token.
unfoldable pub change_meant : Option Change → Says
change_meant (Some (Time t)) = times t
change_meant (Some (Value c marks)) = puts c marks
change_meant (Some (Moves mode)) = moves (record { stage = Body; place = place_of mode })
change_meant None = breaks

-- And back; no further place is met behind the definitions.
abbrev pub mode_of : Place → Mode
mode_of place.Between = Between
mode_of place.Skipped = Skipped
mode_of place.ScaleNumber = Between
mode_of place.ScaleUnit = Between
mode_of place.ScopeKind = Between
mode_of place.ScopeName = Between
mode_of place.VarKind = Between
mode_of place.VarWidth = Between
mode_of place.VarCode = Between
mode_of place.VarName = Between
mode_of place.Close = Between
mode_of place.Values = Dumped
mode_of place.Wrong = Between

-- A section's token behind the definitions leads to a mode or is malformed.
abbrev pub moved_by : Option Step → Option Change
moved_by (Some (step.Moves stage place)) = Some (Moves (mode_of place))
moved_by (Some step.Codes) = None
moved_by (Some step.Names) = None
moved_by (Some step.Defines) = None
moved_by None = None
