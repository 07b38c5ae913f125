-- `one_reading::behind` meets its contract. Assumes nothing.
use mathlib.Core.Bool.{false}
use mathlib.Core.Path.{◌≡◌}
use Rattle.std.specs.Option.{is_some}
use Rattle.one_reading.proofs.Beginning.{defined-kept, fault-none}
use Rattle.one_reading.proofs.behind.Goals as goal

pub first_time-requires-clause-kept : goal.first_time-requires-clause-kept
first_time-requires-clause-kept c =
    let t : is_some c.args.heading.fault ≡ false = cc in
    defined-kept _ _ _ c.requires (fault-none _ t)
