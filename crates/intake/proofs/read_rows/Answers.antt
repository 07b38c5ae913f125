-- Each row that is lent lies within its room, and is as long as the header asks.
use Rattle.std.proofs.Common.{ap, ◌∙◌}
use Rattle.rooms.proofs.Fitting.{fits_all}
use Rattle.rooms.specs.declared.Lengths.{Lengths}
use Rattle.intake.proofs.Rooms.{lent}
use Rattle.intake.proofs.read_rows.Goals as goal

abbrev room : Lengths
room = record { array = 16384; raw = 262148; elapsed = 65537; levels = 65537; answers = 65537 }

pub serve_rows-requires-clause-array_length : goal.serve_rows-requires-clause-array_length
serve_rows-requires-clause-array_length g c =
    let f = fits_all c.asked-asked.result room c.fits.ensures c.if-not-fits.false in
    c.fill.auto.row ∙ lent 16384 _ f.array ∙ ap (λ (k : Lengths). k.array) c.asked-asked.ensures
