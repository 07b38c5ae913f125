-- `tidying::tidied` meets its contract.
use Rattle.std.proofs.Common.{◌≡◌, Err, refl, ◌∙◌, rules}
use Rattle.tidying.proofs.Starting.{read_known, shows-refusal, shows-image, tidies-image}
use Rattle.tidying.proofs.tidied.Goals as goal

pub returns-in_err-read_image : goal.returns-in_err-read_image
returns-in_err-read_image c =
    let same : c.from_residual.result ≡ Err c.in_err-read_image.field-0.0 = search rules in
    rw same (record { cases = (shows-refusal _ _ _ _ _ c.requires.array_len c.read_image.ensures _ c.in_err-read_image.was, refl) })

pub returns : goal.returns
returns c =
    let pre = c.requires in
    let read = c.read_image in
    let taken = c.in_ok-read_image.was in
    tidies-image _ _ _ (read_known _ _ _ _ _ pre.array_len read.ensures _ taken) (read.auto.array ∙ pre.array_len) pre.large_size_in_bounds
    _ _ _ (shows-image _ _ _ _ _ pre.array_len read.ensures _ taken) c.write_image.ensures
