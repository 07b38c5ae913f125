-- `replaying::start` meets its contract. Assumes nothing.
use mathlib.Core.Bool.{true, false}
use mathlib.Core.Path.{◌≡◌}
use Rattle.std.specs.Result.{is_err}
use Rattle.replaying.proofs.Starting.{part-refused, image-fails, dump-decides}
use Rattle.replaying.proofs.start.Goals as goal

pub returns-then-is_err : goal.returns-then-is_err
returns-then-is_err c =
    let b : is_err c.power_up-powered.result.reply ≡ true = cc (c.is_err.ensures.value, c.if-is_err.true) in
    part-refused _ _ _ _ _ _ _ _ c.power_up-powered.ensures b

pub returns-then-is_err-2 : goal.returns-then-is_err-2
returns-then-is_err-2 c =
    let b : is_err c.power_up-powered.result.reply ≡ false = cc (c.is_err.ensures.value, c.if-is_err.false) in
    let d : is_err c.read_image-read.result ≡ true = cc (c.is_err-2.ensures.value, c.if-is_err-2.true) in
    image-fails _ _ _ _ _ _ c.power_up-powered.ensures b _ _ _ c.requires c.read_image-read.ensures _ d

pub returns : goal.returns
returns c =
    let b : is_err c.power_up-powered.result.reply ≡ false = cc (c.is_err.ensures.value, c.if-is_err.false) in
    let d : is_err c.read_image-read.result ≡ false = cc (c.is_err-2.ensures.value, c.if-is_err-2.false) in
    dump-decides _ _ _ _ _ _ c.power_up-powered.ensures b _ _ _ c.requires c.read_image-read.ensures _ c.begin-opened.ensures d c.read_image-read.auto.array
