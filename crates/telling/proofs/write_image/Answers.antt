-- `telling::write_image` meets its contract.
use Rattle.telling.proofs.Telling.{writes-none, writes-told}
use Rattle.telling.proofs.write_image.Goals as goal

pub returns-then-reply-ne-NUMBERS : goal.returns-then-reply-ne-NUMBERS
returns-then-reply-ne-NUMBERS c = writes-none _ c.args.reply.now c.if-reply-ne-NUMBERS.true _ _

pub returns : goal.returns
returns c =
    let numbers = c.args.reply.now in
    let done = c.write_image.ensures in
    writes-told _ numbers _ _ c.if-reply-ne-NUMBERS.false c.tell.ensures _ _ _ done
