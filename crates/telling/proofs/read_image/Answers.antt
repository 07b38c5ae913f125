-- `telling::read_image` meets its contract.
use Rattle.telling.proofs.Telling.{reads_none, reads-told}
use Rattle.telling.proofs.read_image.Goals as goal

pub returns-then-reply-ne-NUMBERS : goal.returns-then-reply-ne-NUMBERS
returns-then-reply-ne-NUMBERS c = reads_none _ c.args.reply.now c.if-reply-ne-NUMBERS.true _ _

pub returns : goal.returns
returns c =
    let numbers = c.args.reply.now in
    let done = c.read_image.ensures in
    reads-told _ numbers _ _ c.if-reply-ne-NUMBERS.false c.tell.ensures _ _ _ done
