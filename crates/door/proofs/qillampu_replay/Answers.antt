-- `door::qillampu_replay` meets its contract.
use Rattle.door.proofs.Laws.{replays-none, replays-told}
use Rattle.door.proofs.qillampu_replay.Goals as goal

pub returns-then-reply-ne-NUMBERS : goal.returns-then-reply-ne-NUMBERS
returns-then-reply-ne-NUMBERS c = replays-none c.args.reply.now c.if-reply-ne-NUMBERS.true _ _ _ _ _ _ _

pub returns : goal.returns
returns c =
    let numbers = c.args.reply.now in
    let done = c.capture.ensures in
    replays-told numbers _ _ c.if-reply-ne-NUMBERS.false c.tell.ensures _ _ _ _ _ _ _ _ _ done
