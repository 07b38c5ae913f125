-- `door::qillampu_replay_dump` meets its contract.
use Rattle.door.proofs.Laws.{dump-none, dump-told}
use Rattle.door.proofs.qillampu_replay_dump.Goals as goal

pub returns-then-reply-ne-NUMBERS : goal.returns-then-reply-ne-NUMBERS
returns-then-reply-ne-NUMBERS c = dump-none c.args.reply.now c.if-reply-ne-NUMBERS.true _ _ _ _ _ _

pub returns : goal.returns
returns c =
    let numbers = c.args.reply.now in
    let done = c.report.ensures in
    dump-told numbers _ _ c.if-reply-ne-NUMBERS.false c.tell.ensures _ _ _ _ _ _ _ _ done
