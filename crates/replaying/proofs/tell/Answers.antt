-- `replaying::tell` meets its contract. Assumes nothing.
use borrow.Author.Rules.{rules}
use Rattle.replaying.proofs.tell.Goals as goal

pub tell_rows-requires : goal.tell_rows-requires
tell_rows-requires c =
    record { stands = c.requires; elapsed_len = search rules; levels_len = search rules; answers_len = search rules; out_len = search rules }
