-- `words::after_mark` meets its contract: a test that fails finds no mark.
use Rattle.std.proofs.Common.{arith, rules, sym}
use Rattle.words.proofs.WordLaws.{mark_found, mark-short, mark-first, mark-second}
use Rattle.words.proofs.after_mark.Goals as goal
use Rattle.words.proofs.after_mark.Goals.{in_default-via-then-word-lt2, in_default-via-else-word-lt2+in-48+in_default-1, in_default-via-else-word-lt2+in_default-1}

pub returns-in-48 : goal.returns-in-48
returns-in-48 c = mark_found c.args.word.now (omega arith) (search rules) (search rules)

pub returns-in_default : goal.returns-in_default
returns-in_default c =
    let word = c.args.word.now in
    elim c.in_default.branch [
      | in_default-via-then-word-lt2 w ↦ sym (mark-short word (search rules))
      | in_default-via-else-word-lt2+in-48+in_default-1 w ↦ sym (mark-second word (search rules) (search rules) (search rules))
      | in_default-via-else-word-lt2+in_default-1 w ↦ sym (mark-first word (search rules) (search rules))
    ]
