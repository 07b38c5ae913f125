-- `changes::change_of` meets its contract: the mode and the first character decide. Assumes nothing.
use mathlib.Core.Path.{refl}
use Rattle.changes.proofs.ChangeLaws.{between-time, between-value, between-opens, dumped-value, dumped-ends, skipped-goes}
use Rattle.changes.proofs.change_of.Goals as goal

pub returns-in-Between : goal.returns-in-Between
returns-in-Between c =
    rw c.in-Between.is
    (between-time _ _ _ _ c.requires.word_nonzero c.if-first-eq-HASH.true c.time.ensures)

pub returns-in-Between-2 : goal.returns-in-Between-2
returns-in-Between-2 c =
    rw c.in-Between-2.is
    (between-value _ _ _ _ c.requires.word_nonzero c.if-first-eq-HASH.false c.is_value.ensures c.if-is_value.true c.value.ensures)

pub returns-in-Dumped : goal.returns-in-Dumped
returns-in-Dumped c =
    rw c.in-Dumped.is
    (dumped-value _ _ _ _ c.requires.word_nonzero c.if-is_value-2.ensures refl c.value-in-Dumped.ensures)

pub returns-in-Between-3 : goal.returns-in-Between-3
returns-in-Between-3 c =
    rw c.in-Between-3.is
    (between-opens _ _ _ _ c.requires.word_nonzero c.if-first-eq-HASH.false c.is_value.ensures c.if-is_value.false _ c.moved.ensures c.open.ensures)

pub returns-in-Dumped-2 : goal.returns-in-Dumped-2
returns-in-Dumped-2 c =
    rw c.in-Dumped-2.is
    (dumped-ends _ _ _ _ c.requires.word_nonzero c.if-is_value-2.ensures refl _ c.moved-in-Dumped-2.ensures c.hear.ensures)

pub returns-in-Skipped : goal.returns-in-Skipped
returns-in-Skipped c = rw c.in-Skipped.is (skipped-goes _ _ _ _ _ c.moved-in-Skipped.ensures c.hear-in-Skipped.ensures)
