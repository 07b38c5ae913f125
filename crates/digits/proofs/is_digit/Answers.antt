-- `digits::is_digit_lem` meets its contract: figures and letters are the digits.
use Rattle.digits.proofs.DigitLaws.{digit-test}
use Rattle.digits.proofs.is_digit.Goals as goal

pub returns : goal.returns
returns c = digit-test _ c.within.ensures c.within-2.ensures
