-- `tokens::word_end` meets its contract: no blank stands before the first one. Assumes nothing.
use Prim.Native.Nat.{ℕ, ◌-◌}
use mathlib.Core.List.{List}
use mathlib.Core.Path.{◌≡◌}
use native.Mathlib.Omega.{arith}
use borrow.Author.Rules.{rules}
use borrow.Author.Tests.{tests}
use lib.ListN.{length, take, drop}
use Rattle.std.specs.Option.{unwrap_or}
use Rattle.std.proofs.lemmas.Slice.{between_to_end}
use Rattle.std.proofs.lemmas.Iterator.{YieldsList-from_slice}
use Rattle.std.proofs.lemmas.Iterator.Search.{position_from_yields_List}
use Rattle.tokens.specs.Tokens.{blank}
use Rattle.tokens.proofs.TokenLaws.{ends-first, or-length}
use Rattle.tokens.proofs.word_end.Goals as goal

pub returns : goal.returns
returns c =
    let rest : List ℕ = drop c.args.at c.args.text.now in
    let whole : take (length c.args.text.now - c.args.at) rest ≡ rest =
    between_to_end c.args.text.now c.args.at (length c.args.text.now) (omega arith) in
    let found = position_from_yields_List blank _ _ c.position.result c.position.ensures.ran (YieldsList-from_slice rest cc) (λ x b q k. search (rules, tests)) in
    let length_of : unwrap_or c.position.result (length rest) ≡ c.unwrap_or-length.result = cc in
    let first = or-length rest in
    ends-first _ _ _ c.requires cc
