-- `headings::search::search` meets its contract: the marks so far, with those of the wires that are left, are all. Assumes nothing.
use mathlib.Core.Path.{◌∙◌}
use Rattle.std.specs.List.{slice_range}
use Rattle.tokens.proofs.TokenLaws.{same-pointwise}
use Rattle.headings.proofs.Walks.{goes-smaller}
use Rattle.headings.proofs.Seeks.{seeks-start, seeks-end, seeks-moves, seeks-codes, seeks-names, seeks-defines}
use Rattle.headings.proofs.search.search.Goals as goal

pub tokens-init : goal.tokens-init
tokens-init c = seeks-start _ _

pub next-requires : goal.next-requires
next-requires c = record { at_in_bounds = c.tokens.invariant.walks.within; line_le_at = c.tokens.invariant.walks.small }

pub tokens-smaller-in-Codes : goal.tokens-smaller-in-Codes
tokens-smaller-in-Codes c = goes-smaller c.in-Token.word c.in-Token.step c.in-Token.ensures

pub tokens-smaller-in-Names : goal.tokens-smaller-in-Names
tokens-smaller-in-Names c = goes-smaller c.in-Token.word c.in-Token.step c.in-Token.ensures

pub tokens-smaller : goal.tokens-smaller
tokens-smaller c = goes-smaller c.in-Token.word c.in-Token.step c.in-Token.ensures

pub tokens-preserved-in-Codes : goal.tokens-preserved-in-Codes
tokens-preserved-in-Codes c =
    seeks-codes c.tokens.invariant c.in-Token.word c.in-Token.step c.in-Token.ensures c.in-Codes.is
    (c.eq-is_its.ensures ∙ same-pointwise c.args.code.now (slice_range c.args.dump.now c.in-Token.word.from c.in-Token.word.to))

pub tokens-preserved-in-Names : goal.tokens-preserved-in-Names
tokens-preserved-in-Names c = seeks-names c.tokens.invariant c.in-Token.word c.in-Token.step c.in-Token.ensures c.in-Names.is c.declare-so_far.ensures

pub tokens-smaller-in-Moves : goal.tokens-smaller-in-Moves
tokens-smaller-in-Moves c = goes-smaller c.in-Token.word c.in-Token.step c.in-Token.ensures

pub tokens-preserved-in-Moves : goal.tokens-preserved-in-Moves
tokens-preserved-in-Moves c = seeks-moves c.tokens.invariant c.in-Token.word c.in-Token.step c.in-Token.ensures c.in-Moves.is

pub tokens-preserved : goal.tokens-preserved
tokens-preserved c = seeks-defines c.tokens.invariant c.in-Token.word c.in-Token.step c.in-Token.ensures c.in-Defines.is

pub returns : goal.returns
returns c = seeks-end c.tokens.invariant c.next.result c.next.new.self c.next.ensures c.in_default.not-Token
