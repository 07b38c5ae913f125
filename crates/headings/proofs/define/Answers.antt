-- `headings::define` meets its contract: what was found, with what is left to read, is the whole. Assumes nothing.
use borrow.Author.Rules.{rules}
use Rattle.headings.proofs.Walks.{goes-smaller}
use Rattle.headings.proofs.Stands.{stands-start, stands-over, stands-broken, stands-moves, stands-codes, stands-names, stands-defines}
use Rattle.headings.proofs.define.Goals as goal

pub tokens-init : goal.tokens-init
tokens-init c = stands-start _ _ c.requires (c.fill.ensures.after (λ y h. search rules))

pub next-requires : goal.next-requires
next-requires c = record { at_in_bounds = c.tokens.invariant.walks.within; line_le_at = c.tokens.invariant.walks.small }

pub declare-requires : goal.declare-requires
declare-requires c = c.tokens.invariant.tabled.size

pub tokens-smaller-in-Moves : goal.tokens-smaller-in-Moves
tokens-smaller-in-Moves c = goes-smaller c.in-Token.word c.in-Token.step c.in-Token.ensures

pub tokens-smaller-in-Codes : goal.tokens-smaller-in-Codes
tokens-smaller-in-Codes c = goes-smaller c.in-Token.word c.in-Token.step c.in-Token.ensures

pub tokens-smaller-in-Names : goal.tokens-smaller-in-Names
tokens-smaller-in-Names c = goes-smaller c.in-Token.word c.in-Token.step c.in-Token.ensures

pub tokens-smaller : goal.tokens-smaller
tokens-smaller c = goes-smaller c.in-Token.word c.in-Token.step c.in-Token.ensures

pub tokens-preserved-in-Moves : goal.tokens-preserved-in-Moves
tokens-preserved-in-Moves c = stands-moves c.tokens.invariant c.in-Token.word c.in-Token.step c.in-Token.ensures c.in-Moves.is

pub tokens-preserved-in-Codes : goal.tokens-preserved-in-Codes
tokens-preserved-in-Codes c = stands-codes c.tokens.invariant c.in-Token.word c.in-Token.step c.in-Token.ensures c.in-Codes.is

pub tokens-preserved-in-Names : goal.tokens-preserved-in-Names
tokens-preserved-in-Names c =
    stands-names c.tokens.invariant c.in-Token.word c.in-Token.step c.in-Token.ensures _ c.in-Names.is
    c.wire_of-wire.ensures.value c.twice.ensures c.join-fault.ensures c.lay-named.ensures.value c.declare.ensures

pub tokens-preserved : goal.tokens-preserved
tokens-preserved c =
    stands-defines c.tokens.invariant c.in-Token.word c.in-Token.step c.in-Token.ensures _ c.in-Defines.is c.missing.ensures c.join-fault-in-Defines.ensures

pub returns-in-Over : goal.returns-in-Over
returns-in-Over c = stands-over c.tokens.invariant c.in-Over.ensures

pub returns-in-Broken : goal.returns-in-Broken
returns-in-Broken c = stands-broken c.tokens.invariant c.first.ensures c.in-Broken.ensures
