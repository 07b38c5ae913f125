-- `hexfile::pairs::encode` meets its contract: what is left, laid over what stands there, gives what the whole gives.
use Prim.Native.Nat.{◌≤◌, ◌<◌}
use mathlib.Core.Path.{refl, ◌∙◌}
use Rattle.std.proofs.Common.{add-zero}
use native.Mathlib.Omega.{arith}
use borrow.Author.Rules.{rules}
use lib.ListN.{length, length-set, drop_of_length-le}
use Rattle.hexfile.proofs.PairLaws.{encode-turn}
use Rattle.hexfile.proofs.pairs.encode.Goals as goal

pub loop-i-init : goal.loop-i-init
loop-i-init c = (search rules, refl, rw add-zero refl)

pub bounds-out-to : goal.bounds-out-to
bounds-out-to c = omega arith

pub bounds-out-to-in-loop-i : goal.bounds-out-to-in-loop-i
bounds-out-to-in-loop-i c = simp length-set (omega arith)

pub loop-i-preserved : goal.loop-i-preserved
loop-i-preserved c =
    let b = c.loop-i in
    let bytes = c.args.bytes.now in
    let p : b.i < length bytes = omega arith in (
      omega arith,
      simp length-set b.invariant.1,
      rw (c.low.ensures, c.high.ensures) (encode-turn bytes b.out c.args.at b.i _ p refl ∙ b.invariant.2),
    )

pub shape_of-out : goal.shape_of-out
shape_of-out c = c.loop-i.invariant.1

pub returns : goal.returns
returns c =
    let bytes = c.args.bytes.now in
    let h : length bytes ≤ c.loop-i.i = omega arith in
    rw (drop_of_length-le bytes h) at c.loop-i.invariant.2
