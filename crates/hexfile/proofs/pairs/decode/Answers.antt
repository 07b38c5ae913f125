-- `hexfile::pairs::decode` meets its contract: the characters so far are digits, and the room has their bytes.
use Prim.Native.Nat.{◌+◌, ◌-◌}
use mathlib.Core.Path.{◌≡◌, refl, sym, ◌∙◌}
use native.Mathlib.Omega.{arith}
use borrow.Author.Rules.{rules}
use lib.ListN.{length, length-drop}
use lib.Seq.{length-take-le}
use borrow.Rule.Slice.PartMut.{same_len_mid}
use Rattle.hexfile.proofs.WindowLaws.{windows-fit, decode-turn, decode-odd, decode-fails, decode-ends}
use Rattle.ground.proofs.Rows.{tail-whole}
use Rattle.hexfile.proofs.pairs.decode.Goals as goal

pub returns-then-n-ne0 : goal.returns-then-n-ne0
returns-then-n-ne0 c = decode-odd _ _ _ c.requires.n_in_bounds c.if-n-ne0.true

pub loop-from-init : goal.loop-from-init
loop-from-init c = (search rules, refl, refl, record { half = refl; digits = refl; bytes = refl })

pub join-requires : goal.join-requires
join-requires c =
    let b = c.loop-from in
    windows-fit _ b.room b.from b.at (omega arith) (omega arith)

pub loop-from-preserved : goal.loop-from-preserved
loop-from-preserved c =
    let b = c.loop-from in
    let all = c.all_digits in (
      omega arith,
      omega arith,
      same_len_mid b.at (b.at + 8 - b.at) b.room c.join.new.room c.join.auto.room ∙ b.invariant.2,
      decode-turn _ _ _ b.from b.at (omega arith) (omega arith) b.invariant.3 all.ensures c.if-not-all_digits.false c.join.ensures,
    )

pub shape_of-room-then-not-all_digits : goal.shape_of-room-then-not-all_digits
shape_of-room-then-not-all_digits c = c.loop-from.invariant.2

pub returns-then-not-all_digits : goal.returns-then-not-all_digits
returns-then-not-all_digits c =
    let b = c.loop-from in
    let pre = c.requires in
    decode-fails _ _ _ b.from pre.n_in_bounds c.if-n-ne0.false (omega arith) c.all_digits.ensures c.if-not-all_digits.true

pub join_first-requires : goal.join_first-requires
join_first-requires c =
    let b = c.loop-from in
    let text = c.args.text.now in record {
      count_in_bounds = rw (tail-whole b.from text, length-drop b.from text) (omega arith);
      count_bound = omega arith;
      in_bounds = rw (tail-whole b.at b.room, length-drop b.at b.room) (omega arith);
    }

pub slice_bounds-ends_in_digits-end : goal.slice_bounds-ends_in_digits-end
slice_bounds-ends_in_digits-end c = sym (length-take-le _ _ c.requires.n_in_bounds)

pub shape_of-room : goal.shape_of-room
shape_of-room c =
    let b = c.loop-from in
    let first = c.join_first in
    same_len_mid b.at (length b.room - b.at) b.room first.new.room first.auto.room ∙ b.invariant.2

pub returns : goal.returns
returns c =
    let b = c.loop-from in
    let first = c.join_first in
    let k : length first.new.room ≡ length b.room - b.at =
    rw (tail-whole b.at b.room, length-drop b.at b.room) at first.auto.room in
    decode-ends c.args.text.now b.room first.new.room _ c.args.n b.from b.at c.requires.n_in_bounds
    c.if-n-ne0.false
    b.invariant.0 (omega arith) (omega arith) (omega arith) b.invariant.3 first.ensures c.ends_in_digits.ensures
