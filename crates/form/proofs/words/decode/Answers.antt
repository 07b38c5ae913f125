-- `form::words::decode` meets its contract: what is decoded so far, and what is left to decode into the rest, is the whole.
use mathlib.Core.List.{List, []}
use Prim.Native.Nat.{ℕ, ◌+◌, ◌*◌, ◌/◌, ◌<◌, ◌≤◌}
use mathlib.Core.Path.{◌≡◌, ap, ◌∙◌}
use native.Mathlib.Omega.{arith}
use Rattle.std.proofs.lemmas.List.{set-get_or}
use lib.ListN.{length, get_or, length-drop}
use Rattle.form.proofs.Laws.{word-at, decode-turn, decode-short, decode-whole}
use Rattle.form.proofs.words.decode.Goals as goal

pub returns-in_default : goal.returns-in_default
returns-in_default c =
    let at = c.loop-i in
    let h : length c.args.bytes.now / 4 ≤ at.i = omega (arith, c.in_default.ensures.lookup.3, c.as_chunks.ensures.front_len) in
    set-get_or at.row at.i 0 ∙ decode-short c.args.bytes.now at.row _ (4 * at.i) at.i (simp length-drop (omega arith)) at.invariant

pub loop-i-preserved : goal.loop-i-preserved
loop-i-preserved c =
    let at = c.loop-i in
    let bytes = c.args.bytes.now in
    let found = c.in-Some.ensures.lookup.3 in
    let h : at.i < length bytes / 4 = omega (arith, found.0, c.as_chunks.ensures.front_len) in
    let p : 4 * at.i + 4 ≤ length bytes = omega arith in
    let four : 4 * (at.i + 1) ≡ 4 * at.i + 4 = omega arith in
    let w = c.from_le_bytes.ensures ∙ word-at bytes _ _ at.i (length bytes / 4) h p (found.1 [] ∙ ap (λ (chunks : List (List ℕ)). get_or chunks at.i []) c.as_chunks.ensures.front) in
    rw four (decode-turn bytes at.row (4 * at.i) at.i _ p (omega arith) w ∙ at.invariant)

pub returns : goal.returns
returns c =
    let at = c.loop-i in
    decode-whole _ at.row _ at.i (omega arith) at.invariant
