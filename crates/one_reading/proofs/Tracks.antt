-- Laws of a track on the way, for those who follow it. Assumes nothing.
use Prim.Native.Nat.{ℕ, ◌+◌, ◌-◌, ◌≤◌}
use mathlib.Core.Bool.{true}
use mathlib.Core.List.{List}
use mathlib.Core.Path.{◌≡◌, refl, ap, sym, ◌∙◌}
use native.Mathlib.Omega.{arith}
use lib.Dec.{ltb}
use lib.ListN.{length, drop, length-drop}
use borrow.Author.Tests.{lt-ltb}
use Rattle.std.specs.Prelude.{Some}
use Rattle.sections.specs.declared.Place.TheVariants as place
use Rattle.tokens.specs.Tokens.{words_of}
use Rattle.dumps.specs.Defined.{body_at}
use Rattle.dumps.specs.Samples.{samples_in, repeats_of}
use Rattle.judging.specs.Parts.{later_of, most_counted}
use Rattle.judging.proofs.CountLaws.{later-spread}
use Rattle.pieces.specs.Marks.{left_from}
use Rattle.one_reading.specs.declared.Track.{Track}
use Rattle.one_reading.specs.Promises.{Going}

-- A time line has come.
pub has-begun : (dump : List ℕ) (t : Track) → Going dump t → ltb 0 t.heard.lines ≡ true
has-begun dump t g = lt-ltb 0 t.heard.lines (let b = g.begun in omega arith)

-- How many samples are left: the repeats of the open moment, its own, and those of all later time lines.
pub left-length : (dump : List ℕ) (t : Track)
    → length (left_from dump (Some t.mark))
    ≡ repeats_of t.mark.left + 1 + later_of (body_at dump place.Between true) (words_of (drop t.mark.at dump)) t.mark.time
unfolding left_from
left-length dump t =
    later-spread (body_at dump place.Between true) (words_of (drop t.mark.at dump)) t.mark.time t.mark.level t.mark.left
    t.mark.level refl

-- The place of the next sample is no more than the characters read and the time together.
pub next_small : (dump : List ℕ) (t : Track) → Going dump t → (first : ℕ)
    → left_from dump (Some t.mark) ≡ drop first (samples_in dump) → length dump ≤ 9223372036854775808
    → first ≤ most_counted
next_small dump t g first e m =
    let k = g.kept in
    let later = later_of (body_at dump place.Between true) (words_of (drop t.mark.at dump)) t.mark.time in
    let s : t.heard.samples + later ≡ length (samples_in dump) =
    rw (has-begun dump t g, ← g.same) at (k.samples refl) in
    let d : length (samples_in dump) - first ≡ repeats_of t.mark.left + 1 + later =
    sym (length-drop first (samples_in dump)) ∙ ap length (sym e) ∙ left-length dump t in
    let i = k.inside in
    let h = k.early in
    let f = k.fits refl in
    omega arith
