-- Laws of a dump's pieces for the crates above: what the rows hold, and that a replay takes every sample of them. Assumes nothing.
use Prim.Native.Nat.{ℕ, ◌+◌}
use mathlib.Core.Bool.{true}
use mathlib.Core.List.{List, [], ◌∷◌, map}
use mathlib.Core.Path.{◌≡◌, refl, ap, ◌∙◌}
use native.Mathlib.Omega.{arith}
use lib.ListN.{length, take, drop, length-map}
use lib.Seq.{length-take-le, take_at}
use borrow.Author.Tests.{le-leb}
use Rattle.std.specs.Prelude.{Option, Some, None}
use Rattle.ground.specs.Numbers.{most_elapsed, most_level}
use Rattle.ground.specs.Verdict.{Verdict}
use Rattle.limits.specs.Samples as limits
use Rattle.sections.specs.declared.Place.TheVariants.{Between}
use Rattle.tokens.specs.Tokens.{words_of}
use Rattle.dumps.specs.Defined.{body_at}
use Rattle.dumps.specs.Samples.{Sample, moments_from, elapsed_of, levels_of}
use Rattle.dumps.proofs.SampleLaws.{Small, moments-low, spread-small, take-small}
use Rattle.pieces.specs.declared.Mark.{Mark}
use Rattle.pieces.specs.declared.Filled.{Filled}
use Rattle.pieces.specs.Marks.{left_from, Low}
use Rattle.pieces.specs.Promises.{Fills}

-- Samples within the bounds give no refusal.
small-taken : (place : ℕ) (ss : List Sample) (v : Verdict) → Small ss → limits.samples_of place (elapsed_of ss) (levels_of ss) v ≡ v
small-taken place [] v h = refl
small-taken place (s ∷ ss) v h =
    rw (le-leb s.elapsed most_elapsed h.0, le-leb s.level most_level h.1) (small-taken (place + 1) ss v h.2)

-- Those that are left from a mark on are, if the mark has a level byte.
pub left-small : (dump : List ℕ) (m : Option Mark) → Low m → Small (left_from dump m)
unfolding left_from
left-small dump None h = tt
left-small dump (Some m) h =
    let r = body_at dump Between true in
    let ws = words_of (drop m.at dump) in
    spread-small m.left m.level (moments_from r ws m.time m.level) h (moments-low r ws m.time m.level h)

-- So a replay takes as many of them as there are in a piece (Refusal numbers, 9 and 10).
pub piece-taken : (dump : List ℕ) (m : Option Mark) (n : ℕ) (v : Verdict) → Low m
    → limits.samples_of 0 (elapsed_of (take n (left_from dump m))) (levels_of (take n (left_from dump m))) v ≡ v
piece-taken dump m n v h = small-taken 0 (take n (left_from dump m)) v (take-small n (left_from dump m) (left-small dump m h))

-- What a piece has filled in of the rows.
module _ (dump : List ℕ) (m : Option Mark) (elapsed levels : List ℕ) (r : Filled) (elapsed' levels' : List ℕ)
    (f : Fills dump m elapsed levels r elapsed' levels') where
  count-length : (g : Sample → ℕ) → length (map g (take r.count (left_from dump m))) ≡ r.count
  count-length g =
      let c = f.count in
      length-map (take r.count (left_from dump m)) g ∙ length-take-le r.count (left_from dump m) (omega arith)

  pub piece-times : take r.count elapsed' ≡ elapsed_of (take r.count (left_from dump m))
  piece-times = ap (take r.count) f.times ∙ take_at _ _ r.count (count-length (λ (s : Sample). s.elapsed))

  pub piece_bytes : take r.count levels' ≡ levels_of (take r.count (left_from dump m))
  piece_bytes = ap (take r.count) f.bytes ∙ take_at _ _ r.count (count-length (λ (s : Sample). s.level))
