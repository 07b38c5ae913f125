-- Laws of samples: the repeats of a gap, the moments from an open one on, and that a replay takes every sample. Assumes nothing.
use Prim.Native.Nat.{ℕ, zero, suc, ◌-◌, ◌<◌, ◌≤◌}
use mathlib.Core.Bool.{Bool, true, false, ◌||◌}
use mathlib.Core.List.{List, [], ◌∷◌, ◌++◌}
use mathlib.Core.Path.{◌≡◌, refl}
use native.Mathlib.Omega.{arith}
use lib.Dec.{eqb}
use lib.ListN.{length, replicate, take}
use Rattle.ground.specs.Numbers.{most_elapsed, most_level}
use Rattle.sections.specs.declared.Stage.TheVariants.{Body}
use Rattle.sections.specs.declared.Place.{Place}
use Rattle.sections.specs.Sections.{Says, moves, codes, names, defines, times, puts, breaks}
use Rattle.wires.specs.Wires.{laid}
use Rattle.wires.specs.Values.{is_z, level_by, level_of}
use Rattle.wires.proofs.WireLaws.{laid-small}
use Rattle.dumps.specs.Reading.{Known, says_of, after_by, after}
use Rattle.dumps.specs.Defined.{body_at}
use Rattle.dumps.specs.Samples.{Moment, moments_by, moments_from, Sample, repeats_of, rest_of, gap_to, spread, samples_from}
use Rattle.dumps.proofs.Taken.{samples-token, moments-token}
use Rattle.dumps.proofs.Silent.{silent-samples, silent-moments}

module _ (gap old : ℕ) where
  -- A gap over 100,000 gives one sample of the old levels, and what is left of it the others.
  pub spread-far : (ms : List Moment) → 0 < length ms → most_elapsed < gap
      → spread gap old ms ≡ record { elapsed = most_elapsed; level = old } ∷ spread (gap - most_elapsed) old ms
  spread-far [] h k = absurd (omega arith)
  spread-far (m ∷ ms) h k =
      let s : rest_of gap ≡ rest_of (gap - most_elapsed) = omega arith in
      let r : repeats_of gap ≡ suc (repeats_of (gap - most_elapsed)) = omega arith in
      rw (s, r)

  -- Any other gives the moment's own.
  pub spread-near : (m : Moment) (ms : List Moment) → gap ≤ most_elapsed
      → spread gap old (m ∷ ms) ≡ record { elapsed = gap; level = m.level } ∷ spread (gap_to m.time ms) m.level ms
  spread-near m ms h =
      let s : rest_of gap ≡ gap = omega arith in
      let r : repeats_of gap ≡ 0 = omega arith in
      rw (s, r)

-- The first of the moments from an open one on is the open one.
module _ (from : ℕ) where
  pub record Opened (t : ℕ) (ms : List Moment) : Type 0 where
    pub some : 0 < length ms
    pub gap : gap_to from ms ≡ t - from

  opened-by : (s : Says) (t level : ℕ) (rest : ℕ → ℕ → List Moment) → ((u l : ℕ) → Opened u (rest u l))
      → Opened t (moments_by s t level rest)
  opened-by (moves spot) t level rest h = h t level
  opened-by codes t level rest h = h t level
  opened-by names t level rest h = h t level
  opened-by defines t level rest h = h t level
  opened-by (times u) t level rest h = record { some = omega arith; gap = refl }
  opened-by (puts c marks) t level rest h = h t (laid (level_of c) marks level)
  opened-by breaks t level rest h = h t level

  pub opened : (r : Known) (ws : List (List ℕ)) (t level : ℕ) → Opened t (moments_from r ws t level)
  opened r [] t level = record { some = omega arith; gap = refl }
  opened r (w ∷ ws) t level = opened-by (says_of r w) t level (moments_from (after r w) ws) (opened (after r w) ws)

-- One token behind the definitions, by what it says: the moments and the samples that it leaves.
module _ (dump : List ℕ) (place : Place) (begun : Bool) (w : List ℕ) (ws : List (List ℕ)) where
  module _ (next : Place) (e : says_of (body_at dump place begun) w ≡ moves (record { stage = Body; place = next })) where
    pub moments-moves : (time level : ℕ)
        → moments_from (body_at dump place begun) (w ∷ ws) time level ≡ moments_from (body_at dump next begun) ws time level
    unfolding after_by
    moments-moves time level = moments-token _ w ws e time level

    pub samples-moves : samples_from (body_at dump place begun) (w ∷ ws) ≡ samples_from (body_at dump next begun) ws
    unfolding after_by
    samples-moves = samples-token _ w ws e

  module _ (t : ℕ) (e : says_of (body_at dump place begun) w ≡ times t) where
    pub moments-times : (time level : ℕ)
        → moments_from (body_at dump place begun) (w ∷ ws) time level
        ≡ record { time = time; level = level } ∷ moments_from (body_at dump place true) ws t level
    unfolding after_by
    moments-times time level = moments-token _ w ws e time level

    pub samples-times : samples_from (body_at dump place begun) (w ∷ ws) ≡ spread 0 0 (moments_from (body_at dump place true) ws t 0)
    unfolding after_by
    samples-times = samples-token _ w ws e

  pub moments-puts : (c marks time level : ℕ) → says_of (body_at dump place begun) w ≡ puts c marks
      → moments_from (body_at dump place begun) (w ∷ ws) time level
      ≡ moments_from (body_at dump place begun) ws time (laid (level_of c) marks level)
  unfolding after_by
  moments-puts c marks time level e = moments-token _ w ws e time level

  module _ (e : says_of (body_at dump place begun) w ≡ breaks) where
    pub moments-breaks : (time level : ℕ)
        → moments_from (body_at dump place begun) (w ∷ ws) time level ≡ record { time = time; level = level } ∷ []
    unfolding after_by
    moments-breaks time level = rw (moments-token _ w ws e time level) (silent-moments _ _ _ _ ws time level)

    pub samples-breaks : samples_from (body_at dump place begun) (w ∷ ws) ≡ []
    unfolding after_by
    samples-breaks = rw (samples-token _ w ws e) (silent-samples _ _ _ _ ws)

-- Levels that are a level byte stay one.
level_by_lem : (b : Bool) → level_by b ≤ 1
level_by_lem true = omega arith
level_by_lem false = omega arith

level-small : (c : ℕ) → level_of c ≤ 1
unfolding level_of
level-small c = level_by_lem (eqb c 0x31 || is_z c)

abbrev pub Low : List Moment → Type 0
Low [] = Unit {0}
Low (m ∷ ms) = (m.level ≤ most_level) × Low ms

low_by : (s : Says) (time level : ℕ) (rest : ℕ → ℕ → List Moment) → ((t l : ℕ) → l ≤ most_level → Low (rest t l)) → level ≤ most_level
    → Low (moments_by s time level rest)
low_by (moves spot) time level rest h k = h time level k
low_by codes time level rest h k = h time level k
low_by names time level rest h k = h time level k
low_by defines time level rest h k = h time level k
low_by (times t) time level rest h k = (k, h t level k)
low_by (puts c marks) time level rest h k = h time (laid (level_of c) marks level) (laid-small (level_of c) marks level (level-small c))
low_by breaks time level rest h k = h time level k

pub moments-low : (r : Known) (ws : List (List ℕ)) (time level : ℕ) → level ≤ most_level → Low (moments_from r ws time level)
moments-low r [] time level k = (k, tt)
moments-low r (w ∷ ws) time level k = low_by (says_of r w) time level (moments_from (after r w) ws) (moments-low (after r w) ws) k

-- Samples that a replay takes: none waits longer than 100,000, and each has a level byte.
abbrev pub Small : List Sample → Type 0
Small [] = Unit {0}
Small (s ∷ ss) = (s.elapsed ≤ most_elapsed) × (s.level ≤ most_level) × Small ss

repeats-small : (n old : ℕ) (ss : List Sample) → old ≤ most_level → Small ss
    → Small (replicate n (record { elapsed = most_elapsed; level = old }) ++ ss)
repeats-small zero old ss h k = k
repeats-small (suc n) old ss h k = (omega arith, h, repeats-small n old ss h k)

pub spread-small : (gap old : ℕ) (ms : List Moment) → old ≤ most_level → Low ms → Small (spread gap old ms)
spread-small gap old [] h k = tt
spread-small gap old (m ∷ ms) h k =
    let rest : rest_of gap ≤ most_elapsed = omega arith in
    repeats-small (repeats_of gap) old _ h (rest, k.0, spread-small (gap_to m.time ms) m.level ms k.0 k.1)

pub take-small : (n : ℕ) (ss : List Sample) → Small ss → Small (take n ss)
take-small zero ss h = tt
take-small (suc n) [] h = tt
take-small (suc n) (s ∷ ss) h = (h.0, h.1, take-small n ss h.2)
