-- Laws of counting a dump's samples: those so far and those of all later time lines are all. Assumes nothing.
use Prim.Native.Nat.{ℕ, suc, ◌+◌, ◌-◌, ◌/◌, ◌≤◌}
use mathlib.Core.Bool.{Bool, true, false}
use mathlib.Core.List.{List, [], ◌∷◌}
use mathlib.Core.Path.{◌≡◌, refl, ap, sym, ◌∙◌}
use native.Mathlib.Omega.{arith}
use lib.ListN.{length, length-append, length-replicate}
use Rattle.sections.specs.Sections.{Says, moves, codes, names, defines, times, puts, breaks}
use Rattle.wires.specs.Wires.{laid}
use Rattle.wires.specs.Values.{level_of}
use Rattle.dumps.specs.Reading.{Known, says_of, after_by, after}
use Rattle.dumps.specs.Samples.{Moment, moments_by, moments_from, repeats_of, gap_to, spread, samples_by, samples_from}
use Rattle.dumps.proofs.SampleLaws.{opened}
use Rattle.judging.specs.Parts.{gap_by, later_by, later_of}

-- The repeats before a time line are few.
pub repeats-small : (begun : Bool) (before time : ℕ) → repeats_of (gap_by begun before time) ≤ time / 100000
repeats-small true before time = omega arith
repeats-small false before time = omega arith

-- One moment's samples: its repeats and its own.
spread-length : (gap old : ℕ) (m : Moment) (ms : List Moment)
    → length (spread gap old (m ∷ ms)) ≡ repeats_of gap + suc (length (spread (gap_to m.time ms) m.level ms))
spread-length gap old m ms = simp (length-append, length-replicate)

-- From an open moment on: its own samples, and those of all later time lines.
spread-by : (s : Says) (time level gap old : ℕ) (rest : ℕ → ℕ → List Moment) (more : ℕ → ℕ)
    → ((t l : ℕ) → gap_to time (rest t l) ≡ t - time)
    → ((t l g o : ℕ) → length (spread g o (rest t l)) ≡ repeats_of g + 1 + more t)
    → length (spread gap old (moments_by s time level rest)) ≡ repeats_of gap + 1 + later_by s true time more
spread-by (moves spot) time level gap old rest more d h = h time level gap old
spread-by codes time level gap old rest more d h = h time level gap old
spread-by names time level gap old rest more d h = h time level gap old
spread-by defines time level gap old rest more d h = h time level gap old
spread-by (times t) time level gap old rest more d h =
    let k : length (spread (gap_to time (rest t level)) level (rest t level)) ≡ repeats_of (t - time) + 1 + more t =
    rw (d t level) (h t level (t - time) level) in
    spread-length gap old (record { time = time; level = level }) (rest t level) ∙ omega arith
spread-by (puts c marks) time level gap old rest more d h = h time (laid (level_of c) marks level) gap old
spread-by breaks time level gap old rest more d h = h time level gap old

begun-by : (s : Says) (r : Known) (w : List ℕ) → r.begun ≡ true → (after_by s r w).begun ≡ true
unfolding after_by
begun-by (moves spot) r w e = e
begun-by codes r w e = e
begun-by names r w e = e
begun-by defines r w e = e
begun-by (times t) r w e = refl
begun-by (puts c marks) r w e = e
begun-by breaks r w e = e

pub later-spread : (r : Known) (ws : List (List ℕ)) (time level gap old : ℕ) → r.begun ≡ true
    → length (spread gap old (moments_from r ws time level)) ≡ repeats_of gap + 1 + later_of r ws time
later-spread r [] time level gap old e =
    spread-length gap old (record { time = time; level = level }) [] ∙ omega arith
later-spread r (w ∷ ws) time level gap old e =
    spread-by (says_of r w) time level gap old (moments_from (after r w) ws) (later_of (after r w) ws)
    (λ t l. (opened time (after r w) ws t l).gap) (λ t l g o. later-spread (after r w) ws t l g o (begun-by (says_of r w) r w e))
    ∙ ap (λ (b : Bool). repeats_of gap + 1 + later_by (says_of r w) b time (later_of (after r w) ws)) (sym e)

-- Before the first time line: those of all time lines.
samples-by : (s : Says) (r : Known) (w : List ℕ) (ws : List (List ℕ)) (time : ℕ) → r.begun ≡ false
    → ((after_by s r w).begun ≡ false → length (samples_from (after_by s r w) ws) ≡ later_of (after_by s r w) ws time)
    → length (samples_by s (moments_from (after_by s r w) ws) (samples_from (after_by s r w) ws))
    ≡ later_by s false time (later_of (after_by s r w) ws)
unfolding after_by
samples-by (moves spot) r w ws time e h = h e
samples-by codes r w ws time e h = h e
samples-by names r w ws time e h = h e
samples-by defines r w ws time e h = h e
samples-by (times t) r w ws time e h = later-spread (after_by (times t) r w) ws t 0 0 0 refl
samples-by (puts c marks) r w ws time e h = h e
samples-by breaks r w ws time e h = h e

pub later-samples : (r : Known) (ws : List (List ℕ)) (time : ℕ) → r.begun ≡ false → length (samples_from r ws) ≡ later_of r ws time
later-samples r [] time e = refl
later-samples r (w ∷ ws) time e =
    samples-by (says_of r w) r w ws time e (λ f. later-samples (after r w) ws time f)
    ∙ ap (λ (b : Bool). later_by (says_of r w) b time (later_of (after r w) ws)) (sym e)
