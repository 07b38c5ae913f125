-- The places where a dump and the twin disagree, and the verdict on a report (request 2026-03, reports every sample).
use Rattle.std.specs.Prelude.{ℕ, suc, Bool, true, false, not, ◌&&◌, List, [], ◌∷◌, ◌++◌, eqb, length, take, drop}
use Rattle.ground.specs.Cases.{odd}
use Rattle.ground.specs.Kind.{kind_of}
use Rattle.ground.specs.Verdict.{Verdict, accepted, refused}
use Rattle.levels.specs.Level.{scl_of, sda_of}
use Rattle.refusals.specs.Refusals.{power_of}
use Rattle.sample.specs.Run.{Part, run_of, answers_of}
use Rattle.power.specs.Power.{at_power}
use Rattle.dumps.specs.Samples.{Sample, samples_in, elapsed_of, levels_of}
use Rattle.dumps.specs.Faults.{dump_verdict}

-- SCL is high, the dump shows SDA high, and the twin pulls it low (2026-03, reports every sample).
abbrev pub disagrees : ℕ → ℕ → Bool
disagrees level answer = scl_of level && (sda_of level && not (odd answer))

-- A place put before others if it is to be reported.
abbrev pub place_by : Bool → ℕ → List ℕ → List ℕ
place_by true k ks = k ∷ ks
place_by false k ks = ks

-- The places of level and answer bytes, counted from a place on: ascending, each once (2026-03, the report).
abbrev pub places_from : ℕ → List ℕ → List ℕ → List ℕ
places_from k [] answers = []
places_from k (l ∷ ls) [] = []
places_from k (l ∷ ls) (a ∷ answers) = place_by (disagrees l a) k (places_from (suc k) ls answers)

-- The places of samples replayed on a part, counted from a place on (2026-03, the report).
abbrev pub places_in : ℕ → List Sample → Part → List ℕ
places_in k ss p = places_from k (levels_of ss) (answers_of (elapsed_of ss) (levels_of ss) p)

-- The part after samples, first sample first (What goes in and what comes out).
abbrev pub part_after_all : List Sample → Part → Part
part_after_all ss p = run_of (elapsed_of ss) (levels_of ss) p

-- The places of a whole dump, replayed from power-up on over all its samples (2026-03, the report).
unfoldable pub places_of : ℕ → ℕ → ℕ → List ℕ → List ℕ → List ℕ
places_of part select stored dump array = places_in 0 (samples_in dump) (at_power part select stored array)

-- Part, select and stored byte are refused first, then the array's size, then the dump (2026-03, are refused first).
abbrev pub open_by : Verdict → Bool → Verdict → Verdict
open_by (accepted n) true v = v
open_by (accepted n) false v = refused 5 0
open_by (refused k p) sized v = refused k p

-- The verdict before anything is replayed: how many samples the dump has, or the refusal (2026-03, refusals; Refusal numbers, 1 to 3, 5).
unfoldable pub open_verdict : ℕ → ℕ → ℕ → List ℕ → List ℕ → Verdict
open_verdict part select stored dump array =
    open_by (power_of part select stored) (eqb (length array) (kind_of part).size) (dump_verdict dump)

-- An accepted report says how many places disagree (2026-03, the report).
abbrev pub report_by : Verdict → ℕ → Verdict
report_by (accepted n) count = accepted count
report_by (refused k p) count = refused k p

-- The array, or the row of places, after a report: refused, as it was (Refusal numbers, any other refusal).
abbrev pub array_by : Verdict → List ℕ → List ℕ → List ℕ
array_by (accepted n) after array = after
array_by (refused k p) after array = array

-- Places laid over a row from its start, as far as it goes; the rest of it stays (Leaving no slack, each lent row).
abbrev pub laid_over : List ℕ → List ℕ → List ℕ
laid_over ps row = take (length row) ps ++ drop (length ps) row
