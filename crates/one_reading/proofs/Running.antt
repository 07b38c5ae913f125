-- Laws of passing plain tokens and filling in their samples. Assumes nothing.
use Prim.Native.Nat.{ℕ, ◌+◌, ◌-◌, ◌/◌, ◌≤◌, ◌<◌}
use mathlib.Core.Bool.{true}
use mathlib.Core.List.{List, [], ◌∷◌}
use mathlib.Core.Path.{◌≡◌, refl, sym, ◌∙◌}
use native.Mathlib.Omega.{arith}
use lib.ListN.{length, length-set, set, drop}
use Rattle.std.specs.Prelude.{Option, Some}
use Rattle.ground.specs.Numbers.{most_elapsed}
use Rattle.sections.specs.declared.Place.TheVariants as place
use Rattle.sections.specs.Sections.{puts}
use Rattle.tokens.specs.Tokens.{words_of}
use Rattle.wires.specs.Wires.{laid}
use Rattle.wires.specs.Values.{level_of}
use Rattle.dumps.specs.Defined.{body_at}
use Rattle.dumps.specs.Samples.{Moment, moments_from, repeats_of, spread}
use Rattle.changes.specs.declared.Mode.TheVariants.{Between}
use Rattle.changes.specs.declared.Change.TheVariants.{Time, Value}
use Rattle.changes.proofs.Meanings.{means-time, means-value}
use Rattle.tokens.specs.declared.Past.{Past}
use Rattle.glances.specs.declared.Seen.{Seen}
use Rattle.glances.specs.Parts.{Sees, SeesTime, Skims}
use Rattle.glances.proofs.SeenPast.{seen-time}
use Rattle.judging.proofs.PlainLaws.{Passing, passing-value, passing-time}
use Rattle.pieces.specs.declared.Mark.{Mark}
use Rattle.pieces.specs.Marks.{left_from, Low}
use Rattle.pieces.specs.Parts.{Filling}
use Rattle.pieces.specs.Parts as parts
use Rattle.pieces.proofs.Filling.{filling-near}
use Rattle.pieces.proofs.Turns.{moment-time, moment-value}
use Rattle.one_reading.specs.declared.Track.{Track}
use Rattle.one_reading.specs.declared.quick.Passed.{Passed}
use Rattle.one_reading.specs.Promises.{Going}
use Rattle.one_reading.specs.Parts.{PassesOn}

-- Where plain tokens end, by the numbers.
abbrev passed_at : ℕ → ℕ → ℕ → ℕ → ℕ → ℕ → ℕ → ℕ → ℕ → Passed
passed_at at line lines time given samples left level count =
    record {
      count = count;
      track =
          record {
            mark = record { at = at; time = time; left = left; level = level };
            line = line;
            heard = record { lines = lines; time = time; given = given; samples = samples };
          };
    }

-- A mark on the way.
abbrev open_at : ℕ → ℕ → ℕ → ℕ → Option Mark
open_at at time left level = Some (record { at = at; time = time; left = left; level = level })

-- Before a short gap the old levels are not repeated.
spread-old : (gap a b : ℕ) (ms : List Moment) → gap ≤ most_elapsed → spread gap a ms ≡ spread gap b ms
spread-old gap a b [] h = refl
spread-old gap a b (m ∷ ms) h = let r : repeats_of gap ≡ 0 = omega arith in rw r

-- So a value in a moment leaves the same samples.
left-value : (dump : List ℕ) (at to time left level l : ℕ) → left ≤ most_elapsed
    → moments_from (body_at dump place.Between true) (words_of (drop at dump)) time level
    ≡ moments_from (body_at dump place.Between true) (words_of (drop to dump)) time l
    → left_from dump (open_at at time left level) ≡ left_from dump (open_at to time left l)
unfolding left_from
left-value dump at to time left level l h e =
    rw e (spread-old left level l (moments_from (body_at dump place.Between true) (words_of (drop to dump)) time l) h)

-- Rows that are filled stay so at a mark that leaves the same.
filling-same : (dump : List ℕ) (m : Option Mark) (elapsed₀ levels₀ : List ℕ) (mark next : Option Mark) (i : ℕ) (elapsed levels : List ℕ)
    → left_from dump mark ≡ left_from dump next → Low next
    → Filling dump m elapsed₀ levels₀ mark i elapsed levels → Filling dump m elapsed₀ levels₀ next i elapsed levels
filling-same dump m elapsed₀ levels₀ mark next i elapsed levels e l f =
    record {
      room = f.room;
      some = f.some;
      even = f.even;
      wide = f.wide;
      long = f.long;
      times = f.times;
      bytes = f.bytes;
      left = sym e ∙ f.left;
      low = λ _. l;
    }

-- Plain tokens passed so far.
pub record Running (dump : List ℕ) (t : Track) (count : ℕ) (elapsed₀ levels₀ : List ℕ) (at line lines time samples left level i : ℕ)
    (elapsed levels : List ℕ) : Type 0 where
  pub passing : Passing dump t.mark.at t.heard.given at line lines time samples
  pub near : left ≤ most_elapsed
  pub further : count ≤ i
  pub room : i ≤ length levels
  pub wide : length elapsed ≡ length elapsed₀
  pub long : length levels ≡ length levels₀
  pub even : length elapsed ≡ length levels
  pub filling : (m : Option Mark) (e l : List ℕ) → Filling dump m e l (Some t.mark) count elapsed₀ levels₀
      → Filling dump m e l (open_at at time left level) i elapsed levels

pub running-first : (dump : List ℕ) (t : Track) (count : ℕ) (elapsed levels : List ℕ) → Going dump t
    → t.mark.left ≤ 100000 → 2 ≤ t.heard.lines → count ≤ length levels → length elapsed ≡ length levels
    → Running dump t count elapsed levels t.mark.at t.line t.heard.lines t.mark.time t.heard.samples t.mark.left
    t.mark.level count elapsed levels
running-first dump t count elapsed levels g n w r e =
    record {
      passing = record { further = omega arith; two = w; kept = rw g.same g.kept };
      near = n;
      further = omega arith;
      room = r;
      wide = refl;
      long = refl;
      even = e;
      filling = λ m e l f. f;
    }

module _ (dump : List ℕ) (t : Track) (count : ℕ) (elapsed₀ levels₀ : List ℕ) (at line lines time samples left level i : ℕ)
    (elapsed levels : List ℕ) (r : Running dump t count elapsed₀ levels₀ at line lines time samples left level i elapsed levels) where
  -- Where they end.
  pub passes_on : (p : Passed) → p ≡ passed_at at line lines time t.heard.given samples left level i
      → PassesOn dump t count elapsed₀ levels₀ p elapsed levels
  passes_on p e =
      let two = r.passing.two in
      rw e
      (record {
        further = r.further;
        going = record { kept = r.passing.kept; same = refl; begun = omega arith };
        near = r.near;
        filling = r.filling;
      })

  -- A value of 0 or 1 more.
  pub running-value : (to on c marks v l : ℕ) → Sees dump at line to on (puts c marks) → c / 2 ≡ 0x18 → t.heard.given ≡ 15
      → v ≡ level_of c → l ≡ laid v marks level → l ≤ 15
      → Running dump t count elapsed₀ levels₀ to on lines time samples left l i elapsed levels
  running-value to on c marks v l s h g q w u =
      let e =
      moment-value dump Between true at line s.from to on s.word (Some (Value c marks)) (means-value _ c marks refl ∙ sym s.said) time level c marks refl in
      record {
        passing = passing-value dump t.mark.at t.heard.given at line lines time samples r.passing to on c marks s h g;
        near = r.near;
        further = r.further;
        room = r.room;
        wide = r.wide;
        long = r.long;
        even = r.even;
        filling = λ m x y f.
            filling-same dump m x y (open_at at time left level) (open_at to time left l) i elapsed levels
            (left-value dump at to time left level l r.near (rw (w, q) e)) u (r.filling m x y f);
      }

  -- A time that makes one sample more.
  module _ (past : Past) (seen : Seen) (k : Skims dump at line past) (m : SeesTime dump past.at (Some seen)) (above : time < seen.time) where
    time-moves : parts.Moves dump at level (record { level = level; next = Some (record { at = past.at + seen.length; time = seen.time }) })
    time-moves =
        let s = seen-time dump at line past k seen m in
        record {
          moments = λ now. moment-time dump Between true at line s.from (past.at + seen.length) past.line s.word (Some (Time seen.time))
              (means-time _ seen.time refl ∙ sym s.said) now level seen.time refl;
          low = λ h. h;
        }

    pub running-time : seen.time - time ≤ 100000 → i < length levels
        → Running dump t count elapsed₀ levels₀ (past.at + seen.length) past.line (lines + 1) seen.time (samples + 1)
        (seen.time - time) level (i + 1) (set elapsed i left) (set levels i level)
    running-time d h =
        let b : length (set levels i level) ≡ length levels = length-set levels i level in
        let a : length (set elapsed i left) ≡ length elapsed = length-set elapsed i left in
        let n = r.further in
        let o = r.long in
        let w = r.wide in
        let v = r.even in
        record {
          passing = passing-time dump t.mark.at t.heard.given at line lines time samples r.passing past seen k m above d;
          near = d;
          further = omega arith;
          room = omega arith;
          wide = omega arith;
          long = omega arith;
          even = omega arith;
          filling = λ n x y f.
              filling-near dump n x y (open_at at time left level) i elapsed levels (r.filling n x y f) _ refl _ refl h _ _ r.near time-moves refl;
        }
