-- Laws of filling rows from a track on: one sample more, and where the filling ends. Assumes nothing.
use Prim.Native.Nat.{ℕ, ◌+◌, ◌-◌, ◌≤◌, ◌<◌}
use mathlib.Core.List.{List}
use mathlib.Core.Path.{◌≡◌, refl, ap, sym, subst, ◌∙◌}
use native.Mathlib.Omega.{arith}
use lib.ListN.{length, set}
use Rattle.std.specs.Prelude.{Option, Some, None}
use Rattle.ground.specs.Numbers.{most_elapsed}
use Rattle.pieces.specs.declared.Mark.{Mark}
use Rattle.pieces.specs.declared.TimeLine.{TimeLine}
use Rattle.pieces.specs.Parts.{behind_by, Filling}
use Rattle.pieces.proofs.Filling.{filling-none, filling-far, filling-near, filled-full, filled-over}
use Rattle.one_reading.specs.declared.Track.{Track}
use Rattle.one_reading.specs.declared.moments.Closed.{Closed}
use Rattle.one_reading.specs.declared.quick.Passed.{Passed}
use Rattle.one_reading.specs.Promises.{Going, Sound, mark_of, ReadsOn}
use Rattle.one_reading.specs.Parts.{Follows, ClosesAt, PassesOn}

-- So many samples are filled in, and the track behind them is sound.
pub record Reading (dump : List ℕ) (from : Option Track) (elapsed₀ levels₀ : List ℕ) (track : Option Track) (i : ℕ) (elapsed levels : List ℕ) : Type 0 where
  pub filling : Filling dump (mark_of from) elapsed₀ levels₀ (mark_of track) i elapsed levels
  pub sound : Sound dump track

-- Where nothing could be passed, nothing has changed.
pub passes_none : (dump : List ℕ) (t : Track) (count : ℕ) (elapsed levels : List ℕ) → Going dump t
    → t.mark.left ≤ 100000 → PassesOn dump t count elapsed levels (record { count = count; track = t }) elapsed levels
passes_none dump t count elapsed levels g n = record { further = omega arith; going = g; near = n; filling = λ m e l f. f }

module _ (dump : List ℕ) (from : Option Track) (elapsed₀ levels₀ : List ℕ) where
  pub reading-first : length elapsed₀ ≡ length levels₀ → Sound dump from → Reading dump from elapsed₀ levels₀ from 0 elapsed₀ levels₀
  reading-first h s = record { filling = filling-none dump (mark_of from) elapsed₀ levels₀ h; sound = s }

  module _ (track : Option Track) (i : ℕ) (elapsed levels : List ℕ) (r : Reading dump from elapsed₀ levels₀ track i elapsed levels) where
    -- The rows are full, or no sample is left.
    pub reads-full : length levels ≤ i → ReadsOn dump from elapsed₀ levels₀ (record { count = i; track = track }) elapsed levels
    reads-full h =
        record {
          rows = filled-full dump (mark_of from) elapsed₀ levels₀ (mark_of track) i elapsed levels r.filling h;
          track = r.sound;
        }

    pub reads_over : track ≡ None → ReadsOn dump from elapsed₀ levels₀ (record { count = i; track = track }) elapsed levels
    reads_over o =
        record {
          rows = filled-over dump (mark_of from) elapsed₀ levels₀ (mark_of track) i elapsed levels r.filling (ap mark_of o);
          track = r.sound;
        }

    -- The rows are of one length.
    pub reading-even : length elapsed ≡ length levels
    reading-even =
        let f = r.filling in
        f.wide ∙ f.even ∙ sym f.long

    module _ (t : Track) (e : track ≡ Some t) where
      pub reading-going : Going dump t
      reading-going = subst (Sound dump) e r.sound

      filling-here : Filling dump (mark_of from) elapsed₀ levels₀ (Some t.mark) i elapsed levels
      filling-here = subst (λ (q : Option Track). Filling dump (mark_of from) elapsed₀ levels₀ (mark_of q) i elapsed levels) e r.filling

      -- A repeat of the old levels more.
      pub reading-repeat : i < length levels → most_elapsed < t.mark.left
          → Reading dump from elapsed₀ levels₀
          (Some (record {
            mark =
                record {
                  at = t.mark.at;
                  time = t.mark.time;
                  left = t.mark.left - most_elapsed;
                  level = t.mark.level;
                };
            line = t.line;
            heard = t.heard;
          }))
          (i + 1) (set elapsed i most_elapsed) (set levels i t.mark.level)
      reading-repeat h k =
          let g = reading-going in
          record {
            filling = filling-far dump (mark_of from) elapsed₀ levels₀ (Some t.mark) i elapsed levels filling-here t.mark refl _ refl h k;
            sound = record { kept = g.kept; same = g.same; begun = g.begun };
          }

      -- Plain tokens passed.
      pub reading-passed : (p : Passed) (elapsed' levels' : List ℕ) → PassesOn dump t i elapsed levels p elapsed' levels'
          → Reading dump from elapsed₀ levels₀ (Some p.track) p.count elapsed' levels'
      reading-passed p elapsed' levels' x =
          record { filling = x.filling (mark_of from) elapsed₀ levels₀ filling-here; sound = x.going }

  -- The track behind a moment that was heard to its end.
  abbrev pub behind_it : Closed → Option Mark → Option Track
  behind_it c None = None
  behind_it c (Some m) = Some (record { mark = m; line = c.line; heard = c.heard })

  mark-back : (c : Closed) (m : Option Mark) → m ≡ mark_of (behind_it c m)
  mark-back c None = refl
  mark-back c (Some m) = refl

  sound-behind : (c : Closed) (time level : ℕ) (next : Option TimeLine) → Follows dump c next → Sound dump (behind_it c (behind_by time level next))
  sound-behind c time level None s = s
  sound-behind c time level (Some next) s = record { kept = s.kept; same = s.same; begun = s.begun }

  pub reading-closed : (t : Track) (i : ℕ) (elapsed levels : List ℕ) → Reading dump from elapsed₀ levels₀ (Some t) i elapsed levels
      → (c : Closed) (mark : Option Mark) (next : Option Track) → i < length levels → t.mark.left ≤ most_elapsed
      → ClosesAt dump t.mark.at t.mark.level c → mark ≡ behind_by t.mark.time c.moved.level c.moved.next → next ≡ behind_it c mark
      → Reading dump from elapsed₀ levels₀ next (i + 1) (set elapsed i t.mark.left) (set levels i c.moved.level)
  reading-closed t i elapsed levels r c mark next h n x e f =
      rw (f, e)
      (record {
        filling =
            filling-near dump (mark_of from) elapsed₀ levels₀ (Some t.mark) i elapsed levels r.filling t.mark refl _ refl h c.moved _ n x.moves
            (sym (mark-back c (behind_by t.mark.time c.moved.level c.moved.next)));
        sound = sound-behind c t.mark.time c.moved.level c.moved.next x.goes;
      })
