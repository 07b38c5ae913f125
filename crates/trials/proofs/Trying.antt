-- Laws of a case. Assumes nothing.
use Prim.Native.Nat.{ℕ, min}
use mathlib.Core.List.{List}
use mathlib.Core.Path.{◌≡◌, ap, sym, subst, ◌∙◌}
use lib.ListN.{length, replicate}
use Rattle.part.specs.declared.state.State.{State}
use Rattle.power.specs.declared.Replayed.{Replayed}
use Rattle.std.specs.Prelude.{Option, Some, None, Ok, Err}
use Rattle.ground.specs.declared.Refusal.{Refusal}
use Rattle.ground.specs.Verdict.{Verdict, accepted, refused, number_of, meant}
use Rattle.power.specs.Promises.{PowersUp}
use Rattle.power.specs.Power.{power_state}
use Rattle.form.specs.declared.headers.Header.{Header}
use Rattle.form.specs.Words.{bytes_of}
use Rattle.form.specs.Header.{state_of}
use Rattle.trials.specs.Rounds.{Round, round_of, times_of}
use Rattle.trials.specs.Trial.{blank, up_of, preset_state, tried_of, Tries}
use Rattle.replies.specs.Reply.{opening_of, Closes, EndsReply}
use Rattle.trials.specs.Case.{Answers}

-- The power-up of a header's words, as the code narrowed them.
module _ (h : Header) (part select stored : ℕ) (up : Replayed)
    (p : part ≡ min h.part 65535) (s : select ≡ min h.select 255) (b : stored ≡ min h.stored 255)
    (said : PowersUp part select stored up) where
  up-verdict : (v : Verdict) → meant up.reply ≡ v → up_of h ≡ v
  unfolding up_of
  up-verdict v e = rw (← p, ← s, ← b) (sym said.reply ∙ e)

  up-state : (v : Verdict) → meant up.reply ≡ v → up.state ≡ power_state v part select stored
  up-state v e = said.state ∙ ap (λ (w : Verdict). power_state w part select stored) (sym said.reply ∙ e)

  -- An accepted power-up: the words are put in, the answer row is cleared, and the replays follow.
  pub tries-accepted : (n : ℕ) (first : State) (es ls array row clear array' row' : List ℕ) (last : Replayed)
      → up.reply ≡ Ok n → first ≡ state_of h up.state → clear ≡ replicate (length row) blank
      → round_of last array' row' ≡ times_of h.times first es ls array clear
      → Tries h es ls array row (Ok last) array' row'
  unfolding meant preset_state tried_of
  tries-accepted n first es ls array row clear array' row' last told put wiped ran =
      let v : up_of h ≡ accepted n = up-verdict (accepted n) (rw told) in
      let at : first ≡ preset_state h = put ∙ ap (state_of h) (up-state (accepted n) (rw told) ∙ rw (p, s, b)) in
      record { ran = rw v; last = rw v (ran ∙ rw (at, wiped)) }

  -- A refused power-up leaves the rows as they are.
  pub tries-refused : (k : Refusal) (es ls array row : List ℕ) → up.reply ≡ Err k → Tries h es ls array row (Err k) array row
  unfolding meant tried_of
  tries-refused k es ls array row told =
      let v : up_of h ≡ refused (number_of k.reason) k.place = up-verdict (refused (number_of k.reason) k.place) (rw told) in
      record { ran = rw v; last = rw v }

module _ (h : Header) (es ls array row array' row' opening : List ℕ) where
  -- What a case leaves, with the bytes that open, close and end its reply, is the answer to it.
  pub answers-ran : (closing : List ℕ) (tail : Option (List ℕ)) (last : Replayed) → Tries h es ls array row (Ok last) array' row'
      → opening ≡ bytes_of (opening_of (meant last.reply)) → Closes last.state closing → EndsReply h.long last.state tail
      → Answers h es ls array row (record { opening = opening; rest = Some (record { closing = closing; tail = tail }) }) array' row'
  answers-ran closing tail last t o c e =
      let state : last.state ≡ (tried_of h es ls array row).part.state = ap (λ (r : Round). r.part.state) t.last in
      record {
        ran = t.ran;
        opening = o ∙ ap (λ (r : Round). bytes_of (opening_of r.verdict)) t.last;
        answers = ap (λ (r : Round). r.row) t.last;
        kept = ap (λ (r : Round). r.part.array) t.last;
        closing = subst (λ (s : State). Closes s closing) state c;
        tail = subst (λ (s : State). EndsReply h.long s tail) state e;
      }

  -- So is the refusal of a power-up, with the bytes that open its reply.
  pub answers-refused : (k : Refusal) → Tries h es ls array row (Err k) array' row' → opening ≡ bytes_of (opening_of (meant (Err k)))
      → Answers h es ls array row (record { opening = opening; rest = None }) array' row'
  answers-refused k t o =
      record {
        ran = t.ran;
        opening = o ∙ ap (λ (r : Round). bytes_of (opening_of r.verdict)) t.last;
        answers = ap (λ (r : Round). r.row) t.last;
        kept = ap (λ (r : Round). r.part.array) t.last;
        closing = tt;
        tail = tt;
      }
