-- What a capture from power-up says, by what power-up said. Assumes nothing.
use Prim.Native.Nat.{ℕ}
use mathlib.Core.List.{List}
use mathlib.Core.Path.{◌≡◌, ap, sym, ◌∙◌}
use Rattle.std.specs.Prelude.{Ok, Err}
use Rattle.ground.specs.Verdict.{meant}
use Rattle.ground.specs.declared.Refusal.{Refusal}
use Rattle.ground.proofs.Verdicts.{is-accepted, is-refused}
use Rattle.refusals.specs.Refusals.{power_of}
use Rattle.power.specs.declared.Replayed.{Replayed}
use Rattle.power.specs.Promises.{PowersUp}
use Rattle.twin.specs.Promises.{Replays}
use Rattle.captures.specs.Once.{capture_verdict, Captures}

module _ (part select stored : ℕ) (es ls array row : List ℕ) (u : Replayed) (up : PowersUp part select stored u) where
  -- A refused power-up is the whole reply.
  pub captures_none : (k : Refusal) → u.reply ≡ Err k → Captures part select stored es ls array row (Err k) array row
  unfolding capture_verdict
  captures_none k e =
      let v = is-refused u.reply (power_of part select stored) k up.reply e in
      record { reply = ap meant (sym e) ∙ up.reply ∙ rw v; kept = rw v; said = rw v }

  -- Otherwise the replay from the state at power-up is.
  pub captures-all : (n : ℕ) (r : Replayed) (array' row' : List ℕ) → u.reply ≡ Ok n
      → Replays u.state es ls array row r array' row' → Captures part select stored es ls array row r.reply array' row'
  unfolding capture_verdict
  captures-all n r array' row' e q =
      let v = is-accepted u.reply (power_of part select stored) n up.reply e in
      let s = up.state in
      record { reply = q.reply ∙ rw (s, v); kept = q.kept ∙ rw (s, v); said = q.said ∙ rw (s, v) }
