-- Laws of replays in a row. Assumes nothing.
use Prim.Native.Nat.{ℕ, suc, ◌+◌, ◌-◌, ◌<◌, ◌≤◌}
use mathlib.Core.List.{List}
use mathlib.Core.Path.{◌≡◌, ap, sym, ◌∙◌}
use native.Mathlib.Omega.{arith}
use Rattle.part.specs.declared.state.State.{State}
use Rattle.power.specs.declared.Replayed.{Replayed}
use Rattle.twin.specs.Promises.{Replays}
use Rattle.trials.specs.Rounds.{Round, round_of, once_of, again_of}

-- What a replay promises is one round.
pub once : (s : State) (es ls array row : List ℕ) (r : Replayed) (array' row' : List ℕ) → Replays s es ls array row r array' row'
    → round_of r array' row' ≡ once_of es ls (record { state = s; array = array }) row
unfolding once_of
once s es ls array row r array' row' h = rw (h.reply, h.state, h.kept, h.said)

-- One replay of those that are left.
pub again-turn : (times done : ℕ) (es ls : List ℕ) (r next : Round) → done < times → next ≡ once_of es ls r.part r.row
    → again_of (times - (done + 1)) es ls next ≡ again_of (times - done) es ls r
again-turn times done es ls r next h e =
    let g : times - done ≡ suc (times - (done + 1)) = omega arith in
    ap (λ (n : Round). again_of (times - (done + 1)) es ls n) e ∙ ap (λ (n : ℕ). again_of n es ls r) (sym g)

-- None is left where all are done.
pub again-done : (times done : ℕ) (es ls : List ℕ) (r whole : Round) → times ≤ done → again_of (times - done) es ls r ≡ whole → r ≡ whole
again-done times done es ls r whole h e =
    let g : times - done ≡ 0 = omega arith in
    ap (λ (n : ℕ). again_of n es ls r) (sym g) ∙ e
