-- That the words of demand 3 ask and say what they seem to: arrays that came from one by a byte at an address are equal but for it, and
-- states that are the same but for the byte being sent are one where that byte is the same; what a covering write made equal is so at once.
-- Assumes nothing.
use Prim.Native.Nat.{ℕ, suc}
use mathlib.Core.List.{List}
use mathlib.Core.Path.{◌≡◌, sym, ◌∙◌}
use native.Mathlib.Omega.{arith}
use lib.ListN.{take, set, length-set}
use lib.Seq.{get_or-set_other}
use Rattle.part.specs.declared.state.State.{State}
use Rattle.sample.specs.Run.{Part, run_of}
use Rattle.demand3.specs.Differ.{EqualBut, SameButOut, Covered}

-- Two arrays that were set at one address are equal but for it.
pub set-equal-but : (xs : List ℕ) (a v w : ℕ) → EqualBut a (set xs a v) (set xs a w)
set-equal-but xs a v w =
    record {
      lengths = length-set xs a v ∙ sym (length-set xs a w);
      others = λ i h. get_or-set_other xs a i v 0 h ∙ sym (get_or-set_other xs a i w 0 h);
    }

-- Two states that are the same in all but the byte being sent, and in it too, are one.
pub same-state : (s t : State) → SameButOut s t → s.device.talk.out ≡ t.device.talk.out → s ≡ t
same-state s t h e = λ i.
    record {
      chip = h.chip i;
      timers = h.timers i;
      wire = h.wire i;
      device =
          record {
            talk = record { phase = h.phase i; high = h.high i; out = e i; own = h.own i };
            counter = h.counter i;
            control = h.control i;
          };
      load = h.load i;
    }

-- Two parts that a covering write made equal are so right after its sample.
pub right-after : (k : ℕ) (es ls : List ℕ) (p q : Part) → Covered k es ls p q
    → run_of (take (suc k) es) (take (suc k) ls) p ≡ run_of (take (suc k) es) (take (suc k) ls) q
right-after k es ls p q c = c.later (suc k) (omega arith)
