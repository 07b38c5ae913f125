-- Worked cases of what starts and ends talk, each computed. No axiom is used.
use mathlib.Core.Path.{refl}
use Rattle.runs.proofs.Opened.{opened}
use Rattle.talk_cases.specs.TalkCases.{S19, S20, S21, S22, S23}

-- S19: bits discarded, both lines at once, levels remembered.
pub s19 : S19
unfolding opened
s19 =
    record {
      taken = (refl, refl, refl);
      accepted = (refl, refl, refl);
      started = refl;
      stopped = refl;
      unfinished = refl;
      clean = refl;
      rises = refl;
      idle = refl;
      falls = refl;
      remembered = refl;
    }

-- S20: what a start and a stop drop.
pub s20 : S20
unfolding opened
s20 =
    record {
      taken = (refl, refl);
      array = refl;
      time = refl;
      latch = refl;
      stopped = record { taken = refl; line = refl };
      other = record { taken = refl; line = refl };
    }

-- S21: a second register byte.
pub s21 : S21
unfolding opened
s21 = record { taken = refl; first = refl; second = refl; latch = refl }

-- S22: the register is sent once.
pub s22 : S22
unfolding opened
s22 = record { once = refl; stays = record { taken = refl; line = refl }; dropped = record { taken = refl; line = refl } }

-- S23: what is acknowledged.
pub s23 : S23
unfolding opened
s23 = record { taken = refl; accepted = (refl, refl); unstopped = refl; array = refl; register = refl; withheld = refl; silent = refl }
