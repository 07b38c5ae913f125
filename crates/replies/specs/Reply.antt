-- The words of a reply (docs/BENCH.md).
use Rattle.std.specs.Prelude.{ℕ, min, Bool, true, false, List, [], ◌∷◌, ◌≡◌, length, Option, Some, None}
use Rattle.ground.specs.Cases.{or_zero}
use Rattle.part.specs.declared.state.State.{State}
use Rattle.ground.specs.Verdict.{Verdict, accepted, refused}
use Rattle.power.specs.Promises.{ReadsRegister}
use Rattle.form.specs.Words.{bytes_of}

-- The first two words: the refusal's number, 0 for acceptance, and the place or the count of samples.
unfoldable pub opening_of : Verdict → List ℕ
opening_of (accepted n) = 0 ∷ min n 4294967295 ∷ []
opening_of (refused k p) = k ∷ min p 4294967295 ∷ []

-- The last eight words: register, counter, write time, reset active, hold, low-VCC flag, watchdog running and left.
unfoldable pub closing_of : ℕ → State → List ℕ
closing_of register s =
    register
    ∷ s.device.counter.0
    ∷ s.timers.write
    ∷ or_zero s.timers.reset 1
    ∷ s.timers.hold
    ∷ or_zero s.timers.low 1
    ∷ or_zero s.timers.watchdog.running 1
    ∷ s.timers.watchdog.left
    ∷ []

-- The bytes that close a reply: those of the last eight words, with what the register of the state reads.
pub record Closes (s : State) (bytes : List ℕ) : Type 0 where
  pub register : ℕ
  pub reads : ReadsRegister s register
  pub said : bytes ≡ bytes_of (closing_of register s)

-- What a long case is told of a state beyond those eight words: nothing so far.
abbrev pub further_told : State → List ℕ
further_told s = []

-- The words that end a reply: a long case has how many more it is told, and these; a short one has none.
unfoldable pub ending_of : Bool → State → List ℕ
ending_of true s = length (further_told s) ∷ further_told s
ending_of false s = []

-- The bytes that end a reply, if there are any.
abbrev pub ended : Option (List ℕ) → List ℕ
ended None = []
ended (Some bytes) = bytes

-- The bytes that end a reply: those of its ending words.
pub record EndsReply (long : Bool) (s : State) (t : Option (List ℕ)) : Type 0 where
  pub said : ended t ≡ bytes_of (ending_of long s)
