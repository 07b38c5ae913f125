-- Demand 1 and the one reply, at inputs: each operation is given something that the table refuses, and what it then says and leaves is
-- written out (document 01, Refusal numbers; Leaving no slack). Where a state is asked it is that of an X4323 at power-up, and the array
-- is all FFh. The question for the register refuses nothing, so it is among the whole outcomes only.
-- For a person from the line: one bad input for each operation, and the answer you will read.
use Rattle.std.specs.Prelude.{ℕ, List, [], ◌∷◌, ◌++◌, ◌≡◌, drop, replicate, Result, Err, Option, None}
use Rattle.ground.specs.Numbers.{x4323, x4283, small_size}
use Rattle.ground.specs.Verdict.{refused, meant}
use Rattle.ground.specs.declared.Refusal.{Refusal}
use Rattle.ground.specs.declared.Reason.TheVariants.{PartUnknown, TimeTooLong, EndMissing, RoomTooSmall}
use Rattle.ground.specs.Size.{size_meant, SizesPart}
use Rattle.part.specs.declared.state.State.{State}
use Rattle.power.specs.declared.Replayed.{Replayed}
use Rattle.power.specs.Power.{powered_up}
use Rattle.power.specs.Promises.{PowersUp, ReadsRegister}
use Rattle.twin.specs.Promises.{Replays}
use Rattle.intel.specs.Intel.{intel}
use Rattle.image.specs.Promises.{ReadsImage, WritesImage}
use Rattle.texts.specs.Laying.{Starts}
use Rattle.tidying.specs.Shown.{shown_of}
use Rattle.telling.specs.Told.{ReadsThrough, WritesThrough}
use Rattle.door.specs.Promises.{ReplaysOnce}
use Rattle.transfers.specs.Promises.{Listed}
use Rattle.transfers.specs.Promises.{Lists}
use Rattle.codes.specs.Codes.{codes_of}

-- An X4323 at power-up (State and time, power-up).
abbrev pub fresh : State
fresh = powered_up x4323 0 0

-- An array all FFh (Image files, bytes not given).
abbrev pub ones : List ℕ
ones = replicate small_size 0xFF

-- The answer row before a replay, and the row of entries before a list.
abbrev pub rows : List ℕ
rows = 0 ∷ 0 ∷ []

-- One refusal of each operation, by demand 1, and for images those of the part too (Refusal numbers, 1, 5, 9, 17 and 19, and last lines).
pub record RefusedAt : Type 0 where
  -- part 4324
  pub power-up : (r : Replayed) → PowersUp 4324 0 0 r → (meant r.reply ≡ refused 1 0) × (r.state ≡ fresh)
  pub size : (r : Option ℕ) → SizesPart 4324 r → size_meant r ≡ refused 1 0
  -- two times, the second over 100,000
  pub replay : (r : Replayed) (array' row' : List ℕ) → Replays fresh (1 ∷ 100001 ∷ []) (0 ∷ 0 ∷ []) ones rows r array' row'
      → (meant r.reply ≡ refused 9 1) × (r.state ≡ fresh) × (array' ≡ ones) × (row' ≡ rows)
  pub list : (r : Listed) (array' row' : List ℕ) → Lists fresh (1 ∷ 100001 ∷ []) (0 ∷ 0 ∷ []) ones rows r array' row'
      → (meant r.reply ≡ refused 9 1) × (r.state ≡ fresh) × (array' ≡ ones) × (row' ≡ rows)
  -- no text
  pub read-image : (r : Result ℕ Refusal) (array' : List ℕ) → ReadsImage intel x4323 [] ones r array'
      → (meant r ≡ refused 17 0) × (array' ≡ ones)
  pub tidy : (out : List ℕ) (r : ℕ) (out' : List ℕ) → Starts (shown_of x4323 []) out r out'
      → (r ≡ 5) × (out' ≡ codes_of "17 0\n" ++ drop r out)
  -- no room
  pub write-image : (r : Result ℕ Refusal) (out' : List ℕ) → WritesImage intel x4323 ones [] r out' → (meant r ≡ refused 19 0) × (out' ≡ [])
  -- images of part 4324, and of an X4283 in the smaller part's array
  pub read-image-part : (r : Result ℕ Refusal) (array' : List ℕ) → ReadsImage intel 4324 [] ones r array' → (meant r ≡ refused 1 0) × (array' ≡ ones)
  pub read-image-size : (r : Result ℕ Refusal) (array' : List ℕ) → ReadsImage intel x4283 [] ones r array' → (meant r ≡ refused 5 0) × (array' ≡ ones)
  pub tidy-part : (out : List ℕ) (r : ℕ) (out' : List ℕ) → Starts (shown_of 4324 []) out r out'
      → (r ≡ 4) × (out' ≡ codes_of "1 0\n" ++ drop r out)
  pub write-image-part : (r : Result ℕ Refusal) (out' : List ℕ) → WritesImage intel 4324 ones [] r out' → (meant r ≡ refused 1 0) × (out' ≡ [])
  pub write-image-size : (r : Result ℕ Refusal) (out' : List ℕ) → WritesImage intel x4283 ones [] r out' → (meant r ≡ refused 5 0) × (out' ≡ [])
  -- the same through the door
  pub door-power-up : (r : ℕ) (array' row' numbers' : List ℕ)
      → ReplaysOnce 4324 0 0 (1 ∷ 1 ∷ []) (0 ∷ 0 ∷ []) ones rows (7 ∷ 7 ∷ []) r array' row' numbers'
      → (r ≡ 1) × (numbers' ≡ 1 ∷ 0 ∷ []) × (array' ≡ ones) × (row' ≡ rows)
  pub door-replay : (r : ℕ) (array' row' numbers' : List ℕ)
      → ReplaysOnce x4323 0 0 (1 ∷ 100001 ∷ []) (0 ∷ 0 ∷ []) ones rows (7 ∷ 7 ∷ []) r array' row' numbers'
      → (r ≡ 1) × (numbers' ≡ 9 ∷ 1 ∷ []) × (array' ≡ ones) × (row' ≡ rows)
  pub door-read-image : (r : ℕ) (array' numbers' : List ℕ) → ReadsThrough x4323 [] ones (7 ∷ 7 ∷ []) r array' numbers'
      → (r ≡ 1) × (numbers' ≡ 17 ∷ 0 ∷ []) × (array' ≡ ones)
  pub door-write-image : (r : ℕ) (out' numbers' : List ℕ) → WritesThrough x4323 ones [] (7 ∷ 7 ∷ []) r out' numbers'
      → (r ≡ 1) × (numbers' ≡ 19 ∷ 0 ∷ []) × (out' ≡ [])
  pub door-read-image-part : (r : ℕ) (array' numbers' : List ℕ) → ReadsThrough 4324 [] ones (7 ∷ 7 ∷ []) r array' numbers'
      → (r ≡ 1) × (numbers' ≡ 1 ∷ 0 ∷ []) × (array' ≡ ones)
  pub door-write-image-part : (r : ℕ) (out' numbers' : List ℕ) → WritesThrough 4324 ones [] (7 ∷ 7 ∷ []) r out' numbers'
      → (r ≡ 1) × (numbers' ≡ 1 ∷ 0 ∷ []) × (out' ≡ [])
  -- a reply row of one number
  pub door-row-replay : (r : ℕ) (array' row' numbers' : List ℕ)
      → ReplaysOnce x4323 0 0 (1 ∷ 1 ∷ []) (0 ∷ 0 ∷ []) ones rows (7 ∷ []) r array' row' numbers'
      → (r ≡ 0) × (numbers' ≡ 7 ∷ []) × (array' ≡ ones) × (row' ≡ rows)
  pub door-row-read-image : (r : ℕ) (array' numbers' : List ℕ) → ReadsThrough x4323 [] ones (7 ∷ []) r array' numbers'
      → (r ≡ 0) × (numbers' ≡ 7 ∷ []) × (array' ≡ ones)
  pub door-row-write-image : (r : ℕ) (out' numbers' : List ℕ) → WritesThrough x4323 ones [] (7 ∷ []) r out' numbers'
      → (r ≡ 0) × (numbers' ≡ 7 ∷ []) × (out' ≡ [])

-- The same refusals as whole outcomes, and the register of that part: there is no other (Leaving no slack, only one possible reply).
pub record OneAt : Type 0 where
  pub power-up : (r : Replayed) → PowersUp 4324 0 0 r → r ≡ record { reply = Err (record { reason = PartUnknown; place = 0 }); state = fresh }
  pub size : (r : Option ℕ) → SizesPart 4324 r → r ≡ None
  pub replay : (r : Replayed) (array' row' : List ℕ) → Replays fresh (1 ∷ 100001 ∷ []) (0 ∷ 0 ∷ []) ones rows r array' row'
      → ◌≡◌ {A = Replayed × List ℕ × List ℕ} (r, array', row') (record { reply = Err (record { reason = TimeTooLong; place = 1 }); state = fresh }, ones, rows)
  pub list : (r : Listed) (array' row' : List ℕ) → Lists fresh (1 ∷ 100001 ∷ []) (0 ∷ 0 ∷ []) ones rows r array' row'
      → ◌≡◌ {A = Listed × List ℕ × List ℕ} (r, array', row') (record { reply = Err (record { reason = TimeTooLong; place = 1 }); state = fresh }, ones, rows)
  pub register : (r : ℕ) → ReadsRegister fresh r → r ≡ 0
  pub read-image : (r : Result ℕ Refusal) (array' : List ℕ) → ReadsImage intel x4323 [] ones r array'
      → ◌≡◌ {A = Result ℕ Refusal × List ℕ} (r, array') (Err (record { reason = EndMissing; place = 0 }), ones)
  pub write-image : (r : Result ℕ Refusal) (out' : List ℕ) → WritesImage intel x4323 ones [] r out'
      → ◌≡◌ {A = Result ℕ Refusal × List ℕ} (r, out') (Err (record { reason = RoomTooSmall; place = 0 }), [])
  pub tidy : (out : List ℕ) (r : ℕ) (out' : List ℕ) → Starts (shown_of x4323 []) out r out'
      → ◌≡◌ {A = ℕ × List ℕ} (r, out') (5, codes_of "17 0\n" ++ drop 5 out)
  pub door-power-up : (r : ℕ) (array' row' numbers' : List ℕ)
      → ReplaysOnce 4324 0 0 (1 ∷ 1 ∷ []) (0 ∷ 0 ∷ []) ones rows (7 ∷ 7 ∷ []) r array' row' numbers'
      → ◌≡◌ {A = ℕ × List ℕ × List ℕ × List ℕ} (r, array', row', numbers') (1, ones, rows, 1 ∷ 0 ∷ [])
  pub door-replay : (r : ℕ) (array' row' numbers' : List ℕ)
      → ReplaysOnce x4323 0 0 (1 ∷ 100001 ∷ []) (0 ∷ 0 ∷ []) ones rows (7 ∷ 7 ∷ []) r array' row' numbers'
      → ◌≡◌ {A = ℕ × List ℕ × List ℕ × List ℕ} (r, array', row', numbers') (1, ones, rows, 9 ∷ 1 ∷ [])
  pub door-read-image : (r : ℕ) (array' numbers' : List ℕ) → ReadsThrough x4323 [] ones (7 ∷ 7 ∷ []) r array' numbers'
      → ◌≡◌ {A = ℕ × List ℕ × List ℕ} (r, array', numbers') (1, ones, 17 ∷ 0 ∷ [])
  pub door-write-image : (r : ℕ) (out' numbers' : List ℕ) → WritesThrough x4323 ones [] (7 ∷ 7 ∷ []) r out' numbers'
      → ◌≡◌ {A = ℕ × List ℕ × List ℕ} (r, out', numbers') (1, [], 19 ∷ 0 ∷ [])
