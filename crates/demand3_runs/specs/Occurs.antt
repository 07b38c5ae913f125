-- Demand 3 is not empty: runs that reach an unequal bit, that are covered before, and that do neither. Two parts of select 0, X4323 or
-- X4283, whose arrays differ at one address in one bit (demand 3; document 01, State and time, a byte being sent).
-- For a person from the line: recordings in which the two chips can be told apart, and such in which they cannot, with the sample at which it happens.
use Rattle.std.specs.Prelude.{ℕ, Bool, true, false, List, [], ◌∷◌, ◌++◌, ◌≡◌, length, set, replicate}
use Rattle.ground.specs.Numbers.{x4323, x4283, write_time}
use Rattle.ground.specs.Kind.{kind_of}
use Rattle.sample.specs.Run.{Part, part_step}
use Rattle.power.specs.Power.{at_power}
use Rattle.demand3.specs.Sending.{nothing}
use Rattle.demand3.specs.Differ.{When, never, sample, EqualBut, first_reach, first_diff, first_cover, elsewhere, sent_after, covers_none}
use Rattle.waves.specs.Waves.{Capture, joined, up_to, after, brisk, wait, awake, stop, clocks, sent, addressed, page_write, register_write, read_from}
use Rattle.runs.specs.Runs.{after_capture, answers_to, Taken}
use Rattle.demand3_runs.specs.Under.{Step, holds_for}

-- The address at which the arrays differ.
abbrev pub spot : ℕ
spot = 0x0345

-- An address that only the larger part has.
abbrev pub far_spot : ℕ
far_spot = 0x1345

-- A part at power-up with a stored control byte, its array all FFh but for an address (State and time, power-up).
abbrev pub holding_at : ℕ → ℕ → ℕ → ℕ → Part
holding_at part stored a v = at_power part 0 stored (set (replicate (kind_of part).size 0xFF) a v)

-- One part, an X4323, holds 0100 1100 at the address, nothing is locked.
abbrev pub left : Part
left = holding_at x4323 0x00 spot 0x4C

-- The other holds 0101 1100: the fourth bit is unequal.
abbrev pub right : Part
right = holding_at x4323 0x00 spot 0x5C

-- The one with everything locked, BP code 3 (Control register).
abbrev pub locked_left : Part
locked_left = holding_at x4323 0x18 spot 0x4C

-- The other with everything locked.
abbrev pub locked_right : Part
locked_right = holding_at x4323 0x18 spot 0x5C

-- The one as an X4283, with code 1, which locks another block (Control register; request 2026-01).
abbrev pub far_left : Part
far_left = holding_at x4283 0x08 far_spot 0x4C

-- The other as an X4283.
abbrev pub far_right : Part
far_right = holding_at x4283 0x08 far_spot 0x5C

-- An address is read (Bytes on the wire, read).
abbrev pub read_at : ℕ → Capture
read_at a = joined (awake ++ brisk (read_from 0 a 1) ∷ [])

-- The address is read (Bytes on the wire, read).
abbrev pub read_it : Capture
read_it = read_at spot

-- Another address is read (Bytes on the wire, read).
abbrev pub read_other : Capture
read_other = read_at 0x0346

-- A byte is sent to the address, and after the write time the address is read (Bytes on the wire, array data, stop, read).
abbrev pub write_and_read : List Capture
write_and_read = brisk (page_write 0 spot (0x77 ∷ [])) ∷ wait write_time ∷ brisk (read_from 0 spot 1) ∷ []

-- That with WEL low, so that the byte is withheld (Bytes on the wire, array data).
abbrev pub unset_write : Capture
unset_write = joined (awake ++ write_and_read)

-- That with WEL set (Control register, RWEL low).
abbrev pub set_write : Capture
set_write = joined (awake ++ brisk (register_write 0 0x02) ∷ write_and_read)

-- With WEL set, a byte is sent to the address and three bits of another, then the stop: the write is cut; after the write time the address is
-- read (request 2026-02).
abbrev pub cut_write : Capture
cut_write =
    joined
    (awake
    ++ brisk (register_write 0 0x02)
    ∷ brisk (addressed 0 spot ++ sent 0x77 ++ clocks 3 0 ++ stop)
    ∷ wait write_time
    ∷ brisk (read_from 0 spot 1)
    ∷ [])

-- So many samples into that capture comes the stop.
abbrev pub cut_stop_at : ℕ
cut_stop_at = 239

-- So many into the one that is not cut.
abbrev pub whole_stop_at : ℕ
whole_stop_at = 230

-- So many samples into the read the byte has been fetched and its second bit is out.
abbrev pub part_way : ℕ
part_way = 121

-- The state there over the array of a part: the byte being sent was fetched before (State and time, a byte being sent).
abbrev pub midway : Part → Part
midway p = record { state = (after_capture (up_to part_way read_it) left).state; array = p.array }

-- Another address is read, then the address is covered, with WEL set (Bytes on the wire, array data, stop, read).
abbrev pub read_then_write : Capture
read_then_write = joined (awake ++ brisk (read_from 0 0x0346 1) ∷ brisk (register_write 0 0x02) ∷ write_and_read)

-- The read cut off after its third bit: the byte of the address is being sent, and only equal bits have been out.
abbrev pub cut_read : Capture
cut_read = up_to 124 read_it

-- The byte being sent after a capture, as far as it is not sent yet (State and time, a byte being sent).
abbrev pub still_held : Part → Capture → ℕ
still_held p c = (after_capture c p).state.device.talk.out

-- Demand 3 of a step, two parts and a capture, as far as it is computed: see holds_for (demand 3).
abbrev pub holds_of : Step → Part → Part → Capture → Bool
holds_of step p q c = holds_for step spot c.times c.levels p q

-- Nothing fetched from the address is being sent after a capture (demand 3).
abbrev pub elsewhere_after : Capture → Bool
elsewhere_after c = elsewhere spot (sent_after c.times c.levels left nothing)

-- No sample of a capture covers the address (demand 3).
abbrev pub uncovered_by : Capture → Bool
uncovered_by c = covers_none spot c.times c.levels left

-- Under the sheet's rules: where a bit is reached and the answers differ, where an address is covered; demand 3 holds.
pub record RunsAt (a : ℕ) (p q : Part) (c : Capture) (reach cover : When) : Type 0 where
  pub taken : Taken c p
  pub reached : first_reach a 0 c.times c.levels p q nothing nothing ≡ reach
  pub differ : first_diff 0 (answers_to c p) (answers_to c q) ≡ reach
  pub covered : first_cover a 0 c.times c.levels p ≡ cover
  pub demanded : holds_for part_step a c.times c.levels p q ≡ true

-- The same of the address of the smaller parts (demand 3).
abbrev pub RunsTo : Part → Part → Capture → When → When → Type 0
RunsTo p q c reach cover = RunsAt spot p q c reach cover

-- The runs, all computed (demand 3).
pub record Occurs : Type 0 where
  -- the arrays are as demand 3 asks
  pub arrays : EqualBut spot left.array right.array
  pub size : length left.array ≡ (kind_of x4323).size
  pub read : RunsTo left right read_it (sample 126) never
  pub other : RunsTo left right read_other never never
  pub write : RunsTo left right set_write never (sample whole_stop_at)
  pub unset : RunsTo left right unset_write (sample 241) never
  pub locked : RunsTo locked_left locked_right set_write (sample 355) never
  -- a write that is cut covers nothing, and the read after it differs
  pub half : RunsTo left right cut_write (sample 364) never
  pub before : RunsTo (midway left) (midway right) (after part_way read_it) never never
  pub passed : RunsTo left right read_then_write never (sample 375)
  -- what is being sent, and whether a write covers
  pub from : (elsewhere_after cut_read ≡ false) × (elsewhere_after (up_to 124 read_other) ≡ true)
  pub covering : (uncovered_by unset_write ≡ true) × (uncovered_by set_write ≡ false) × (uncovered_by cut_write ≡ true)
  -- cut off before the unequal bit, the states differ in the byte being sent, and in nothing else by demand 3
  pub cut : RunsTo left right cut_read never never
  pub held : (still_held left cut_read ≡ 0x30) × (still_held right cut_read ≡ 0x70)
  -- of the larger part, above 0FFFh
  pub far : EqualBut far_spot far_left.array far_right.array
  pub far-read : RunsAt far_spot far_left far_right (read_at far_spot) (sample 126) never
