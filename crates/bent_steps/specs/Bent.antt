-- Four steps that bend one rule each, and for each of them runs for which demand 3 fails and for which it still holds: demand 3
-- tells a part that does these from one that does not (demand 3; document 01, Bytes on the wire; State and time, a byte being sent).
-- For a person from the line: four chips that each break one rule, and the recordings that give them away.
use Rattle.std.specs.Prelude.{ℕ, zero, suc, ◌+◌, ◌-◌, ◌*◌, ◌/◌, ◌%◌, ◌^◌, Bool, true, false, List, ◌≡◌}
use Rattle.ground.specs.Cases.{odd}
use Rattle.ground.specs.Kind.{kind_of}
use Rattle.ground.specs.Numbers.{most_bits, byte_values}
use Rattle.page.specs.Page.{at, byte_at}
use Rattle.part.specs.declared.state.Load.{Load}
use Rattle.part.specs.declared.state.Phase.TheVariants.{Send}
use Rattle.part.specs.declared.state.Place.{Place}
use Rattle.part.specs.declared.state.State.{State}
use Rattle.part.specs.declared.state.Talk.{Talk}
use Rattle.wire.specs.Sign.{pushed, clean_frame}
use Rattle.wire.specs.declared.Sign.TheVariants.{Quiet, Start, Stop, Bit, Byte, Ninth}
use Rattle.part.specs.State.{with_wire, with_device, with_load, with_talk, with_out, with_control, with_stored, with_wel}
use Rattle.address.specs.Talk.{sending}
use Rattle.sample.specs.Sample.{opens_of, Seen, unseen, sees, seen_of}
use Rattle.sample.specs.Run.{Part, part_step}
use Rattle.waves.specs.Waves.{Capture, after}
use Rattle.demand3.specs.Sending.{Sent, nothing, sends, sends_array, sent_of}
use Rattle.demand3.specs.Differ.{When, never, sample}
use Rattle.demand3_runs.specs.Under.{Step, diff_under}
use Rattle.demand3_runs.specs.Occurs.{left, right, locked_left, locked_right, read_it, set_write, unset_write, cut_write, part_way, midway, holds_of}

-- The part with another talk.
abbrev pub with_talk_of : Part → Talk → Part
with_talk_of p t = record { state = with_device p.state (with_talk p.state.device t); array = p.array }

-- The lowest n bits of a number in the other order, after those already taken.
abbrev pub mirrored : ℕ → ℕ → ℕ → ℕ
mirrored zero v taken = taken
mirrored (suc n) v taken = mirrored n (v / 2) (pushed taken (odd v))

-- A byte that a sample fetched is sent from its other end.
abbrev pub turned : Sent → Part → Part
turned nothing p = p
turned (sends a v n) p = with_talk_of p (sending Send (mirrored most_bits v 0))

-- Bent: the lowest bit of a byte goes out first (against Bytes on the wire, read, its highest bit goes out).
unfoldable pub lowest_first : Step
lowest_first e l p = turned (sent_of e l p nothing) (part_step e l p)

-- The place that the byte being sent came from: the one before the counter (Bytes on the wire, read).
abbrev pub comes_from : State → Place
comes_from s = at ((s.device.counter.0 + ((kind_of s.chip.part).size - 1)) % (kind_of s.chip.part).size)

-- The byte being sent, taken from the array as it is now, less the bits that are committed.
abbrev pub reread : State → List ℕ → ℕ
reread s array = byte_at array (comes_from s) * 2 ^ s.wire.frame.bits % byte_values

-- A part that sends array bytes holds the byte anew.
abbrev pub refreshed : Bool → Part → Part
refreshed false p = p
refreshed true p = with_talk_of p (with_out p.state.device.talk (reread p.state p.array))

-- Bent: each bit comes from the array as it is then (against State and time, a byte being sent stays in the state).
unfoldable pub reads_anew : Step
reads_anew e l p = part_step e l (refreshed (sends_array p.state.device.talk.phase) p)

-- The part with WEL set and no block locked.
abbrev pub permitted : Part → Part
permitted p =
    record {
      state = with_device p.state (with_control p.state.device (with_wel (with_stored p.state.device.control 0) true));
      array = p.array;
    }

-- The part with another load.
abbrev pub loaded_with : Part → Load → Part
loaded_with p l = record { state = with_load p.state l; array = p.array }

-- Bent: a byte is put in the load though its acknowledge is withheld (against Bytes on the wire, array data, nothing kept).
unfoldable pub keeps_withheld : Step
keeps_withheld e l p = loaded_with (part_step e l p) (part_step e l (permitted p)).state.load

-- The part as a stop would find it with no bit committed; at any other sign as it is.
abbrev pub uncut : Seen → Part → Part
uncut unseen p = p
uncut (sees Quiet) p = p
uncut (sees Start) p = p
uncut (sees (Stop n)) p =
    record { state = with_wire p.state (record { lines = p.state.wire.lines; frame = clean_frame }); array = p.array }
uncut (sees Bit) p = p
uncut (sees (Byte v)) p = p
uncut (sees (Ninth b)) p = p

-- Bent: a stop writes the load though it cuts a byte off (against request 2026-02).
unfoldable pub writes_cut : Step
writes_cut e l p = part_step e l (uncut (seen_of l (opens_of e l p.state)) p)

-- Under a bent step: where the answers differ; demand 3 fails.
pub record Breaks (step : Step) (p q : Part) (c : Capture) (first : When) : Type 0 where
  pub differ : diff_under step c.times c.levels p q ≡ first
  pub fails : holds_of step p q c ≡ false

-- Each bent step breaks demand 3 in a run, and spares it in another (demand 3).
pub record BentSteps : Type 0 where
  pub lowest : Breaks lowest_first left right read_it (sample 129)
  pub lowest-spares : holds_of lowest_first left right set_write ≡ true
  pub anew : Breaks reads_anew (midway left) (midway right) (after part_way read_it) (sample 5)
  pub anew-spares : holds_of reads_anew left right read_it ≡ true
  pub kept-unset : Breaks keeps_withheld left right unset_write never
  pub kept-locked : Breaks keeps_withheld locked_left locked_right set_write never
  pub kept-spares : holds_of keeps_withheld left right read_it ≡ true
  pub cut : Breaks writes_cut left right cut_write never
  pub cut-spares : holds_of writes_cut left right set_write ≡ true
