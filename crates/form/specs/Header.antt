-- The sixteen words that open a case, and the sixteen more of a long one (docs/BENCH.md).
use Rattle.std.specs.Prelude.{ℕ, ◌%◌, List, leb, get_or}
use Rattle.part.specs.declared.state.State.{State}
use Rattle.form.specs.Fields.{given, put_in_of}
use Rattle.form.specs.Further.{no_further, further_of, further_in}
use Rattle.form.specs.declared.fields.Preset.{Preset}
use Rattle.form.specs.declared.headers.Header.{Header}

-- Bit 31 of the array's length: a long case has it set.
abbrev pub long_mark : ℕ
long_mark = 0x80000000

-- The last eight words: what is put into the state, in the order of the words.
abbrev pub preset_of : List ℕ → Preset
preset_of ws =
    record {
      counter = given (get_or ws 8 0);
      bits = given (get_or ws 9 0);
      write = given (get_or ws 10 0);
      hold = given (get_or ws 11 0);
      watchdog = given (get_or ws 12 0);
      part = given (get_or ws 13 0);
      select = given (get_or ws 14 0);
      stored = given (get_or ws 15 0);
    }

-- The first eight words: the power-up, the count of replays and four lengths, one with the mark of a long case; then the rest.
abbrev pub header_of : List ℕ → Header
header_of ws =
    record {
      part = get_or ws 0 0;
      select = get_or ws 1 0;
      stored = get_or ws 2 0;
      times = get_or ws 3 0;
      long = leb long_mark (get_or ws 4 0);
      array = get_or ws 4 0 % long_mark;
      elapsed = get_or ws 5 0;
      levels = get_or ws 6 0;
      answers = get_or ws 7 0;
      preset = preset_of ws;
      further = no_further;
    }

-- A header with sixteen words more.
abbrev pub longer_of : Header → List ℕ → Header
longer_of h ws =
    record {
      part = h.part;
      select = h.select;
      stored = h.stored;
      times = h.times;
      long = h.long;
      array = h.array;
      elapsed = h.elapsed;
      levels = h.levels;
      answers = h.answers;
      preset = h.preset;
      further = further_of ws;
    }

-- A state with all words of a header put in; a byte is loaded where the counter stands then.
unfoldable pub state_of : Header → State → State
state_of h s = further_in h.further (put_in_of h.preset s)
