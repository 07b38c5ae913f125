-- How long the rows of a case are, and the room that a program has for them (docs/BENCH.md).
use Rattle.std.specs.Prelude.{◌*◌, Bool, ◌&&◌, leb}
use Rattle.form.specs.declared.headers.Header.{Header}
use Rattle.rooms.specs.declared.Lengths.{Lengths}

-- The lengths that a header asks for: an elapsed time has four bytes of the input (docs/BENCH.md).
abbrev pub asked_of : Header → Lengths
asked_of h =
    record { array = h.array; raw = h.elapsed * 4; elapsed = h.elapsed; levels = h.levels; answers = h.answers }

-- No row is longer than its room.
abbrev pub fits_of : Lengths → Lengths → Bool
fits_of case room =
    leb case.array room.array
    && (leb case.raw room.raw
    && (leb case.elapsed room.elapsed && (leb case.levels room.levels && leb case.answers room.answers)))
