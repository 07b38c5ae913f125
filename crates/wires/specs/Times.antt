-- The number of a time line (request 2026-03, refusal 20: time over 4,294,967,295; docs/DECISIONS.md, "2026-03, times").
use Rattle.std.specs.Prelude.{ℕ, ◌+◌, ◌*◌, min, Bool, true, false, ltb, List, Option, None}
use Rattle.std.specs.Bool.{then_some}
use Rattle.digits.specs.Digits.{within}
use Rattle.words.specs.Words.{decimal_base, figure_of, numeral, figures_value}

-- The highest time (2026-03, refusal 20).
abbrev pub highest_time : ℕ
highest_time = 4294967295

-- What stands for a time that is none: one more than the highest (2026-03, refusal 20).
abbrev pub no_time : ℕ
no_time = highest_time + 1

-- Digits alone are a time, leading zeros taken (2026-03, times).
abbrev pub time_by : Bool → ℕ → ℕ
time_by true n = min n no_time
time_by false n = no_time

-- The time that characters give (2026-03, times: digits only).
unfoldable pub time_of : List ℕ → ℕ
time_of ds = time_by (numeral decimal_base ds) (figures_value decimal_base ds)

-- A number with one more digit, if it is a digit and the number is a time.
abbrev pub digit_by : Bool → ℕ → Option ℕ
digit_by true n = then_some (ltb n no_time) n
digit_by false n = None

-- The same of a character, whose value as a figure is the digit (2026-03, times: digits only).
abbrev pub with_digit : ℕ → ℕ → Option ℕ
with_digit so_far c = digit_by (within 0x30 0x39 c) (so_far * decimal_base + figure_of c)
