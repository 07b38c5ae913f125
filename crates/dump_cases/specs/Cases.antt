-- Dumps that were worked by hand (request 2026-03), each given as its text.
-- For a person from the line: files with the gaps and the faults that the request speaks of, and what comes of each.
use Rattle.std.specs.Prelude.{ℕ, ◌+◌, ◌*◌, ◌≤◌, List, [], ◌∷◌, ◌++◌, ◌≡◌}
use Rattle.codes.specs.Codes.{codes_of}
use Rattle.ground.specs.Verdict.{accepted, refused}
use Rattle.dumps.specs.Samples.{Sample, samples_in, repeats_of, rest_of}
use Rattle.dumps.specs.Faults.{dump_verdict}

-- Definitions of the four wires, on one line, with the codes ! ~ # and $.
abbrev pub wires : List ℕ
wires =
    codes_of "$timescale 1 us $end $scope module bus $end $var wire 1 ! SCL $end $var wire 1 ~ SDA $end $var wire 1 # WP $end $var wire 1 $ VCC $end $upscope $end $enddefinitions $end\n"

-- A dump with these definitions.
abbrev pub dumped : List ℕ → List ℕ
dumped body = wires ++ body

-- A sample.
abbrev pub at : ℕ → ℕ → Sample
at elapsed level = record { elapsed = elapsed; level = level }

-- The cases: what samples a dump has, and its verdict.
pub record DumpCases : Type 0 where
  -- gaps of 100,000, 100,001 and 200,000; the first sample has elapsed 0
  pub gap-100000 : samples_in (dumped (codes_of "#7 1! 1~ 0# 1$\n#100007 0!\n")) ≡ at 0 11 ∷ at 100000 10 ∷ []
  pub gap-100001 : samples_in (dumped (codes_of "#7 1! 1~ 0# 1$\n#100008 0!\n")) ≡ at 0 11 ∷ at 100000 11 ∷ at 1 10 ∷ []
  pub gap-200000 : samples_in (dumped (codes_of "#7 1! 1~ 0# 1$\n#200007 0!\n")) ≡ at 0 11 ∷ at 100000 11 ∷ at 100000 10 ∷ []
  -- the longest gap; and of every gap: its repeats and what they leave make it up, what is left is at most 100,000, and no fewer repeats
  -- would leave that little
  pub longest-gap : (repeats_of 4294967295 ≡ 42949) × (rest_of 4294967295 ≡ 67295)
  pub whole-gap : (gap : ℕ) → repeats_of gap * 100000 + rest_of gap ≡ gap
  pub short-rest : (gap : ℕ) → rest_of gap ≤ 100000
  pub fewest-repeats : (gap n : ℕ) → gap ≤ n * 100000 + 100000 → repeats_of gap ≤ n
  -- the last value up to the next time line counts; z on SDA is high
  pub last-value : samples_in (dumped (codes_of "#0 1! 0~ 0# 1$ z~\n#1 0! 1! 0!\n")) ≡ at 0 11 ∷ at 1 10 ∷ []
  -- a comment, dumped values inside a time, a wire that is skipped, an alias, and carriage returns
  pub dumped-values : samples_in (dumped (codes_of "$comment any $var $end #3\r\n$dumpvars 1!\r\n1~ 0# 1$ $end\r\n#5 $comment #6 $end 0!")) ≡ at 0 11 ∷ at 2 10 ∷ []
  pub alias :
      samples_in (codes_of "$timescale 1us $end $scope fork b $end $var wire 1 a SCL $end $var wire 1 a VCC $end $var wire 1 long SDA $end $var wire 1 c WP $end $var wire 1 d led $end $upscope $end $enddefinitions $end #0 1a zlong 0c xd #1 0long")
      ≡ at 0 11 ∷ at 1 9 ∷ []
  -- a text that ends inside a time line, and the highest times
  pub cut-time : dump_verdict (dumped (codes_of "#0 1! 1~ 0# 1$\n#4294967295\n#")) ≡ refused 20 4
  pub highest-time : dump_verdict (dumped (codes_of "#4294967294 1! 1~ 0# 1$\n#4294967295\n")) ≡ accepted 2
  -- 20: no text; a time that is too high; a value before the first time line; an undeclared code
  pub no_text : dump_verdict [] ≡ refused 20 1
  pub time-too-high : dump_verdict (dumped (codes_of "#0 1! 1~ 0# 1$\n#4294967296\n")) ≡ refused 20 3
  pub value-before-time : dump_verdict (dumped (codes_of "1!\n#0\n")) ≡ refused 20 2
  pub undeclared : dump_verdict (dumped (codes_of "#0 1! 1~ 0# 1$ 1%\n")) ≡ refused 20 2
  -- 21: a wire that is missing, one that is named twice
  pub missing : dump_verdict (codes_of "$timescale 1us $end $scope module bus $end\n$var wire 1 ! SCL $end\n$upscope $end\n$enddefinitions $end\n") ≡ refused 21 4
  pub twice : dump_verdict (codes_of "$timescale 1us $end $scope module bus $end\n$var wire 1 ! SCL $end\n$var wire 1 ~ SCL $end\n$upscope $end\n") ≡ refused 21 3
  -- 22: a time that is not above the one before
  pub same-time : dump_verdict (dumped (codes_of "#5 1! 1~ 0# 1$\n#5\n")) ≡ refused 22 3
  -- 23: x on a wanted wire, z on SCL, a wire without a value at the second time line and at the end, no time line
  pub x-on-wp : dump_verdict (dumped (codes_of "#0 1! 1~ x# 1$\n#1\n")) ≡ refused 23 2
  pub z-on-scl : dump_verdict (dumped (codes_of "#0 1! 1~ 0# 1$\n#1 z!\n")) ≡ refused 23 3
  pub no_value : dump_verdict (dumped (codes_of "#0 1! 1~ 0#\n#1 1$\n")) ≡ refused 23 3
  pub no-value-at-end : dump_verdict (dumped (codes_of "#0 1! 1~ 0#\n\n")) ≡ refused 23 3
  pub no-time : dump_verdict (dumped []) ≡ refused 23 1
  -- at one line the lower number wins, though it comes later; an earlier line wins whatever its number
  pub later-20-wins : dump_verdict (dumped (codes_of "#0 1! 1~ x# 1$ $date\n")) ≡ refused 20 2
  pub later-22-wins : dump_verdict (dumped (codes_of "#5 1! 1~ 0# 1$\n#6 x! #6\n")) ≡ refused 22 3
  pub earlier-23-wins : dump_verdict (dumped (codes_of "#0 x! 1~ 0# 1$\nnothing\n")) ≡ refused 23 2
