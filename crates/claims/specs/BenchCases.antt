-- The bench cases in one list (document 01, Bench cases): those of captures, said of a part that has just been powered up; those of the
-- lock, said of every kind of part or by part number; those of images. P1 to P11 are the paper's; S1 to S30 are worked by hand from its rules.
-- For a person from the line: the eleven cases of the bench, as they stand on the sheet, and others that each rule can be told by.
use Rattle.ground.specs.declared.kinds.Kind.{Kind}
use Rattle.run_cases.specs.RunCases.{P1, P5, P6, P7, P8, P9}
use Rattle.lock_cases.specs.LockCases.{P2, P3, P4, P4Larger, S10, S11, S12, S13, S24}
use Rattle.sheet_cases.specs.ReadCases.{S1, S2, S3, S25, S26}
use Rattle.sheet_cases.specs.WatchCases.{S4, S5, S28}
use Rattle.sheet_cases.specs.LatchCases.{S6, S7, S8, S9}
use Rattle.sheet_cases.specs.BlockCases.{S14, S27}
use Rattle.talk_cases.specs.ResetCases.{S15, S16, S17, S18}
use Rattle.talk_cases.specs.TalkCases.{S19, S20, S21, S22, S23}
use Rattle.talk_cases.specs.CutCases.{S29, S30}
use Rattle.image_cases.specs.ImageCases.{P10, P11}

-- The bench cases in one list, P1 and P5 to P9 for all four parts, S1 to S30 for those that a case tells by (Bench cases).
pub record BenchCases : Type 0 where
  pub p1 : P1 4323 4096 1 3 × P1 4325 4096 3 1 × P1 4283 16384 1 3 × P1 4285 16384 3 1
  pub p2 : (k : Kind) → P2 k
  pub p3 : (k : Kind) → P3 k
  pub p4 : P4 4323 × P4 4325
  pub p4-larger : P4Larger 4283 × P4Larger 4285
  pub p5 : P5 4323 4096 × P5 4325 4096 × P5 4283 16384 × P5 4285 16384
  pub p6 : P6 4323 4096 2 3 × P6 4325 4096 0 1 × P6 4283 16384 2 3 × P6 4285 16384 0 1
  pub p7 : P7 4323 4096 × P7 4325 4096 × P7 4283 16384 × P7 4285 16384
  pub p8 : P8 4323 4096 × P8 4325 4096 × P8 4283 16384 × P8 4285 16384
  pub p9 : P9 4323 4096 7 3 × P9 4325 4096 5 1 × P9 4283 16384 7 3 × P9 4285 16384 5 1
  pub p10 : P10
  pub p11 : P11
  pub s1 : S1 4323
  pub s2 : S2 4323
  pub s3 : S3 4323
  pub s4 : S4 4323
  pub s5 : S5 4323 1 3 × S5 4325 3 1
  pub s6 : S6 4323 2 3 7 × S6 4325 0 1 5
  pub s7 : S7 4323
  pub s8 : S8 4323
  pub s9 : S9 4323 3
  pub s10 : S10
  pub s11 : (k : Kind) → S11 k
  pub s12 : (k : Kind) → S12 k
  pub s13 : (k : Kind) → S13 k
  pub s14 : S14
  pub s15 : S15 4323 1 3 × S15 4325 3 1
  pub s16 : S16 4323 7 5 1 × S16 4325 5 7 3
  pub s17 : S17
  pub s18 : S18
  pub s19 : S19
  pub s20 : S20
  pub s21 : S21
  pub s22 : S22
  pub s23 : S23
  pub s24 : S24 4323 × S24 4325
  pub s25 : S25 4283
  pub s26 : S26 4285
  pub s27 : S27
  pub s28 : S28 4323
  pub s29 : S29 4323 4096 3 7 × S29 4285 16384 1 5
  pub s30 : S30 4323 4096 × S30 4285 16384
