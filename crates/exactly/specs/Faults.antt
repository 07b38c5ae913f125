-- The faults of a text's lines, with their places (document 01, Refusal numbers, 12 to 18). The earliest faulty line wins, and at one line
-- the lowest number.
use Rattle.std.specs.Prelude.{ℕ, ◌<◌, List, ◌≡◌}
use Rattle.exactly.specs.Lines.{LineAt, characters_of}
use Rattle.exactly.specs.Records.{WellFormed, SumsRight, type, EndType, Gives, Beyond}

-- A line before a place gives an address (Refusal numbers, 16).
pub record GivenBefore (text : List ℕ) (p a : ℕ) : Type 0 where
  pub from : ℕ
  pub to : ℕ
  pub line : LineAt text from to
  pub before : from < p
  pub gives : Gives (characters_of text from to) a

-- A line at a place gives an address that an earlier line gave (Refusal numbers, 16).
abbrev pub Twice : List ℕ → ℕ → List ℕ → Type 0
Twice text p l = (a : ℕ) × Gives l a × GivenBefore text p a

-- A line without fault that gives data (Refusal numbers, 12 to 16).
pub record GivesData (size : ℕ) (text : List ℕ) (p : ℕ) (l : List ℕ) : Type 0 where
  pub formed : WellFormed l
  pub summed : SumsRight l
  pub zero : type l ≡ 0
  pub within : ¬ Beyond size l
  pub once : ¬ Twice text p l

-- Every line before a place is such a line (Refusal numbers, the earliest place wins).
abbrev pub AllGive : ℕ → List ℕ → ℕ → Type 0
AllGive size text p = (q f : ℕ) → LineAt text q f → q < p → GivesData size text q (characters_of text q f)

-- The first line that is not such a line stands at a place, and something holds of its characters (Refusal numbers, 12 to 18).
pub record FirstAt (size : ℕ) (text : List ℕ) (p e : ℕ) (Such : List ℕ → Type 0) : Type 0 where
  pub line : LineAt text p e
  pub before : AllGive size text p
  pub such : Such (characters_of text p e)

-- The end line between two places (Refusal numbers, 17, 18).
abbrev pub EndAt : ℕ → List ℕ → ℕ → ℕ → Type 0
EndAt size text p e = FirstAt size text p e (λ l. WellFormed l × SumsRight l × EndType l)
