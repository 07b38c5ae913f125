-- What the inner functions promise each other.
use Rattle.std.specs.Prelude.{ℕ, List, ◌≡◌, Result, MatchResult}
use Rattle.ground.specs.Verdict.{number_of}
use Rattle.ground.specs.declared.Refusal.{Refusal}
use Rattle.texts.specs.Refusal.{refusal_line}
use Rattle.texts.specs.Laying.{Starts}
use Rattle.tidying.specs.Shown.{shown_of}

-- What is shown of a text starts the buffer; or it is the refusal's line, and the buffer is as it was.
pub record Tidies (part : ℕ) (text out : List ℕ) (r : Result ℕ Refusal) (out' : List ℕ) : Type 0 where
  pub cases : MatchResult r
      (λ n. Starts (shown_of part text) out n out')
      (λ k. (shown_of part text ≡ refusal_line (number_of k.reason) k.place) × (out' ≡ out))
