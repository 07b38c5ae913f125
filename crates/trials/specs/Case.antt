-- A case from its header and rows to all that is written for it (docs/BENCH.md).
use Rattle.std.specs.Prelude.{ℕ, List, ◌≡◌, IfSome}
use Rattle.std.specs.Option.{is_some}
use Rattle.form.specs.declared.headers.Header.{Header}
use Rattle.trials.specs.declared.cases.Said.{Said}
use Rattle.form.specs.Words.{bytes_of}
use Rattle.trials.specs.Trial.{up_of, ran_by, tried_of}
use Rattle.replies.specs.Reply.{opening_of, Closes, EndsReply}

-- A reply: opening bytes of the last verdict; after an accepted power-up row, array, closing bytes and tail of the last replay.
pub record Answers (h : Header) (es ls array row : List ℕ) (r : Said) (array' row' : List ℕ) : Type 0 where
  pub ran : is_some r.rest ≡ ran_by (up_of h)
  pub opening : r.opening ≡ bytes_of (opening_of (tried_of h es ls array row).verdict)
  pub answers : row' ≡ (tried_of h es ls array row).row
  pub kept : array' ≡ (tried_of h es ls array row).part.array
  pub closing : IfSome r.rest (λ x. Closes (tried_of h es ls array row).part.state x.closing)
  pub tail : IfSome r.rest (λ x. EndsReply h.long (tried_of h es ls array row).part.state x.tail)
