-- There is only one possible reply: for each public operation and every input, two outcomes that both keep what the
-- operation promises are one and the same, in every part. It rests on the promises alone. No axiom is used.
use Prim.Native.Nat.{ℕ}
use mathlib.Core.Path.{◌≡◌, refl, sym}
use Rattle.std.specs.Prelude.{Option, Some, None}
use Rattle.ground.specs.Verdict.{meant}
use Rattle.ground.proofs.Verdicts.{apart, meant-one}
use Rattle.ground.specs.Size.{size_meant}
use Rattle.power.specs.declared.Replayed.{Replayed}
use Rattle.transfers.specs.Promises.{Listed}
use Rattle.claims.specs.OneReply.{OneReply}

-- Two sizes that mean the same are the same.
pub size-one : (r q : Option ℕ) → size_meant r ≡ size_meant q → r ≡ q
unfolding size_meant
size-one (Some n) (Some m) e = cc
size-one (Some n) None e = absurd (apart 1 0 n (sym e))
size-one None (Some n) e = absurd (apart 1 0 n e)
size-one None None e = refl

-- Two pairs that are equal in both parts.
pairs : {A B : Type 0} {x y : A × B} → x.0 ≡ y.0 → x.1 ≡ y.1 → x ≡ y
pairs e f = λ i. (e i, f i)

-- Two triples that are equal in all three parts.
triples : {A B C : Type 0} {x y : A × B × C} → x.0 ≡ y.0 → x.1 ≡ y.1 → x.2 ≡ y.2 → x ≡ y
triples e f g = λ i. (e i, f i, g i)

-- Two rows of four that are equal in all of them.
fours : {A B C D : Type 0} {x y : A × B × C × D} → x.0 ≡ y.0 → x.1 ≡ y.1 → x.2 ≡ y.2 → x.3 ≡ y.3 → x ≡ y
fours e f g h = λ i. (e i, f i, g i, h i)

-- Two replies that mean the same, with equal states beside them.
replayed-one : (r q : Replayed) → meant r.reply ≡ meant q.reply → r.state ≡ q.state → r ≡ q
replayed-one r q e f = λ i. record { reply = meant-one r.reply q.reply e i; state = f i }

-- The same of a list's reply.
listed-one : (r q : Listed) → meant r.reply ≡ meant q.reply → r.state ≡ q.state → r ≡ q
listed-one r q e f = λ i. record { reply = meant-one r.reply q.reply e i; state = f i }

-- The claim: one outcome for each public operation.
pub one-reply : OneReply
one-reply =
    record {
      power-up = λ part select stored r q x y. replayed-one r q (cc) (cc);
      replay = λ s es ls array row r q x y. triples (replayed-one r.0 q.0 (cc) (cc)) (cc) (cc);
      register = λ s r q x y. cc;
      size = λ part r q x y. size-one r q (cc);
      read-image = λ part text array r q x y. pairs (meant-one r.0 q.0 (cc)) (cc);
      write-image = λ part array out r q x y. pairs (meant-one r.0 q.0 (cc)) (cc);
      tidy = λ part text out r q x y. pairs (cc) (cc);
      door-replay = λ part select stored es ls array row numbers r q x y. fours (cc) (cc) (cc) (cc);
      door-read-image = λ part text array numbers r q x y. triples (cc) (cc) (cc);
      door-write-image = λ part array out numbers r q x y. triples (cc) (cc) (cc);
      list = λ s es ls array row r q x y. triples (listed-one r.0 q.0 (cc) (cc)) (cc) (cc);
    }
