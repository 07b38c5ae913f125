-- Laws of hearing a moment token after token: no fault so far, and what is left gives the same moments. Assumes nothing.
use Prim.Native.Nat.{ℕ, ◌-◌, ◌≤◌}
use mathlib.Core.Bool.{true, false, true≢false}
use mathlib.Core.List.{List, []}
use mathlib.Core.Path.{◌≡◌, refl, ap, sym, ◌∙◌}
use native.Mathlib.Omega.{arith}
use lib.Dec.{ltb}
use lib.ListN.{length, take, drop}
use borrow.Author.Tests.{lt-ltb}
use Rattle.std.specs.Prelude.{Option, Some, None}
use Rattle.std.specs.Option.{is_some}
use Rattle.tokens.specs.Tokens.{tokens_from}
use Rattle.tokens.specs.Parts.{FindsWord}
use Rattle.wires.specs.Wires.{laid}
use Rattle.wires.specs.Values.{unfit, level_of}
use Rattle.dumps.specs.Reading.{says_of, is_between}
use Rattle.dumps.specs.Defined.{body_at}
use Rattle.dumps.specs.Faults.{fault_if, end_by, late_of, unfinished}
use Rattle.ground.specs.declared.Reason.{Reason}
use Rattle.headings.specs.Parts.{number_in, joined_of, no_fault}
use Rattle.headings.proofs.FaultLaws.{join-none}
use Rattle.changes.specs.declared.Mode.{Mode}
use Rattle.changes.specs.declared.Mode.TheVariants.{Between}
use Rattle.changes.specs.declared.Change.{Change}
use Rattle.changes.specs.declared.Change.TheVariants.{Time, Value, Moves}
use Rattle.changes.specs.Parts.{place_of, change_meant}
use Rattle.judging.specs.declared.Heard.{Heard}
use Rattle.judging.specs.Parts.{most_counted, taken_by}
use Rattle.judging.specs.Kept.{reading_at, Kept}
use Rattle.judging.proofs.Turns.{turn-moves, turn-value, turn-time, accepted-end}
use Rattle.pieces.proofs.Turns.{time-between}
use Rattle.pieces.proofs.Reading.{Moving, moving-value, moving-moves, moves-time, moves-none}
use Rattle.one_reading.specs.Promises.{Faulty}
use Rattle.one_reading.specs.Parts.{ClosesAt}
use Rattle.one_reading.proofs.Refused.{first-is, kept-faulty, breaks-faulty, end-faulty}

-- Heard so far without a fault.
pub record Hearing (dump : List ℕ) (from level at line : ℕ) (mode : Mode) (heard : Heard) (levels : ℕ) : Type 0 where
  pub kept : Kept dump at line no_fault mode heard
  pub begun : 1 ≤ heard.lines
  pub moving : Moving dump from level at line mode levels

pub hearing-first : (dump : List ℕ) (from level line : ℕ) (heard : Heard) → Kept dump from line no_fault Between heard → 1 ≤ heard.lines
    → Hearing dump from level from line Between heard level
hearing-first dump from level line heard k b =
    record {
      kept = k;
      begun = b;
      moving = record { inside = k.inside; small = k.small; moments = λ time. refl; low = λ h. h };
    }

-- Another time line fits.
pub heard-small : (dump : List ℕ) (at line : ℕ) (mode : Mode) (heard : Heard) → Kept dump at line no_fault mode heard
    → length dump ≤ 9223372036854775808 → (heard.lines ≤ 9223372036854775808) × (heard.samples ≤ most_counted)
heard-small dump at line mode heard k m =
    let i = k.inside in
    let l = k.lines in
    let t = k.early in
    let f = k.fits refl in
    (omega arith, omega arith)

-- What `is_some` answers.
pub some-none : (n : Option Reason) → is_some n ≡ true → n ≡ None → ⊥
some-none n t e = true≢false (sym t ∙ ap is_some e)

pub none-some : (n : Option Reason) → is_some n ≡ false → n ≡ None
none-some None e = refl
none-some (Some r) e = absurd (true≢false e)

-- No fault joined to none is none.
clear-joined : (n : Option Reason) (on : ℕ) → n ≡ None → no_fault ≡ joined_of no_fault n on
clear-joined n on z = rw z (sym (join-none no_fault on))

module _ (dump : List ℕ) (from level at line : ℕ) (mode : Mode) (heard : Heard) (levels : ℕ)
    (h : Hearing dump from level at line mode heard levels) where
  begun-so : ltb 0 heard.lines ≡ true
  begun-so = let b = h.begun in lt-ltb 0 heard.lines (omega arith)

  -- The end of the dump, without a fault there or with one.
  module _ (n : Option Reason) (t : tokens_from line (drop at dump) ≡ [])
      (e : number_in n ≡ end_by false (is_between (place_of mode)) (unfinished heard.lines heard.given)) where
    pub closes-end : n ≡ None → ClosesAt dump from level (record { moved = record { level = levels; next = None }; line = line; heard = heard })
    closes-end z =
        record {
          moves = moves-none dump from level at line mode levels h.moving t;
          goes = accepted-end dump at line mode heard h.kept t (sym e ∙ ap number_in z);
        }

    pub ends-badly : (n ≡ None → ⊥) → Faulty dump
    ends-badly z = end-faulty dump at line mode heard h.kept n t e z

  -- One token more.
  module _ (begins to on : ℕ) (f : FindsWord dump at line begins to on) (r : Option Change)
      (e : change_meant r ≡ says_of (body_at dump (place_of mode) true) (take (to - begins) (drop begins dump))) where
    said : change_meant r ≡ says_of (reading_at dump mode heard) (take (to - begins) (drop begins dump))
    said = rw begun-so e

    pub hearing-moves : (next : Mode) → r ≡ Some (Moves next) → Hearing dump from level to on next heard levels
    hearing-moves next m =
        record {
          kept = turn-moves dump at line no_fault mode heard h.kept begins to on f r next said m;
          begun = h.begun;
          moving = moving-moves dump from level at line mode levels h.moving begins to on f r e next m;
        }

    -- A value that its wires take, or do not.
    module _ (c marks : ℕ) (n : Option Reason) (m : r ≡ Some (Value c marks)) (p : number_in n ≡ fault_if (unfit c marks) 23) where
      pub hearing-value : (v given l : ℕ) → n ≡ None → v ≡ level_of c → l ≡ laid v marks levels → l ≤ 15 → given ≡ laid 1 marks heard.given
          → Hearing dump from level to on mode
          (record { lines = heard.lines; time = heard.time; given = given; samples = heard.samples }) l
      hearing-value v given l z q w u g =
          record {
            kept = turn-value dump at line no_fault mode heard h.kept begins to on f r c marks said m n p given no_fault (clear-joined n on z) g;
            begun = h.begun;
            moving = moving-value dump from level at line mode levels h.moving begins to on f r e c marks m q w u;
          }

      pub unfit-faulty : (n ≡ None → ⊥) → Faulty dump
      unfit-faulty z =
          kept-faulty dump to on (joined_of no_fault n on) mode _
          (turn-value dump at line no_fault mode heard h.kept begins to on f r c marks said m n p _ (joined_of no_fault n on) refl refl)
          (first-is n on z)

    -- The time line that closes the moment, in its time or late.
    module _ (t : ℕ) (n : Option Reason) (m : r ≡ Some (Time t)) (p : number_in n ≡ late_of heard.lines heard.time heard.given t) where
      pub closes-time : (next : Heard) → n ≡ None → next ≡ taken_by true heard t
          → ClosesAt dump from level
          (record { moved = record { level = levels; next = Some (record { at = to; time = t }) }; line = on; heard = next })
      closes-time next z w =
          let b = h.begun in
          record {
            moves = moves-time dump from level at line mode levels h.moving begins to on f r e t m;
            goes =
                record {
                  kept =
                      rw (time-between dump mode true at line begins to on f r e t m) at
                      (turn-time dump at line no_fault mode heard h.kept begins to on f r t said m n p true (λ e. refl) no_fault next (clear-joined n on z) w);
                  same = rw w;
                  begun = rw w (omega arith);
                };
          }

      pub late-faulty : (n ≡ None → ⊥) → Faulty dump
      late-faulty z =
          kept-faulty dump to on (joined_of no_fault n on) mode _
          (turn-time dump at line no_fault mode heard h.kept begins to on f r t said m n p true (λ e. refl) (joined_of no_fault n on) _ refl refl)
          (first-is n on z)

    -- A malformed token.
    pub broken-faulty : r ≡ None → Faulty dump
    broken-faulty m = breaks-faulty dump at line mode heard h.kept begins to on f r said m
