-- Each verdict that an operation comes to has a number from 1 to 23, so that some reply says it; of the reading of an image
-- `image_claims/proofs/Numbered` says so. No axiom is used.
use Prim.Native.Nat.{ℕ, ◌+◌, ◌≤◌}
use mathlib.Core.Bool.{Bool, true, false}
use mathlib.Core.List.{List, [], ◌∷◌}
use mathlib.Core.Path.{◌≡◌, refl}
use native.Mathlib.Omega.{arith}
use lib.Dec.{eqb, leb}
use lib.ListN.{length}
use borrow.Author.Tests.{eqb-false}
use Rattle.ground.specs.Kind.{kind_of, known}
use Rattle.ground.specs.Verdict.{Verdict, accepted, refused}
use Rattle.ground.proofs.Verdicts.{Numbered}
use Rattle.part.specs.declared.state.State.{State}
use Rattle.limits.specs.Samples.{sample_by, samples_of}
use Rattle.refusals.specs.Refusals.{storable, in_range, rows_by, answers_by, power_by, power_of, judged_of, capture_of}
use Rattle.entries.specs.Entries.{Placed}
use Rattle.transfers.specs.Promises.{listed_by}
use Rattle.forms.specs.Form.{Form}
use Rattle.image.specs.Promises.{write_by, write_verdict}
use Rattle.image_claims.proofs.Numbered.{Number, acceptance, refusal}
use Rattle.sections.specs.Sections.{Says, moves, codes, names, defines, times, puts, breaks}
use Rattle.tokens.specs.Tokens.{Token, tokens_from, last_line}
use Rattle.dumps.specs.Reading.{Known, unread, says_of as heard_says, after}
use Rattle.dumps.specs.Faults.{Heard as Sum, unheard, heard_by, fault_if, time_fault, fault_by, end_by, end_fault, Fault, note_by, note, faults_from, faults_of, first_by, first, least_from, verdict_by, dump_verdict}
use Rattle.places.specs.Places.{open_by, open_verdict, report_by}

-- Power-up.
powered : (a b c : Bool) → Numbered (power_by a b c)
powered false b c = refusal 1 0 (omega arith) (omega arith)
powered true false c = refusal 2 0 (omega arith) (omega arith)
powered true true false = refusal 3 0 (omega arith) (omega arith)
powered true true true = acceptance 0

pub power-numbered : (part select stored : ℕ) → Numbered (power_of part select stored)
unfolding power_of
power-numbered part select stored = powered (known part) (leb select 3) (storable stored)

-- A replay and a list: the rows, then the samples.
rows : (a b c d : Bool) (v : Verdict) → Numbered v → Numbered (rows_by a b c d v)
rows false b c d v h = refusal 4 0 (omega arith) (omega arith)
rows true false c d v h = refusal 5 0 (omega arith) (omega arith)
rows true true false d v h = refusal 6 0 (omega arith) (omega arith)
rows true true true false v h = refusal 7 0 (omega arith) (omega arith)
rows true true true true v h = h

answers : (a : Bool) (v : Verdict) → Numbered v → Numbered (answers_by a v)
answers false v h = refusal 8 0 (omega arith) (omega arith)
answers true v h = h

samples : (place : ℕ) (es ls : List ℕ) (v : Verdict) → Numbered v → Numbered (samples_of place es ls v)
samples place [] ls v h = h
samples place (e ∷ es) [] v h = h
samples place (e ∷ es) (l ∷ ls) v h = go (leb e 100000) (leb l 15) (samples (place + 1) es ls v h)
  where
    go : (a b : Bool) {w : Verdict} → Numbered w → Numbered (sample_by a b place w)
    go false b k = refusal 9 place (omega arith) (omega arith)
    go true false k = refusal 10 place (omega arith) (omega arith)
    go true true k = k

pub judged-numbered : (s : State) (es ls array row : List ℕ) → Numbered (judged_of s es ls array row)
unfolding judged_of
judged-numbered s es ls array row =
    rows (in_range s) (eqb (length array) (kind_of s.chip.part).size) (eqb (length es) (length ls)) (leb (length ls) 65536) _
    (answers (eqb (length row) (length ls)) _ (samples 0 es ls _ (acceptance (length ls))))

pub capture-numbered : (s : State) (es ls array : List ℕ) → Numbered (capture_of s es ls array)
unfolding capture_of
capture-numbered s es ls array =
    rows (in_range s) (eqb (length array) (kind_of s.chip.part).size) (eqb (length es) (length ls)) (leb (length ls) 65536) _
    (samples 0 es ls _ (acceptance (length ls)))

-- An image that is written.
written : (a b c : Bool) (n : ℕ) → Numbered (write_by a b c n)
written false b c n = refusal 1 0 (omega arith) (omega arith)
written true false c n = refusal 5 0 (omega arith) (omega arith)
written true true false n = refusal 19 0 (omega arith) (omega arith)
written true true true n = acceptance n

pub write-numbered : (form : Form) (part : ℕ) (array out : List ℕ) → Numbered (write_verdict form part array out)
unfolding write_verdict
write-numbered form part array out = written _ _ _ _

-- A list counts its entries where it is accepted.
pub listed-numbered : (v : Verdict) (xs : List Placed) → Numbered v → Numbered (listed_by v xs)
listed-numbered (accepted n) xs h = acceptance _
listed-numbered (refused k p) xs h = h

-- A dump: each fault's number, and so the least one's.
fault-at-most : (b : Bool) (k : ℕ) → k ≤ 23 → fault_if b k ≤ 23
fault-at-most true k h = h
fault-at-most false k h = omega arith

time-at-most : (a b : Bool) → time_fault a b ≤ 23
time-at-most true b = omega arith
time-at-most false b = fault-at-most b 23 (omega arith)

token-at-most : (s : Says) (r : Known) (h : Sum) (w : List ℕ) → fault_by s r h w ≤ 23
unfolding fault_by
token-at-most (moves spot) r h w = omega arith
token-at-most codes r h w = omega arith
token-at-most names r h w = fault-at-most _ 21 (omega arith)
token-at-most defines r h w = fault-at-most _ 21 (omega arith)
token-at-most (times t) r h w = time-at-most _ _
token-at-most (puts c marks) r h w = fault-at-most _ 23 (omega arith)
token-at-most breaks r h w = omega arith

end-at-most : (a b c : Bool) → end_by a b c ≤ 23
end-at-most true b c = omega arith
end-at-most false false c = omega arith
end-at-most false true c = fault-at-most c 23 (omega arith)

abbrev Faulted : List Fault → Type 0
Faulted [] = Unit {0}
Faulted (f ∷ fs) = Number f.number × Faulted fs

noted : (line number : ℕ) (fs : List Fault) → number ≤ 23 → Faulted fs → Faulted (note line number fs)
unfolding note
noted line number fs h t = go (eqb number 0) refl
  where
    go : (b : Bool) → eqb number 0 ≡ b → Faulted (note_by b line number fs)
    go true e = t
    go false e = let z = eqb-false number 0 e in ((omega arith, h), t)

all-faults : (r : Known) (h : Sum) (ts : List Token) (last : ℕ) → Faulted (faults_from r h ts last)
unfolding end_fault
all-faults r h [] last = noted last (end_fault r h) [] (end-at-most _ _ _) tt
all-faults r h (t ∷ ts) last =
    noted t.line _ _ (token-at-most (heard_says r t.word) r h t.word)
    (all-faults (after r t.word) (heard_by (heard_says r t.word) h) ts last)

earlier : (b : Bool) (f g : Fault) → Number f.number → Number g.number → Number (first_by b f g).number
earlier true f g m n = m
earlier false f g m n = n

least-number : (fs : List Fault) (f : Fault) → Number f.number → Faulted fs → Number (least_from f fs).number
unfolding first
least-number [] f n t = n
least-number (g ∷ gs) f n t = least-number gs (first f g) (earlier _ f g n t.0) t.1

by-faults : (fs : List Fault) (n : ℕ) → Faulted fs → Numbered (verdict_by fs n)
by-faults [] n t = acceptance n
by-faults (f ∷ fs) n t = let m = least-number fs f t.0 t.1 in refusal _ _ m.0 m.1

pub dump-numbered : (dump : List ℕ) → Numbered (dump_verdict dump)
unfolding dump_verdict faults_of
dump-numbered dump = by-faults _ _ (all-faults unread unheard (tokens_from 0 dump) (last_line dump))

-- A report: part and array first, then the dump.
opened : (v : Verdict) (b : Bool) (w : Verdict) → Numbered v → Numbered w → Numbered (open_by v b w)
opened (accepted n) true w h k = k
opened (accepted n) false w h k = refusal 5 0 (omega arith) (omega arith)
opened (refused j q) b w h k = h

pub open-numbered : (part select stored : ℕ) (dump array : List ℕ) → Numbered (open_verdict part select stored dump array)
unfolding open_verdict
open-numbered part select stored dump array = opened _ _ _ (power-numbered part select stored) (dump-numbered dump)

pub report-numbered : (v : Verdict) (n : ℕ) → Numbered v → Numbered (report_by v n)
report-numbered (accepted m) n h = acceptance n
report-numbered (refused k p) n h = h
